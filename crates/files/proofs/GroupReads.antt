-- Numbers taken from bytes by their first group.
-- `last_taken`, `last_beyond`: a number of one group.
-- `lower_beyond`, `lower_cut`, `lower_needless`, `lower_over`, `lower_taken`: a number of more, by what is taken after
-- the first group.
use mathlib.Core.Bool.{Bool}
use mathlib.Core.List.{List, ◌∷◌}
use mathlib.Core.Path.{◌≡◌, refl, sym, ap, ◌∙◌}
use Prim.Native.Nat.{ℕ, ◌+◌, ◌-◌, ◌*◌, ◌/◌, ◌≤◌, ◌<◌}
use native.Mathlib.Omega.{arith}
use lib.ListN.{length}
use Rattle.labels.proofs.Clashes.{clash}
use Rattle.labels.proofs.Numbers.{Ltb, lt_yes, lt_no, ltb_view}
use Rattle.files.specs.Groups.{groups_of, NumberRead, no_number, number, above, read_number}
use Rattle.files.specs.FileReads.{take_number}
use Rattle.files.proofs.GroupLaws.{count_of_last, count_of_lower}
use Rattle.files.proofs.NumberReads.{read_last, read_lower, read_shortens, Takes, take_some, takes_of, take_none}

-- ---- one group

module _ (highest byte : ℕ) (rest : List ℕ) (small : byte < 128) where
  pub last_taken : byte ≤ highest → take_number 0 highest (byte ∷ rest) ≡ number byte rest
  last_taken high =
      take_some 0 highest (byte ∷ rest) byte rest
      (record {
        read = read_last byte rest small;
        needed = omega (arith, count_of_last byte small);
        low = omega arith;
        high = high;
      })

  pub last_beyond : highest < byte → take_number 0 highest (byte ∷ rest) ≡ no_number
  last_beyond beyond = take_none 0 highest (byte ∷ rest) refute
    where
      refute : (n : ℕ) (after : List ℕ) → Takes 0 highest (byte ∷ rest) n after → ⊥
      refute n after takes =
          let same : byte ≡ n = cc (read_last byte rest small, takes.read) in
          omega (arith, same, takes.high)

-- ---- more groups

module _ (highest byte : ℕ) (rest : List ℕ) (large : 128 ≤ byte) (is_byte_lem : byte < 256) where
  -- what the number above the lowest group is
  record Upper (n : ℕ) (after : List ℕ) : Type 0 where
    m : ℕ
    taken : Takes 0 (highest / 128) rest m after
    some : 1 ≤ m
    whole : n ≡ 128 * m + (byte - 128)

  -- A number of more groups than one is some number above its lowest.
  upper_of : (n : ℕ) (after : List ℕ) → Takes 0 highest (byte ∷ rest) n after → Upper n after
  upper_of n after takes = go (read_number rest) refl
    where
      go : (r : NumberRead) → read_number rest ≡ r → Upper n after
      go no_number is = clash (cc (read_lower byte rest large, ap (above (byte - 128)) is, takes.read))
      go (number m left) is =
          let is_number : number (byte - 128 + 128 * m) left ≡ number n after =
          sym (ap (above (byte - 128)) is) ∙ sym (read_lower byte rest large) ∙ takes.read in
          let is_n : byte - 128 + 128 * m ≡ n = cc in
          let is_left : left ≡ after = cc in
          by_size (ltb_view m 1) is_n is_left
        where
          by_size : {b : Bool} → Ltb m 1 b → byte - 128 + 128 * m ≡ n → left ≡ after → Upper n after
          by_size (lt_yes none) is_n is_left =
              absurd (omega (
                arith,
                takes.needed,
                count_of_last n (omega arith),
                read_shortens rest m left is,
                ap length is_left,
              ))
          by_size (lt_no some) is_n is_left =
              let groups : length (groups_of n) ≡ 1 + length (groups_of m) =
              count_of_lower n (omega arith) ∙ ap (λ (k : ℕ). 1 + length (groups_of k)) (omega arith) in
              record {
                m = m;
                taken =
                    record {
                      read = is ∙ ap (number m) is_left;
                      needed = omega (arith, takes.needed, groups);
                      low = omega arith;
                      high = omega (arith, takes.high);
                    };
                some = some;
                whole = omega arith;
              }

  -- No number that begins with such a group is below 128.
  pub lower_beyond : highest < 128 → take_number 0 highest (byte ∷ rest) ≡ no_number
  lower_beyond few =
      take_none 0 highest (byte ∷ rest)
      (λ n after takes. let up = upper_of n after takes in omega (arith, up.whole, up.some, takes.high))

  -- Where no number follows there is none.
  pub lower_cut : take_number 0 (highest / 128) rest ≡ no_number → take_number 0 highest (byte ∷ rest) ≡ no_number
  lower_cut none =
      take_none 0 highest (byte ∷ rest)
      (λ n after takes. let up = upper_of n after takes in
      clash (cc (none, take_some 0 (highest / 128) rest up.m after up.taken)))

  module _ (m : ℕ) (after : List ℕ) (taken : take_number 0 (highest / 128) rest ≡ number m after) where
    -- The number above the lowest group is the one that follows.
    same_upper : (n : ℕ) (left : List ℕ) → (up : Upper n left) → up.m ≡ m
    same_upper n left up = cc (taken, take_some 0 (highest / 128) rest up.m left up.taken)

    -- A number above the lowest group that is 0 is needless.
    pub lower_needless : m < 1 → take_number 0 highest (byte ∷ rest) ≡ no_number
    lower_needless none =
        take_none 0 highest (byte ∷ rest)
        (λ n left takes. let up = upper_of n left takes in omega (arith, up.some, same_upper n left up))

    -- A number beyond the limit is none.
    pub lower_over : highest < 128 * m + (byte - 128) → take_number 0 highest (byte ∷ rest) ≡ no_number
    lower_over beyond =
        take_none 0 highest (byte ∷ rest)
        (λ n left takes. let up = upper_of n left takes in
        omega (arith, up.whole, takes.high, same_upper n left up))

    -- Any other is taken.
    pub lower_taken : 1 ≤ m → 128 * m + (byte - 128) ≤ highest
        → take_number 0 highest (byte ∷ rest) ≡ number (128 * m + (byte - 128)) after
    lower_taken some high =
        let takes = takes_of 0 (highest / 128) rest m after taken in
        let n = 128 * m + (byte - 128) in
        let swapped : byte - 128 + 128 * m ≡ n = omega arith in
        let groups : length (groups_of n) ≡ 1 + length (groups_of m) =
        count_of_lower n (omega arith) ∙ ap (λ (k : ℕ). 1 + length (groups_of k)) (omega arith) in
        take_some 0 highest (byte ∷ rest) n after
        (record {
          read =
              read_lower byte rest large ∙ ap (above (byte - 128)) takes.read
              ∙ ap (λ (k : ℕ). number k after) swapped;
          needed = omega (arith, takes.needed, groups);
          low = omega arith;
          high = high;
        })
