-- Numbers taken from the front of bytes.
-- `read_last`, `read_lower`: a group below 128 ends a number; any other has its seven lowest bits, and what follows is
-- read above them. `read_shortens`: a number leaves fewer bytes.
-- `Takes`: a number that is read, with no needless group and within its limit. `take_some`: such a number is taken.
-- `takes_of`: what is taken is such a number. `take_none`: where there is none, none is taken.
-- `none_at_end`: from no byte none is. `take_none_within`, `take_above_lowest`, `take_below_lowest`: with a lowest
-- number besides.
use mathlib.Core.Bool.{Bool, ◌||◌, cond}
use mathlib.Core.List.{List, [], ◌∷◌}
use mathlib.Core.Path.{◌≡◌, refl, ap}
use Prim.Native.Nat.{ℕ, suc, ◌+◌, ◌-◌, ◌≤◌, ◌<◌}
use native.Mathlib.Omega.{arith}
use lib.ListN.{length}
use borrow.Author.Tests.{lt-ltb, le-ltb}
use Rattle.labels.proofs.Clashes.{clash}
use Rattle.labels.proofs.Numbers.{Ltb, lt_yes, lt_no, ltb_view}
use Rattle.files.specs.Groups.{groups_of, NumberRead, no_number, number, above, read_number}
use Rattle.files.specs.FileReads.{number_within, take_number}

-- A group below 128 ends a number.
pub read_last : (byte : ℕ) (rest : List ℕ) → byte < 128 → read_number (byte ∷ rest) ≡ number byte rest
unfolding read_number
read_last byte rest small = rw (lt-ltb byte 128 small, read_number)

-- Any other has its seven lowest bits, and what follows is read above them.
pub read_lower : (byte : ℕ) (rest : List ℕ) → 128 ≤ byte
    → read_number (byte ∷ rest) ≡ above (byte - 128) (read_number rest)
unfolding read_number
read_lower byte rest large = rw (le-ltb byte 128 large, read_number)

-- a number read from the front of bytes, with none of its groups needless, within its limit
pub record Takes (lowest highest : ℕ) (text : List ℕ) (n : ℕ) (rest : List ℕ) : Type 0 where
  pub read : read_number text ≡ number n rest
  pub needed : length text ≤ length (groups_of n) + length rest
  pub low : lowest ≤ n
  pub high : n ≤ highest

module _ (lowest highest : ℕ) (text : List ℕ) where
  -- What is so is taken.
  pub take_some : (n : ℕ) (rest : List ℕ) → Takes lowest highest text n rest
      → take_number lowest highest text ≡ number n rest
  unfolding take_number
  take_some n rest takes =
      rw (
        takes.read,
        le-ltb (length (groups_of n) + length rest) (length text) takes.needed,
        le-ltb n lowest takes.low,
        le-ltb highest n takes.high,
      )

  -- What a number that was read gives, by its tests.
  by_tests : (r : NumberRead) → read_number text ≡ r → (n : ℕ) (rest : List ℕ)
      → number_within lowest highest text r ≡ number n rest → Takes lowest highest text n rest
  by_tests no_number is n rest taken = clash cc
  by_tests (number m after) is n rest taken =
      go (ltb_view (length (groups_of m) + length after) (length text)) (ltb_view m lowest) (ltb_view highest m) taken
    where
      go : {many few large : Bool} → Ltb (length (groups_of m) + length after) (length text) many → Ltb m lowest few
          → Ltb highest m large → cond (many || (few || large)) no_number (number m after) ≡ number n rest
          → Takes lowest highest text n rest
      go (lt_yes more) few large e = clash cc
      go (lt_no needed) (lt_yes below) large e = clash cc
      go (lt_no needed) (lt_no low) (lt_yes beyond) e = clash cc
      go (lt_no needed) (lt_no low) (lt_no high) e =
          let same : m ≡ n = cc in
          let after_same : after ≡ rest = cc in
          rw (← same, ← after_same) (record { read = is; needed = needed; low = low; high = high })

  -- What is taken is so.
  pub takes_of : (n : ℕ) (rest : List ℕ) → take_number lowest highest text ≡ number n rest
      → Takes lowest highest text n rest
  unfolding take_number
  takes_of n rest taken = by_tests (read_number text) refl n rest taken

  -- Where nothing is so, none is taken.
  pub take_none : ((n : ℕ) (rest : List ℕ) → Takes lowest highest text n rest → ⊥)
      → take_number lowest highest text ≡ no_number
  take_none nothing = go (take_number lowest highest text) refl
    where
      go : (r : NumberRead) → take_number lowest highest text ≡ r → take_number lowest highest text ≡ no_number
      go no_number is = is
      go (number n rest) is = absurd (nothing n rest (takes_of n rest is))

-- A number leaves fewer bytes than there are.
pub read_shortens : (text : List ℕ) (n : ℕ) (rest : List ℕ) → read_number text ≡ number n rest
    → length rest < length text
unfolding read_number
read_shortens [] n rest is = clash cc
read_shortens (byte ∷ more) n rest is =
    by_test (ltb_view byte 128) (read_number more) refl (λ m after. read_shortens more m after)
  where
    by_test : {b : Bool} → Ltb byte 128 b → (r : NumberRead) → read_number more ≡ r
        → ((m : ℕ) (after : List ℕ) → read_number more ≡ number m after → length after < length more)
        → length rest < suc (length more)
    by_test (lt_yes small) r read deeper =
        let same : more ≡ rest = cc (read_last byte more small) in
        omega (arith, ap length same)
    by_test (lt_no large) no_number read deeper = clash (cc (read_lower byte more large, ap (above (byte - 128)) read))
    by_test (lt_no large) (number m after) read deeper =
        let same : after ≡ rest = cc (read_lower byte more large, ap (above (byte - 128)) read) in
        omega (arith, ap length same, deeper m after read)

-- ---- no byte, and a lowest number

-- From no byte no number is taken.
pub none_at_end : (lowest highest : ℕ) → take_number lowest highest [] ≡ no_number
unfolding take_number read_number
none_at_end lowest highest = refl

module _ (lowest highest : ℕ) (text : List ℕ) where
  -- With a lowest number no more is taken.
  pub take_none_within : take_number 0 highest text ≡ no_number → take_number lowest highest text ≡ no_number
  take_none_within none =
      take_none lowest highest text
      (λ n rest takes. clash (cc (
        none,
        take_some 0 highest text n rest
            (record {
              read = takes.read;
              needed = takes.needed;
              low = omega arith;
              high = takes.high;
            }),
      )))

  module _ (n : ℕ) (rest : List ℕ) (taken : take_number 0 highest text ≡ number n rest) where
    pub take_above_lowest : lowest ≤ n → take_number lowest highest text ≡ number n rest
    take_above_lowest low =
        let takes = takes_of 0 highest text n rest taken in
        take_some lowest highest text n rest
        (record { read = takes.read; needed = takes.needed; low = low; high = takes.high })

    pub take_below_lowest : n < lowest → take_number lowest highest text ≡ no_number
    take_below_lowest below =
        take_none lowest highest text
        (λ m after takes.
        let same : n ≡ m = cc ((takes_of 0 highest text n rest taken).read, takes.read) in
        omega (arith, same, takes.low))
