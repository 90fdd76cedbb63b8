-- Numbers taken from the front of a file.
-- `bytes_after`: what follows any front of bytes is bytes.
-- `taken_view`: a number that is taken is within its limits, and in bytes its groups stand in front.
-- `take_groups`: from the groups of a number within its limits it is taken, whatever follows.
use mathlib.Core.Bool.{Bool}
use mathlib.Core.List.{List, [], ◌∷◌, ◌++◌}
use mathlib.Core.Path.{◌≡◌, refl, ap, subst, ◌∙◌}
use Prim.Native.Nat.{ℕ, suc, ◌+◌, ◌-◌, ◌*◌, ◌/◌, ◌%◌, ◌≤◌}
use native.Mathlib.Omega.{arith}
use lib.ListN.{length, length-append}
use lib.Seq.{get_or-append-add}
use Rattle.labels.proofs.Clashes.{clash}
use Rattle.labels.proofs.Numbers.{Ltb, lt_yes, lt_no, ltb_view}
use Rattle.files.specs.Groups.{groups_of, InGroups, last_group, lower_group}
use Rattle.files.specs.Groups.{NumberRead, no_number, number, above, read_number}
use Rattle.files.specs.FileReads.{OfBytes, take_number}
use Rattle.files.proofs.NumberReads.{read_last, read_lower, Takes, take_some, takes_of}
use Rattle.files.proofs.Numbers.{numbers_in_groups}

-- What follows any front of bytes is bytes.
pub bytes_after : {text : List ℕ} (front rest : List ℕ) → text ≡ front ++ rest → OfBytes text → OfBytes rest
bytes_after front rest whole bytes i =
    rw (whole, get_or-append-add front rest i 0) at (bytes (length front + i))

-- ---- what is read

-- a number that is read stands in front, and in bytes it is written in groups there
data NumberSeen (text : List ℕ) : NumberRead → Type 0 where
  unseen : NumberSeen text no_number
  seen : (n : ℕ) (front rest : List ℕ) → text ≡ front ++ rest → (OfBytes text → InGroups front n)
      → NumberSeen text (number n rest)

-- A byte with its top bit set is a lower group.
lower_byte : (byte n : ℕ) (front : List ℕ) → 128 ≤ byte → byte ≤ 255 → InGroups front n
    → InGroups (byte ∷ front) (byte - 128 + 128 * n)
lower_byte byte n front large small written =
    let whole : ℕ = byte - 128 + 128 * n in
    let bits : 128 + whole % 128 ≡ byte = omega arith in
    let others : whole / 128 ≡ n = omega arith in
    subst (λ (b : ℕ). InGroups (b ∷ front) whole) bits (lower_group whole front (rw others written))

-- What reading a number finds.
seen_view : (text : List ℕ) → NumberSeen text (read_number text)
unfolding read_number
seen_view [] = unseen
seen_view (byte ∷ rest) = by_test (ltb_view byte 128) (seen_view rest)
  where
    further : {r : NumberRead} → 128 ≤ byte → NumberSeen rest r → NumberSeen (byte ∷ rest) (above (byte - 128) r)
    further large unseen = unseen
    further large (seen n front more whole written) =
        seen (byte - 128 + 128 * n) (byte ∷ front) more (ap (λ (l : List ℕ). byte ∷ l) whole)
        (λ bytes. lower_byte byte n front large (bytes 0) (written (λ i. bytes (suc i))))

    by_test : {b : Bool} → Ltb byte 128 b → NumberSeen rest (read_number rest)
        → NumberSeen (byte ∷ rest) (read_number (byte ∷ rest))
    by_test (lt_yes small) later =
        rw (read_last byte rest small) (seen byte (byte ∷ []) rest refl (λ bytes. last_group byte small))
    by_test (lt_no large) later = rw (read_lower byte rest large) (further large later)

-- ---- what is taken

module _ (lowest highest : ℕ) where
  -- a number that is taken is within its limits, and in bytes its groups stand in front
  pub data NumberTaken (text : List ℕ) : NumberRead → Type 0 where
    untaken : NumberTaken text no_number
    taken : (n : ℕ) (rest : List ℕ) → lowest ≤ n → n ≤ highest → (OfBytes text → text ≡ groups_of n ++ rest)
        → NumberTaken text (number n rest)

  module _ (text : List ℕ) where
    -- Of bytes, no other groups stand in front.
    groups_in_front : (n : ℕ) (rest : List ℕ) → Takes lowest highest text n rest → OfBytes text
        → text ≡ groups_of n ++ rest
    groups_in_front n rest takes bytes = by_seen (seen_view text) takes.read
      where
        by_seen : {r : NumberRead} → NumberSeen text r → r ≡ number n rest → text ≡ groups_of n ++ rest
        by_seen unseen is = clash cc
        by_seen (seen m front after whole written) is =
            let same : m ≡ n = cc in
            let same_rest : after ≡ rest = cc in
            let few : length front ≤ length (groups_of m) =
            omega (
              arith,
              takes.needed,
              ap length whole,
              length-append front after,
              ap length same_rest,
              ap (λ (k : ℕ). length (groups_of k)) same,
            ) in
            rw (← same, ← same_rest)
            (whole ∙ ap (λ (l : List ℕ). l ++ after) (numbers_in_groups.only m front (written bytes) few))

    -- What taking a number finds.
    pub taken_view : NumberTaken text (take_number lowest highest text)
    taken_view = by_taken (take_number lowest highest text) refl
      where
        by_taken : (r : NumberRead) → take_number lowest highest text ≡ r → NumberTaken text r
        by_taken no_number is = untaken
        by_taken (number n rest) is =
            let takes = takes_of lowest highest text n rest is in
            taken n rest takes.low takes.high (groups_in_front n rest takes)

  -- From the groups of a number within its limits it is taken, whatever follows.
  pub take_groups : (n : ℕ) (rest : List ℕ) → lowest ≤ n → n ≤ highest
      → take_number lowest highest (groups_of n ++ rest) ≡ number n rest
  take_groups n rest low high =
      take_some lowest highest (groups_of n ++ rest) n rest
      (record {
        read = numbers_in_groups.read_back n rest;
        needed = omega (arith, length-append (groups_of n) rest);
        low = low;
        high = high;
      })
