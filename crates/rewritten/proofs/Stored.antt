-- Bytes stored at the front of a slot's part.
-- `part_before_lem`: the part of a lower slot ends where a higher one starts, or before.
-- `part_stored`: the slot's part after the store. `part_past_stored`: the parts of the other slots stay.
-- `padded_from`: a label before the zeros of a part that had none is the label's part.
use mathlib.Core.List.{List, [], ◌∷◌, ◌++◌, append_assoc}
use mathlib.Core.Path.{◌≡◌, refl, sym, ap, ◌∙◌}
use mathlib.Core.Logic.{◌≢◌}
use Prim.Native.Nat.{ℕ, zero, suc, ◌+◌, ◌-◌, ◌≤◌, ◌<◌}
use native.Mathlib.Nat.{zero-add, suc-add, mul-add, mul-suc, mul_comm}
use native.Mathlib.Decide.{dec_le}
use native.Mathlib.Omega.{arith}
use lib.ListN.{length, take, drop, length-append, length-drop, take-append-drop}
use lib.Seq.{sets, sets-eq, length-take-le, take-nil, take-append-le, drop-append-le, take-append-add}
use lib.Seq.{drop-append-add, drop_at, drop-drop}
use Rattle.types.specs.declared.Limits.{Limits}
use Rattle.types.specs.Sizes.{store_length}
use Rattle.labels.specs.Labels.{Label}
use Rattle.tables.specs.Words.{part_start, part_at}
use Rattle.written.proofs.Chunks.{padded}

-- What is left of a front is a front of what is left.
drop_of_take : (m n : ℕ) (list : List ℕ) → drop m (take (m + n) list) ≡ take n (drop m list)
drop_of_take zero n list = rw zero-add
drop_of_take (suc m) n [] = rw (take-nil (suc m + n)) (sym (take-nil n))
drop_of_take (suc m) n (a ∷ list) = rw suc-add (drop_of_take m n list)

-- The part of a lower slot ends where a higher one starts, or before.
pub part_before_lem : (limits : Limits) (j k : ℕ) → 1 ≤ j → j < k → part_start limits j + limits.width ≤ part_start limits k
part_before_lem limits j k low less =
    let steps : k - 1 ≡ suc (j - 1) + (k - 1 - j) = omega arith in
    rw steps (omega (arith, mul-add limits.width (suc (j - 1)) (k - 1 - j), mul-suc limits.width (j - 1)))

-- A label before the zeros of a part that had none is the label's part.
pub padded_from : (width : ℕ) (x : Label) → length x ≤ width → x ++ drop (length x) (padded width []) ≡ padded width x
padded_from width [] fits = refl
padded_from zero (byte ∷ x) fits = absurd (omega arith)
padded_from (suc width) (byte ∷ x) fits = ap (λ (l : List ℕ). byte ∷ l) (padded_from width x (omega arith))

module _ (width : ℕ) (store x : List ℕ) (i : ℕ) (short : length x ≤ width) (room : i + width ≤ length store) where
  -- Before the store's place there are as many bytes.
  front_long : length (take i store) ≡ i
  front_long = length-take-le i store (omega arith)

  -- what stands after the stored bytes
  abbrev after : List ℕ
  after = drop (i + length x) store

  -- The store after it.
  stored : sets store i x ≡ take i store ++ (x ++ after)
  stored = sets-eq x store i (omega arith) ∙ append_assoc (take i store) x after

  -- From the store's place: the bytes, and what stood after them.
  take_stored : take width (drop i (sets store i x)) ≡ x ++ drop (length x) (take width (drop i store))
  take_stored =
      let rest : width ≡ length x + (width - length x) = omega arith in
      ap (λ (l : List ℕ). take width (drop i l)) stored
      ∙ ap (take width) (drop_at (take i store) (x ++ after) i front_long)
      ∙ ap (λ (n : ℕ). take n (x ++ after)) rest
      ∙ take-append-add x after (width - length x)
      ∙ ap (λ (l : List ℕ). x ++ l) (sym (
      ap (λ (n : ℕ). drop (length x) (take n (drop i store))) rest
      ∙ drop_of_take (length x) (width - length x) (drop i store)
      ∙ ap (take (width - length x)) (drop-drop (length x) i store)
      ))

  -- Before the store's place nothing changes,
  take_before : (j : ℕ) → j + width ≤ i → take width (drop j (sets store i x)) ≡ take width (drop j store)
  take_before j past =
      ap (λ (l : List ℕ). take width (drop j l)) stored ∙ front (x ++ after)
      ∙ sym (front (drop i store)) ∙ ap (λ (l : List ℕ). take width (drop j l)) (take-append-drop i store)
    where
      front : (back : List ℕ) → take width (drop j (take i store ++ back)) ≡ take width (drop j (take i store))
      front back =
          ap (take width) (drop-append-le j (take i store) back (omega (arith, front_long)))
          ∙ take-append-le width (drop j (take i store)) back (omega (arith, length-drop j (take i store), front_long))

  -- nor where the part ends, or after.
  drop_after : (j : ℕ) → i + width ≤ j → drop j (sets store i x) ≡ drop j store
  drop_after j past =
      let long : length (take i store ++ x) ≡ i + length x =
      omega (arith, length-append (take i store) x, front_long) in
      let rest : j ≡ length (take i store ++ x) + (j - (i + length x)) = omega arith in
      let whole : (i + length x) + (j - (i + length x)) ≡ j = omega arith in
      ap (drop j) (stored ∙ sym (append_assoc (take i store) x after))
      ∙ ap (λ (n : ℕ). drop n ((take i store ++ x) ++ after)) rest
      ∙ drop-append-add (take i store ++ x) after (j - (i + length x))
      ∙ drop-drop (j - (i + length x)) (i + length x) store
      ∙ ap (λ (n : ℕ). drop n store) whole

module _ (limits : Limits) (store : List ℕ) (long : length store ≡ store_length limits)
    (k : ℕ) (low : 1 ≤ k) (up : k ≤ limits.slots) (x : List ℕ) (short : length x ≤ limits.width) where
  -- A slot's part lies within the store.
  part_fits : part_start limits k + limits.width ≤ length store
  part_fits =
      let steps : suc limits.slots - 1 ≡ limits.slots = omega arith in
      let next = part_before_lem limits k (suc limits.slots) low (omega arith) in
      rw (long, mul_comm limits.slots limits.width) (rw steps at next)

  -- The slot's part after the store.
  pub part_stored : part_at limits (sets store (part_start limits k) x) k ≡ x ++ drop (length x) (part_at limits store k)
  unfolding part_at
  part_stored = take_stored limits.width store x (part_start limits k) short part_fits

  -- The parts of the other slots stay.
  pub part_past_stored : (j : ℕ) → 1 ≤ j → j ≢ k
      → part_at limits (sets store (part_start limits k) x) j ≡ part_at limits store j
  unfolding part_at
  part_past_stored j from apart = go (dec_le j k)
    where
      go : Dec (j ≤ k)
          → take limits.width (drop (part_start limits j) (sets store (part_start limits k) x))
          ≡ take limits.width (drop (part_start limits j) store)
      go (yes below) =
          take_before limits.width store x (part_start limits k) short part_fits (part_start limits j)
          (part_before_lem limits j k from (omega (arith, apart)))
      go (no above) =
          ap (take limits.width) (drop_after limits.width store x (part_start limits k) short part_fits
          (part_start limits j) (part_before_lem limits k j low (omega arith)))
