-- The bytes of a written-out store.
-- `length_of_written_store`: it has the right length. `part_of_written`: the part of a slot is its label and zeros.
-- `label_of_written`: a label that fits is read back.
-- `zero_parts_of_written`: the parts above a mark are zeros where no slot above it has a label.
-- `stores_extend`: stores with the same parts are equal.
use mathlib.Core.Bool.{true}
use mathlib.Core.List.{List, [], ◌++◌}
use mathlib.Core.Path.{◌≡◌, ap, ◌∙◌}
use Prim.Native.Nat.{ℕ, suc, ◌+◌, ◌-◌, ◌*◌, ◌≤◌, ◌<◌}
use native.Mathlib.Nat.{mul_comm}
use native.Mathlib.Omega.{arith}
use lib.ListN.{length, take, drop}
use lib.Seq.{take_at, take-append-le}
use Rattle.types.specs.declared.Limits.{Limits}
use Rattle.types.specs.Sizes.{store_length}
use Rattle.trees.specs.Plain.{State}
use Rattle.tables.specs.Words.{part_start, part_at, label_at}
use Rattle.tables.specs.Written.{slot_label, parts_from, written_store}
use Rattle.tables.specs.Sound.{all_zero}
use Rattle.written.proofs.Chunks.{padded, length_of_padded, front_of_padded, parts_extend}
use Rattle.written.proofs.Chunks.{length_of_parts, drop_of_parts, part_of_parts}
use Rattle.written.proofs.Zeros.{all_zero_parts}

module _ (limits : Limits) (s : State) where
  -- A written-out store has the right length.
  pub length_of_written_store : length (written_store limits s) ≡ store_length limits
  unfolding written_store
  length_of_written_store =
      length_of_parts limits.width (slot_label s) 1 limits.slots ∙ mul_comm limits.width limits.slots

  -- the parts after slot k's
  abbrev parts_after : ℕ → List ℕ
  parts_after k = parts_from limits.width (slot_label s) (suc k) (limits.slots - k)

  -- What stands at a slot's part: the part, and those after it.
  at_part : (k : ℕ) → 1 ≤ k → k ≤ limits.slots
      → drop (part_start limits k) (written_store limits s)
      ≡ padded limits.width (slot_label s k)
      ++ parts_after k
  unfolding written_store
  at_part k low up =
      let here : 1 + (k - 1) ≡ k = omega arith in
      let before : limits.slots - suc (k - 1) ≡ limits.slots - k = omega arith in
      part_of_parts limits.width (slot_label s) 1 (k - 1) limits.slots (omega arith) ∙ rw (here, before)

  -- The part of a slot is its label and zeros.
  pub part_of_written : (k : ℕ) → 1 ≤ k → k ≤ limits.slots
      → part_at limits (written_store limits s) k ≡ padded limits.width (slot_label s k)
  unfolding part_at
  part_of_written k low up =
      ap (take limits.width) (at_part k low up)
      ∙ take_at (padded limits.width (slot_label s k)) (parts_after k)
      limits.width (length_of_padded limits.width (slot_label s k))

  -- A label that fits is read back.
  pub label_of_written : (k : ℕ) → 1 ≤ k → k ≤ limits.slots → length (slot_label s k) ≤ limits.width
      → label_at limits (written_store limits s) k (length (slot_label s k)) ≡ slot_label s k
  unfolding label_at
  label_of_written k low up fits =
      ap (take (length (slot_label s k))) (at_part k low up)
      ∙ take-append-le (length (slot_label s k)) (padded limits.width (slot_label s k))
      (parts_after k)
      (omega (arith, length_of_padded limits.width (slot_label s k)))
      ∙ front_of_padded limits.width (slot_label s k) fits

  -- The parts above a mark are zeros where no slot above it has a label.
  pub zero_parts_of_written : (mark : ℕ) → mark ≤ limits.slots
      → ((k : ℕ) → mark < k → k ≤ limits.slots → slot_label s k ≡ [])
      → all_zero (drop (limits.width * mark) (written_store limits s)) ≡ true
  unfolding written_store
  zero_parts_of_written mark up none =
      let split : limits.slots ≡ mark + (limits.slots - mark) = omega arith in
      ap (λ (n : ℕ). all_zero (drop (limits.width * mark) (parts_from limits.width (slot_label s) 1 n))) split
      ∙ rw (drop_of_parts limits.width (slot_label s) 1 mark (limits.slots - mark))
      (all_zero_parts limits.width (slot_label s) (1 + mark) (limits.slots - mark)
      (λ j low high. ap all_zero (none j (omega arith) (omega arith))))

-- Stores with the same parts are equal.
pub stores_extend : (limits : Limits) (one other : List ℕ)
    → length one ≡ store_length limits → length other ≡ store_length limits
    → ((k : ℕ) → 1 ≤ k → k ≤ limits.slots → part_at limits one k ≡ part_at limits other k) → one ≡ other
unfolding part_at
stores_extend limits one other one_long other_long parts =
    parts_extend limits.width limits.slots one other
    (one_long ∙ mul_comm limits.slots limits.width) (other_long ∙ mul_comm limits.slots limits.width) agree
  where
    agree : (i : ℕ) → i < limits.slots
        → take limits.width (drop (limits.width * i) one) ≡ take limits.width (drop (limits.width * i) other)
    agree i within =
        let start : suc i - 1 ≡ i = omega arith in
        rw start at (parts (suc i) (omega arith) (omega arith))
