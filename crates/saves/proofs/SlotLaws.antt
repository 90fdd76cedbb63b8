-- The entry of a slot, from the label that was read there.
-- `length_of_label`, `length_as`: its length. `room_of_label`, `filled_as`: its bytes.
use mathlib.Core.List.{List}
use mathlib.Core.Path.{◌≡◌, ap, ◌∙◌}
use Prim.Native.Nat.{ℕ, ◌^◌, ◌<◌}
use lib.ListN.{length}
use Rattle.types.specs.declared.Limits.{Limits}
use Rattle.types.specs.declared.Row.{Row}
use Rattle.tables.specs.Words.{label_at}
use Rattle.words.specs.Filled.{Filled, HasRoom}
use Rattle.files.specs.Files.{entry_of}
use Rattle.saves.specs.Saved.{entry_in_slot}

module _ (limits : Limits) (store : List ℕ) (slot : ℕ) (row : Row) (label : List ℕ)
    (read : label ≡ label_at limits store slot row.len) where
  pub length_of_label : length (entry_in_slot limits store slot row) < 2 ^ 64
      → length (entry_of label row.value) < 2 ^ 64
  length_of_label few = rw read few

  pub length_as : (count : ℕ) → count ≡ length (entry_of label row.value)
      → count ≡ length (entry_in_slot limits store slot row)
  length_as count is = is ∙ ap (λ (x : List ℕ). length (entry_of x row.value)) read

  pub room_of_label : (at : ℕ) (output : List ℕ) → HasRoom (entry_in_slot limits store slot row) at output
      → HasRoom (entry_of label row.value) at output
  room_of_label at output room = rw read room

  pub filled_as : (before : List ℕ) (at : ℕ) (after : List ℕ) (next : ℕ)
      → Filled (entry_of label row.value) before at after next
      → Filled (entry_in_slot limits store slot row) before at after next
  filled_as before at after next filled = rw (← read) filled
