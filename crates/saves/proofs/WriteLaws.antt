-- The entries at a link, written from a position on.
-- `written_node`: those of the left son, the node's own and those of the right son, one after the other, are all.
use mathlib.Core.List.{List, ◌++◌}
use mathlib.Core.Path.{◌≡◌}
use Prim.Native.Nat.{ℕ, ◌-◌, ◌≤◌}
use Rattle.types.specs.declared.Limits.{Limits}
use Rattle.types.specs.declared.Row.{Row}
use Rattle.tables.specs.Words.{row_at}
use Rattle.words.specs.Filled.{Filled}
use Rattle.words.proofs.Fills.{filled_in_turn}
use Rattle.saves.specs.Saved.{entry_in_slot, entries_from}
use Rattle.saves.proofs.SavedLaws.{entries_at_node}

module _ (limits : Limits) (table store : List ℕ) (remaining link : ℕ) (row : Row) (tall : remaining ≡ 0 → ⊥)
    (some : link ≡ 0 → ⊥) (within : link ≤ limits.slots) (is_row : row ≡ row_at table link) where
  -- the entries of a son, and the node's own
  abbrev of : ℕ → List ℕ
  of son = entries_from limits table store (remaining - 1) son

  abbrev own : List ℕ
  own = entry_in_slot limits store link row

  -- One after the other they are all.
  pub written_node : (output first second after : List ℕ) (at middle next end : ℕ)
      → Filled (of row.left) output at first middle → Filled own first middle second next
      → Filled (of row.right) second next after end
      → Filled (entries_from limits table store remaining link) output at after end
  written_node output first second after at middle next end begun gone_on ended =
      rw (entries_at_node limits table store remaining link row tall some within is_row)
      (filled_in_turn (of row.left) (own ++ of row.right) output first after at middle end begun
      (filled_in_turn own (of row.right) first second after middle next end gone_on ended))
