-- The test of a node between its neighbours, and that of a freed slot; what the test of a node takes for granted.
use Rattle.std.specs.Prelude.{◌≡◌, ℕ, ◌≤◌, Bool, ◌&&◌, List, drop, ◌==◌, nat_le, Option}
use Rattle.types.specs.declared.Limits.{Limits}
use Rattle.types.specs.declared.Row.{Row}
use Rattle.labels.specs.Neighbours.{Neighbour, held, difference}
use Rattle.trees.specs.Charges.{is_charge}
use Rattle.tables.specs.Words.{row_at, part_at, entry_at}
use Rattle.tables.specs.Prefix.{place_within, side_within}
use Rattle.tables.specs.Sound.{all_zero, used_slot, zero_besides_left}
use Rattle.gaps.specs.Windows.{below_in, above_in, is_before, Between}
use Rattle.gaps.specs.Gapped.{both_when}
use Rattle.gaps.specs.declared.Gaps.{Gaps}

-- a slot in use, of which the row was read
unfoldable pub used_row : Limits → (store : List ℕ) → ℕ → Row → Bool
used_row limits store k row =
    nat_le 1 row.len
    && (nat_le row.len limits.width && (is_charge row.charge && all_zero (drop row.len (part_at limits store k))))

-- a freed slot, of which the row was read
unfoldable pub freed_row : Limits → (store : List ℕ) → ℕ → Row → Bool
freed_row limits store k row = zero_besides_left row && all_zero (part_at limits store k)

-- the node in slot k, between the neighbours p and s: its words and bytes, the order, its place and side
unfoldable pub node_fine : Limits → (table store : List ℕ) → ℕ → Neighbour → Neighbour → Bool
node_fine limits table store k p s =
    used_slot limits table store k
    && (is_before p (held (entry_at limits table store k).label)
    && (is_before (held (entry_at limits table store k).label) s
    && ((row_at table k).place == place_within p (entry_at limits table store k).label s
    && (row_at table k).side == side_within p (entry_at limits table store k).label s)))

-- the test of the node in slot k, between the nodes in two slots
abbrev pub fine_between : Limits → (table store : List ℕ) → (k below above : ℕ) → Bool
fine_between limits table store k below above =
    node_fine limits table store k (below_in limits table store below) (above_in limits table store above)

-- and its difference places with both, where it passes
unfoldable pub fine_gaps : Limits → (table store : List ℕ) → (k below above : ℕ) → Option Gaps
fine_gaps limits table store k below above =
    both_when (fine_between limits table store k below above)
    (difference (below_in limits table store below) (held (entry_at limits table store k).label))
    (difference (held (entry_at limits table store k).label) (above_in limits table store above))

-- a node whose row was read, between two slots
pub record NodeFits (limits : Limits) (table store : List ℕ) (k : ℕ) (row : Row) (below above apart : ℕ) : Type 0 where
  pub low : 1 ≤ k
  pub high : k ≤ limits.slots
  pub read : row ≡ row_at table k
  pub between : Between limits table store below above apart
