-- The search steps at a node that stands in the rows of a table and the parts of a store.
-- `row_not_bad`: the row of such a node breaks no walk.
-- `steps_at_node`: the walk from its link, by any steps, is the walk by the step at its label, place and side, into its
-- sons.
use mathlib.Core.Bool.{Bool, true, false, cond}
use mathlib.Core.List.{List}
use mathlib.Core.Path.{◌≡◌, ◌∙◌}
use Prim.Native.Nat.{ℕ, zero, suc, ◌+◌, ◌≤◌}
use native.Mathlib.Omega.{arith}
use lib.Dec.{leb}
use lib.ListN.{length}
use borrow.Author.Tests.{le-ltb, ne_eqb}
use Rattle.types.specs.declared.Limits.{Limits}
use Rattle.labels.specs.Labels.{Label}
use Rattle.labels.specs.Neighbours.{Neighbour, held, difference}
use Rattle.labels.proofs.Difference.{difference_first, difference_second}
use Rattle.trees.specs.Trees.{Entry, Tree}
use Rattle.tables.specs.Words.{row_at, entry_at}
use Rattle.tables.specs.Prefix.{place_within, side_within, side_by}
use Rattle.tables.specs.Written.{link_of, node_row}
use Rattle.tables.specs.Steps.{StepRule, is_bad, walk_by, steps_by}
use Rattle.tables.proofs.Represents.{NodeHeld}

-- a side is 0 or 1
side_within_lem : (below above : ℕ) → side_by below above ≤ 1
side_within_lem below above = go (leb above below)
  where
    go : (b : Bool) → cond b 0 1 ≤ 1
    go true = omega arith
    go false = omega arith

-- the row of a node with a label of 1 to so many bytes is no bad one
pub row_not_bad : (limits : Limits) (p : Neighbour) (l : Tree) (e : Entry) (r : Tree) (s : Neighbour)
    → 1 ≤ length e.label → length e.label ≤ limits.width → is_bad limits (node_row p l e r s) ≡ false
unfolding is_bad
row_not_bad limits p l e r s some short =
    rw (
      ne_eqb (length e.label) 0 (omega arith),
      le-ltb limits.width (length e.label) short,
      ne_eqb (place_within p e.label s) 0 (omega arith),
      le-ltb (length e.label + 1) (place_within p e.label s)
          (omega (arith, difference_second p e.label, difference_first e.label s)),
      le-ltb 1 (side_within p e.label s)
          (side_within_lem (difference p (held e.label)) (difference (held e.label) s)),
    )

module _ (step : StepRule) (limits : Limits) (table store : List ℕ) (x : Label) where
  -- the walk from a slot whose row is no bad one
  steps_at_slot : (left k P S : ℕ) → 1 ≤ k → k ≤ limits.slots → is_bad limits (row_at table k) ≡ false
      → steps_by step limits table store x (suc left) k P S
      ≡ walk_by (step x (entry_at limits table store k).label (row_at table k).side (row_at table k).place P S)
      (entry_at limits table store k)
      (steps_by step limits table store x left (row_at table k).left)
      (steps_by step limits table store x left (row_at table k).right)
  steps_at_slot left zero P S low high good = absurd (omega arith)
  steps_at_slot left (suc k) P S low high good = rw (le-ltb limits.slots (suc k) high, good, steps_by)

  module _ {p s : Neighbour} {l r : Tree} {e : Entry} (node_held : NodeHeld limits table store p l e r s) where
    -- the walk from a node
    pub steps_at_node : (left P S : ℕ) → steps_by step limits table store x (suc left) e.slot P S
        ≡ walk_by (step x e.label (side_within p e.label s) (place_within p e.label s) P S) e
        (steps_by step limits table store x left (link_of l)) (steps_by step limits table store x left (link_of r))
    steps_at_node left P S =
        steps_at_slot left e.slot P S node_held.low node_held.high
        (rw node_held.row (row_not_bad limits p l e r s node_held.some node_held.short))
        ∙ rw (node_held.row, node_held.label)
