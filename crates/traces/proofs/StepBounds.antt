-- The step at a node whose row breaks no walk, whatever else the table and the store hold.
-- `StepWithin`: P and S after it and the places that it examined are at most m.
-- `node_step_within`: so with m one more than the longest label.
use mathlib.Core.List.{List}
use mathlib.Core.Bool.{Bool, true, false, cond}
use Prim.Native.Nat.{ℕ, zero, suc, ◌+◌, ◌-◌, ◌≤◌, compare, Ordering}
use native.Mathlib.Omega.{arith}
use lib.ListN.{length, drop, length-take}
use Rattle.types.specs.declared.Limits.{Limits}
use Rattle.labels.specs.Labels.{Label, Comparison, smaller, same, larger, compare_from, place_of}
use Rattle.labels.proofs.Ends.{ends_from}
use Rattle.tables.specs.Words.{row_at, label_at, part_start}
use Rattle.tables.specs.Steps.{Step, go_left, go_right, stop, compare_step, predecessor_step, successor_step, is_tie}
use Rattle.tables.specs.Steps.{step_at}
use Rattle.nodes.specs.declared.Spot.{Spot}
use Rattle.nodes.specs.Nodes.{row_step, node_step}
use Rattle.nodes.specs.Bounds.{GoodRow}

-- a step after which P and S are at most m, and which examined at most m places
pub data StepWithin (m : ℕ) : Step → Type 0 where
  left_within : (p s examined : ℕ) → p ≤ m → s ≤ m → examined ≤ m → StepWithin m (go_left p s examined)
  right_within : (p s examined : ℕ) → p ≤ m → s ≤ m → examined ≤ m → StepWithin m (go_right p s examined)
  stop_within : (examined : ℕ) → examined ≤ m → StepWithin m (stop examined)

module _ (p s m : ℕ) (p_within : p ≤ m) (s_within : s ≤ m) where
  -- the step after a comparison that ended in time
  compared_within : (r : Comparison) (d : ℕ) → 1 ≤ d → place_of r ≤ m → StepWithin m (compare_step r d p s)
  compared_within (smaller i) d low ends = left_within p i (suc i - d) p_within ends (omega arith)
  compared_within (same i) d low ends = stop_within (suc i - d) (omega arith)
  compared_within (larger i) d low ends = right_within i s (suc i - d) ends s_within (omega arith)

  -- the step by P, and by S
  by_predecessor : (o : Ordering) {compared : Step} → StepWithin m compared
      → StepWithin m (predecessor_step o compared p s)
  by_predecessor Ordering.lt within = right_within p s 0 p_within s_within (omega arith)
  by_predecessor Ordering.eq within = within
  by_predecessor Ordering.gt within = left_within p s 0 p_within s_within (omega arith)

  by_successor : (o : Ordering) {compared : Step} → StepWithin m compared
      → StepWithin m (successor_step o compared p s)
  by_successor Ordering.lt within = left_within p s 0 p_within s_within (omega arith)
  by_successor Ordering.eq within = within
  by_successor Ordering.gt within = right_within p s 0 p_within s_within (omega arith)

  -- the step at a tie, or by the other lines
  by_tie : (b : Bool) {step : Step} → StepWithin m step → StepWithin m (cond b (go_right p s 0) step)
  by_tie true within = right_within p s 0 p_within s_within (omega arith)
  by_tie false within = within

  -- the step at a node whose place and label's length are small
  step_within : (x c : Label) (side d : ℕ) → 1 ≤ d → d ≤ m → suc (length c) ≤ m → StepWithin m (step_at x c side d p s)
  step_within x c zero d low high short =
      by_tie (is_tie d p s)
      (by_predecessor (compare p d)
      (compared_within (compare_from d x c) d low (omega (arith, (ends_from d x c low).second))))
  step_within x c (suc side) d low high short =
      by_successor (compare s d)
      (compared_within (compare_from d x c) d low (omega (arith, (ends_from d x c low).second)))

-- so is the step at a node with a good row
pub node_step_within : (limits : Limits) (table store : List ℕ) (x : Label) (w : Spot)
    → GoodRow limits (row_at table w.link) → w.p ≤ limits.width + 1 → w.s ≤ limits.width + 1
    → StepWithin (limits.width + 1) (node_step limits table store x w)
unfolding row_step label_at
node_step_within limits table store x w good p_within s_within =
    let row = row_at table w.link in
    let short = length-take row.len (drop (part_start limits w.link) store) in
    step_within w.p w.s (limits.width + 1) p_within s_within x (label_at limits store w.link row.len)
    row.side row.place good.low (omega arith) (omega arith)
