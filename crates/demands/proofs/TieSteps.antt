-- The lines of document 01 at a node of a sound table, against the step there.
-- examining_more: a step with so many places more.
-- lines_at_node: the lines go as the step does, with a place more where the first line applies.
use mathlib.Core.Bool.{Bool, cond}
use mathlib.Core.Path.{◌≡◌, ap, ◌∙◌}
use Prim.Native.Nat.{ℕ, suc, ◌+◌, ◌-◌, ◌≤◌, Ordering}
use native.Mathlib.Omega.{arith}
use Rattle.labels.specs.Labels.{Label, larger, compare_from, place_of}
use Rattle.labels.specs.Neighbours.{Neighbour, held, difference}
use Rattle.labels.proofs.Numbers.{Ordered, is_lt, is_eq, is_gt, ordered, Leb, le_yes, le_no, leb_view}
use Rattle.labels.proofs.Difference.{Before}
use Rattle.labels.proofs.Late.{compare_late}
use Rattle.trees.specs.Valid.{one_if}
use Rattle.tables.specs.Prefix.{place_within, side_within}
use Rattle.tables.specs.Steps.{Step, go_left, go_right, stop, compare_step, predecessor_step, lines_at, step_at}
use Rattle.steps.proofs.Window.{place_below, Sought}
use Rattle.steps.proofs.Node.{Tied, tied, not_tied, tied_view, larger_of_tie}
use Rattle.demands.specs.Ties.{ties_at}

-- a step with so many places more
abbrev pub examining_more : ℕ → Step → Step
examining_more n (go_left p s examined) = go_left p s (examined + n)
examining_more n (go_right p s examined) = go_right p s (examined + n)
examining_more n (stop examined) = stop (examined + n)

none_more : (step : Step) → step ≡ examining_more 0 step
none_more (go_left p s examined) = ap (go_left p s) (omega arith)
none_more (go_right p s examined) = ap (go_right p s) (omega arith)
none_more (stop examined) = ap stop (omega arith)

-- where P is the place and the label is larger there, the lines go right, and examine that place
lines_at_place : (x c : Label) (d P S : ℕ) {o : Ordering} → Ordered P d o → P ≡ d → compare_from d x c ≡ larger P
    → predecessor_step o (compare_step (compare_from d x c) d P S) P S ≡ go_right P S 1
lines_at_place x c d P S (is_lt less) equal is_larger = absurd (omega arith)
lines_at_place x c d P S (is_eq level) equal is_larger =
    let one : suc P - d ≡ 1 = omega arith in rw (is_larger, one)
lines_at_place x c d P S (is_gt more) equal is_larger = absurd (omega arith)

module _ {p s : Neighbour} {x c : Label} {P S : ℕ} (sought : Sought p x s P S) (c_above : Before p (held c))
    (c_below : Before (held c) s) where
  abbrev d : ℕ
  d = place_below p c

  -- the lines at a node of side predecessor: the step with a place more at a tie
  lines_by_tie : {b : Bool} → difference (held c) s ≤ difference p (held c) → Tied d P S b
      → lines_at x c 0 d P S ≡ examining_more (one_if b) (cond b (go_right P S 0) (lines_at x c 0 d P S))
  lines_by_tie tie (tied equal above) =
      let is_larger = larger_of_tie sought c_above c_below tie equal above in
      lines_at_place x c d P S (ordered P d) equal
      (compare_late d x c (omega arith) (omega (arith, ap place_of is_larger)) ∙ is_larger)
  lines_by_tie tie not_tied = none_more (lines_at x c 0 d P S)

  -- the lines at a node: the step with a place more at a tie
  lines_by_side : {b : Bool} → Leb (difference (held c) s) (difference p (held c)) b
      → lines_at x c (cond b 0 1) (place_within p c s) P S
      ≡ examining_more (ties_at (cond b 0 1) (place_within p c s) P S) (step_at x c (cond b 0 1) (place_within p c s) P S)
  lines_by_side (le_yes tie) =
      let place : place_within p c s ≡ d = omega arith in
      rw place (lines_by_tie tie (tied_view d P S))
  lines_by_side (le_no more) = none_more (lines_at x c 1 (place_within p c s) P S)

  -- the same of the node's own side
  pub lines_at_node : lines_at x c (side_within p c s) (place_within p c s) P S
      ≡ examining_more (ties_at (side_within p c s) (place_within p c s) P S)
      (step_at x c (side_within p c s) (place_within p c s) P S)
  lines_at_node = lines_by_side (leb_view _ _)
