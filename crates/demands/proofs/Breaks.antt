-- Where a walk breaks, on any memory.
-- breaks_after: a walk that would visit more nodes than the depth is broken.
use mathlib.Core.List.{List}
use mathlib.Core.Path.{◌≡◌, refl}
use mathlib.Core.Bool.{Bool, true, false, ◌||◌}
use Prim.Native.Nat.{ℕ, zero, suc, ◌<◌}
use native.Mathlib.Omega.{arith}
use lib.Dec.{ltb}
use Rattle.types.specs.declared.Limits.{Limits}
use Rattle.labels.specs.Labels.{Label}
use Rattle.trees.specs.Trees.{Entry, Side, left, right}
use Rattle.tables.specs.Words.{root_link, row_at, entry_at}
use Rattle.tables.specs.Steps.{Step, go_left, go_right, stop, step_at, is_bad, Walk, broken, ended, visit_then, walk_by}
use Rattle.tables.specs.Steps.{steps, search_steps}
use Rattle.tables.specs.Outcomes.{visits_of}
use Rattle.demands.specs.Counts.{BreaksAfter}

-- A walk that visits a node more visits more than so many only where the rest of it does.
rest_visits : (side : Side) (e : Entry) (examined n : ℕ) (w : Walk) → suc n < visits_of (visit_then side e examined w)
    → n < visits_of w
rest_visits side e examined n broken more = absurd (omega arith)
rest_visits side e examined n (ended s places) more = omega arith

-- Where the walks into both sons break if they would visit too many nodes, so does the walk from the node.
breaks_by : (step : Step) (e : Entry) (n : ℕ) (l r l' r' : ℕ → ℕ → Walk)
    → ((p s : ℕ) → n < visits_of (l p s) → l' p s ≡ broken) → ((p s : ℕ) → n < visits_of (r p s) → r' p s ≡ broken)
    → suc n < visits_of (walk_by step e l r) → walk_by step e l' r' ≡ broken
breaks_by (go_left p s examined) e n l r l' r' there elsewhere more =
    rw (there p s (rest_visits left e examined n (l p s) more))
breaks_by (go_right p s examined) e n l r l' r' elsewhere there more =
    rw (there p s (rest_visits right e examined n (r p s) more))
breaks_by (stop examined) e n l r l' r' elsewhere further more = absurd (omega arith)

-- A node that breaks every walk breaks this one; any other leaves it as it is.
breaks_at : (bad : Bool) (n : ℕ) (w w' : Walk) → (n < visits_of w → w' ≡ broken)
    → n < visits_of (elim bad [ true ↦ broken | false ↦ w ]) → elim bad [ true ↦ broken | false ↦ w' ] ≡ broken
breaks_at true n w w' below more = refl
breaks_at false n w w' below more = below more

module _ (limits : Limits) (table store : List ℕ) (x : Label) where
  -- the walk from a link, with so many nodes remaining to visit
  abbrev walks : (remaining link p s : ℕ) → Walk
  walks remaining link = steps limits table store x remaining link

  -- A walk from any link with so many nodes remaining to visit is broken if it would visit more.
  abbrev Breaks : ℕ → Type 0
  Breaks remaining =
      (any link p s : ℕ) → remaining < visits_of (walks any link p s) → walks remaining link p s ≡ broken

  -- With none remaining it is broken at any node.
  breaks_at_none : Breaks zero
  breaks_at_none zero zero p s more = absurd (omega arith)
  breaks_at_none (suc any) zero p s more = absurd (omega arith)
  breaks_at_none any (suc k) p s more = refl

  -- With one more remaining it is where the walks into the sons are.
  breaks_at_more : (remaining : ℕ) → Breaks remaining → Breaks (suc remaining)
  breaks_at_more remaining below zero zero p s more = absurd (omega arith)
  breaks_at_more remaining below (suc any) zero p s more = absurd (omega arith)
  breaks_at_more remaining below zero (suc k) p s more = absurd (omega arith)
  breaks_at_more remaining below (suc any) (suc k) p s more =
      let row = row_at table (suc k) in
      let e = entry_at limits table store (suc k) in
      let step = step_at x e.label row.side row.place p s in
      breaks_at (ltb limits.slots (suc k) || is_bad limits row) (suc remaining)
      (walk_by step e (walks any row.left) (walks any row.right))
      (walk_by step e (walks remaining row.left) (walks remaining row.right))
      (breaks_by step e remaining (walks any row.left) (walks any row.right) (walks remaining row.left)
      (walks remaining row.right) (below any row.left) (below any row.right))
      more

  -- So it is with any number remaining.
  steps_break : (remaining : ℕ) → Breaks remaining
  steps_break zero = breaks_at_none
  steps_break (suc remaining) = breaks_at_more remaining (steps_break remaining)

-- A walk that would visit more nodes than the depth is broken.
pub breaks_after : (limits : Limits) → BreaksAfter limits limits.depth
unfolding search_steps
breaks_after limits table store x any = steps_break limits table store x limits.depth any (root_link table) 1 1
