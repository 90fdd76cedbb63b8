-- 'The search steps' of document 01, with the line of M-106 and the neighbours of M-107 of document 02, over a table
-- and a store of any content.
use Rattle.std.specs.Prelude.{List, Bool, true, false, ◌&&◌, ◌||◌, cond, eqb, ltb}
use Prim.Native.Nat.{ℕ, zero, suc, ◌+◌, ◌-◌, compare, Ordering}
use Rattle.types.specs.declared.Limits.{Limits}
use Rattle.types.specs.declared.Row.{Row}
use Rattle.labels.specs.Labels.{Label, Comparison, smaller, same, larger, compare_from}
use Rattle.trees.specs.Trees.{Entry, Side, left, right}
use Rattle.trees.specs.Searches.{Search, nothing_visited, visit, stop_at}
use Rattle.tables.specs.Words.{root_link, row_at, entry_at}

-- what a node's step does, with P and S after it and the places it examined
pub data Step : Type 0 where
  go_left : (p s examined : ℕ) → Step
  go_right : (p s examined : ℕ) → Step
  stop : (examined : ℕ) → Step

-- "Compare examines places d, d + 1 and on .. At difference i: sought smaller, set S to i and go left; sought larger,
-- set P to i and go right. Shared end: found."
-- "places counts places examined, the last one included"
abbrev pub compare_step : Comparison → (d p s : ℕ) → Step
compare_step (smaller i) d p s = go_left p i (suc i - d)
compare_step (same i) d p s = stop (suc i - d)
compare_step (larger i) d p s = go_right i s (suc i - d)

-- "Side predecessor: P below d, go right; P above d, go left; P equal to d, compare."
abbrev pub predecessor_step : Ordering → (compared : Step) (p s : ℕ) → Step
predecessor_step Ordering.lt compared p s = go_right p s 0
predecessor_step Ordering.gt compared p s = go_left p s 0
predecessor_step Ordering.eq compared p s = compared

-- "Side successor: S below d, go left; S above d, go right; S equal to d, compare."
abbrev pub successor_step : Ordering → (compared : Step) (p s : ℕ) → Step
successor_step Ordering.lt compared p s = go_left p s 0
successor_step Ordering.gt compared p s = go_right p s 0
successor_step Ordering.eq compared p s = compared

-- which step is made for the sought label x at a node with label c
abbrev pub StepRule : Type 0
StepRule = (x c : Label) (side d p s : ℕ) → Step

-- the lines of document 01
abbrev pub lines_at : StepRule
lines_at x c zero d p s = predecessor_step (compare p d) (compare_step (compare_from d x c) d p s) p s
lines_at x c (suc side) d p s = successor_step (compare s d) (compare_step (compare_from d x c) d p s) p s

-- M-106 of document 02: "P may equal d while S is above d."
abbrev pub is_tie : (d p s : ℕ) → Bool
is_tie d p s = eqb p d && ltb d s

-- the search steps: "Put that remark first: side predecessor, P equal to d, S above d, go right and examine nothing."
-- The remark, of document 004 in its section on strings, where c "differs at the same digit q with p and s": "If ..
-- x_s > x_p = q, then we know .. that x is greater than c .. without comparing any digits, and without updating xp nor
-- xs."
abbrev pub step_at : StepRule
step_at x c zero d p s = cond (is_tie d p s) (go_right p s 0) (lines_at x c zero d p s)
step_at x c (suc side) d p s = lines_at x c (suc side) d p s

-- "the walk is broken if .. its length is 0 or above 64, its place is 0 or above its length plus 1, or its side is
-- above 1"
unfoldable pub is_bad : Limits → Row → Bool
is_bad limits row =
    eqb row.len 0
    || (ltb limits.width row.len
    || (eqb row.place 0 || (ltb (row.len + 1) row.place || ltb 1 row.side)))

-- a walk: broken, or ended, with the labels it visited, what it found, "the last nodes where the walk went right and
-- left" (M-107 of document 02), and the places it examined
pub data Walk : Type 0 where
  broken : Walk
  ended : Search → (places : ℕ) → Walk

-- a walk that visited the node e first, examined places there, and went on to a side of it
abbrev pub visit_then : Side → Entry → ℕ → Walk → Walk
visit_then side e examined broken = broken
visit_then side e examined (ended s places) = ended (visit side e s) (examined + places)

-- the walk from a node, by its step there and the walks into its sons. Whichever line made the step, it yields the node
-- itself: going left, as the nearest larger one so far, going right, as the nearest smaller one
abbrev pub walk_by : Step → Entry → (ℕ → ℕ → Walk) → (ℕ → ℕ → Walk) → Walk
walk_by (go_left p s examined) e to_left to_right = visit_then left e examined (to_left p s)
walk_by (go_right p s examined) e to_left to_right = visit_then right e examined (to_right p s)
walk_by (stop examined) e to_left to_right = ended (stop_at e) examined

-- "An empty link means absent."
abbrev pub missing : Walk
missing = ended nothing_visited 0

-- the walk at a link by such steps, with so many nodes left to visit: broken "if its link is above 512, it would be the
-- 13th node", or its row is bad
abbrev pub steps_by : StepRule → Limits → (table store : List ℕ) → Label → (remaining link p s : ℕ) → Walk
steps_by step limits table store x zero zero p s = missing
steps_by step limits table store x zero (suc k) p s = broken
steps_by step limits table store x (suc remaining) zero p s = missing
steps_by step limits table store x (suc remaining) (suc k) p s =
    elim (ltb limits.slots (suc k) || is_bad limits (row_at table (suc k))) [
      | true ↦ broken
      | false ↦ walk_by
          (step x (entry_at limits table store (suc k)).label (row_at table (suc k)).side
          (row_at table (suc k)).place p s)
          (entry_at limits table store (suc k))
          (steps_by step limits table store x remaining (row_at table (suc k)).left)
          (steps_by step limits table store x remaining (row_at table (suc k)).right)
    ]

-- the walk from the root by such steps: "Two numbers, P and S, start at 1."
abbrev pub walk_from_root : StepRule → Limits → (table store : List ℕ) → Label → Walk
walk_from_root step limits table store x = steps_by step limits table store x limits.depth (root_link table) 1 1

-- both by the search steps
abbrev pub steps : Limits → (table store : List ℕ) → Label → (remaining link p s : ℕ) → Walk
steps = steps_by step_at

unfoldable pub search_steps : Limits → (table store : List ℕ) → Label → Walk
search_steps = walk_from_root step_at
