-- The answer of a walk with something behind it: visits and places, and the nearest nodes so far.
-- `answer_after_nothing`: with nothing behind it, it is the walk's own.
-- `side_to`: the side of a son.
-- `answer_after_visited`: a node that the walk went past counts, and is the nearest one on its side so far.
use mathlib.Core.Path.{◌≡◌, refl}
use mathlib.Core.List.{◌∷◌}
use mathlib.Core.Bool.{Bool, true, false}
use mathlib.Core.Option.{Option, none, some}
use Prim.Native.Nat.{ℕ, suc, ◌+◌}
use native.Mathlib.Omega.{arith}
use lib.ListN.{length}
use Rattle.trees.specs.Trees.{Entry, Side, left, right}
use Rattle.trees.specs.Searches.{last, slot_of}
use Rattle.tables.specs.Steps.{Walk, broken, ended, visit_then}
use Rattle.tables.specs.Outcomes.{walk_answer}
use Rattle.nodes.specs.Nodes.{below_after, above_after}
use Rattle.search.specs.Walks.{slot_after, answer_after}

-- with no node before it, the slot of the last node is that of the rest of a walk
slot_after_none : (later : Option Entry) → slot_after 0 later ≡ slot_of later
slot_after_none none = refl
slot_after_none (some e) = refl

-- with nothing behind it, a walk's answer is its own
pub answer_after_nothing : (walk : Walk) → answer_after 0 0 0 0 walk ≡ walk_answer walk
answer_after_nothing broken = refl
answer_after_nothing (ended s places) =
    let v : 0 + length s.visited ≡ length s.visited = omega arith in
    let p : 0 + places ≡ places = omega arith in
    rw (v, p, slot_after_none s.below, slot_after_none s.above)

-- the last of a node and those after it stands in the node's slot, unless there is a later one
slot_after_last : (before : ℕ) (e : Entry) (later : Option Entry)
    → slot_after before (last e later) ≡ slot_after e.slot later
slot_after_last before e none = refl
slot_after_last before e (some f) = refl

-- the side of the son that a walk goes to
abbrev pub side_to : Bool → Side
side_to true = right
side_to false = left

-- a node that the walk went past counts as one visit, and its places; it is the nearest one on its side so far
pub answer_after_visited : (to : Bool) (below above visits places examined : ℕ) (e : Entry) (walk : Walk)
    → answer_after below above visits places (visit_then (side_to to) e examined walk)
    ≡ answer_after (below_after to e.slot below) (above_after to e.slot above) (visits + 1) (places + examined) walk
answer_after_visited to below above visits places examined e broken = refl
answer_after_visited to below above visits places examined e (ended s more) =
    let v : visits + 1 + length s.visited ≡ visits + suc (length s.visited) = omega arith in
    let p : places + examined + more ≡ places + (examined + more) = omega arith in
    rw (v, p) (go to)
  where
    go : (to : Bool)
        → answer_after below above visits places (visit_then (side_to to) e examined (ended s more))
        ≡ answer_after (below_after to e.slot below) (above_after to e.slot above) visits places
        (ended (record {
          visited = e.label ∷ s.visited;
          result = s.result;
          below = s.below;
          above = s.above;
        }) (examined + more))
    go true = rw (slot_after_last below e s.below)
    go false = rw (slot_after_last above e s.above)
