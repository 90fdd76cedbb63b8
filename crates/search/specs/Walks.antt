-- What is left of a walk, with the counts that the code keeps: its answer where it halts, and from a link on.
use Rattle.std.specs.Prelude.{List, cond, ℕ, ◌+◌, ◌-◌, length, get_or, eqb, Result, Ok, Err}
use Rattle.std.proofs.Math.Option.{Option, none, some}
use Rattle.types.specs.declared.Limits.{Limits}
use Rattle.types.specs.declared.Searched.{Searched}
use Rattle.types.specs.declared.Searched.TheVariants.{Absent}
use Rattle.types.specs.declared.Refusal.{Refusal}
use Rattle.types.specs.declared.Refusal.TheVariants.{BrokenWalk}
use Rattle.types.specs.Answers.{Answer, refused}
use Rattle.labels.specs.Labels.{Label}
use Rattle.trees.specs.Trees.{Entry}
use Rattle.tables.specs.Steps.{Walk, broken, ended, steps}
use Rattle.tables.specs.Outcomes.{answer_of}

-- the answer where no node is visited
abbrev pub halted_at : (link below above visits places : ℕ) → Result Searched Refusal
halted_at link below above visits places =
    cond (eqb link 0) (Ok (Absent below above visits places)) (Err BrokenWalk)

-- the slot of the last node on a side: that of the rest of a walk, if it has one, or the one before
abbrev pub slot_after : (before : ℕ) (later : Option Entry) → ℕ
slot_after before none = before
slot_after before (some e) = e.slot

-- the answer of a walk that has so many visits and places behind it, and the slots of the nearest nodes so far
abbrev pub answer_after : (below above visits places : ℕ) → Walk → Answer
answer_after below above visits places broken = refused 5
answer_after below above visits places (ended s more) =
    answer_of s.result (slot_after below s.below) (slot_after above s.above) (visits + length s.visited)
    (places + more)

-- the answer of a walk that stands at a link, with so many nodes left to visit, places, P and S in an array, and in
-- another the nearest larger and the nearest smaller node
unfoldable pub answer_from :
    Limits → (table store : List ℕ) → Label → (link remaining places : ℕ) → (ends near : List ℕ) → Answer
answer_from limits table store x link remaining places ends near =
    answer_after (get_or near 1 0) (get_or near 0 0) (limits.depth - remaining) places
    (steps limits table store x remaining link (get_or ends 0 0) (get_or ends 1 0))
