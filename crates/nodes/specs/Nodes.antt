-- The step at a node with the counts that the code keeps, in its parts, and where the walk stands after it.
use Rattle.std.specs.Prelude.{List, Bool, true, false, ◌||◌, cond, ℕ, ◌+◌, ◌-◌, ltb, eqb}
use Rattle.types.specs.declared.Limits.{Limits}
use Rattle.types.specs.declared.Row.{Row}
use Rattle.labels.specs.Labels.{Label}
use Rattle.trees.specs.Valid.{one_if}
use Rattle.tables.specs.Words.{row_at, label_at}
use Rattle.tables.specs.Steps as definition
use Rattle.tables.specs.Steps.{go_left, go_right, stop, is_bad, step_at}
use Rattle.nodes.specs.declared.Spot.{Spot}
use Rattle.nodes.specs.declared.Move.{Move}
use Rattle.nodes.specs.declared.Step.{Step}
use Rattle.nodes.specs.declared.Step.TheVariants.{Found, Onward}
use Rattle.nodes.specs.declared.Turn.{Turn}
use Rattle.nodes.specs.declared.Turn.TheVariants.{Left, Right, Compare}

-- the number before a place or a link; before 0, which is neither, the largest machine word
unfoldable pub number_before : ℕ → ℕ
number_before n = cond (eqb n 0) 18446744073709551615 (n - 1)

-- whether there is no node to visit at a link, with so many nodes left to visit: it is empty, or the walk is broken
unfoldable pub halts_at : Limits → (table : List ℕ) → (link remaining : ℕ) → Bool
halts_at limits table link remaining =
    eqb link 0 || (eqb remaining 0 || (ltb limits.slots link || is_bad limits (row_at table link)))

-- the number that a side goes by: P for predecessor, S for successor
abbrev pub reached_on : (side p s : ℕ) → ℕ
reached_on side p s = cond (eqb side 0) p s

-- where a node with this side and place d sends the walk, which has reached the number that the side goes by. Where
-- that is d, S is above d only on side predecessor: side successor goes by S itself.
unfoldable pub turn_of : (side d reached s : ℕ) → Turn
turn_of side d reached s =
    cond (eqb reached d) (cond (ltb d s) Right Compare) (cond (eqb (one_if (ltb d reached)) side) Right Left)

-- ---- the step at a node, with "the last nodes where the walk went right and left" (M-107 of document 02)

-- the slots of the nearest smaller and the nearest larger node, after the walk went past the node in a slot
abbrev pub below_after : (right : Bool) (slot below : ℕ) → ℕ
below_after right slot below = cond right slot below

abbrev pub above_after : (right : Bool) (slot above : ℕ) → ℕ
above_after right slot above = cond right above slot

-- the move from w to a son of the node in a slot
abbrev pub step_onward : Spot → (slot : ℕ) (right : Bool) (p s examined : ℕ) → Move
step_onward w slot right p s examined =
    record {
      right = right;
      p = p;
      s = s;
      below = below_after right slot w.below;
      above = above_after right slot w.above;
      examined = examined;
    }

-- the code's step at w and the node in a slot, with the slots that it yields
abbrev pub step_from : Spot → (slot : ℕ) → definition.Step → Step
step_from w slot (go_left p s examined) = Onward (step_onward w slot false p s examined)
step_from w slot (go_right p s examined) = Onward (step_onward w slot true p s examined)
step_from w slot (stop examined) = Found examined

-- the places that a step examined
abbrev pub examined_in : Step → ℕ
examined_in (Found examined) = examined
examined_in (Onward m) = m.examined

-- the step at the node in a slot, of which the row was read
unfoldable pub row_step : Limits → (store : List ℕ) → Label → (link : ℕ) → Row → (p s : ℕ) → definition.Step
row_step limits store x link row p s =
    step_at x (label_at limits store link row.len) row.side row.place p s

-- the step at the node where the walk stands
abbrev pub node_step : Limits → (table store : List ℕ) → Label → Spot → definition.Step
node_step limits table store x w = row_step limits store x w.link (row_at table w.link) w.p w.s

-- the link to a son
unfoldable pub son_of : Row → (right : Bool) → ℕ
son_of row right = cond right row.right row.left

-- where the walk stands after a move: one visit more, and the places that were examined
abbrev pub spot_after : Spot → Row → Move → Spot
spot_after w row m =
    record {
      link = son_of row m.right;
      p = m.p;
      s = m.s;
      below = m.below;
      above = m.above;
      visits = w.visits + 1;
      places = w.places + m.examined;
    }
