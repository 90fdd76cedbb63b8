-- What a search may do at a node to visit: its counts and slots fit their words.
-- `can_end`: it may end there.
-- `can_step`: the counts of the node's step may be added.  `can_go_on`: it may go on after the step.
use mathlib.Core.List.{List}
use mathlib.Core.Path.{◌≡◌}
use Prim.Native.Nat.{ℕ, ◌-◌, ◌≤◌}
use native.Mathlib.Omega.{arith}
use Rattle.types.specs.declared.Limits.{Limits}
use Rattle.nodes.specs.declared.Spot.{Spot}
use Rattle.nodes.specs.declared.Move.{Move}
use Rattle.nodes.specs.declared.Step.{Step}
use Rattle.nodes.specs.declared.Step.TheVariants.{Found, Onward}
use Rattle.nodes.specs.Nodes.{examined_in}
use Rattle.nodes.specs.Bounds as bounds
use Rattle.nodes.specs.Bounds.{Live, CanStep}
use Rattle.traces.specs.Traces.{CanTrace, CanEnd}

module _ (limits : Limits) (table store : List ℕ) (w : Spot)
    (node : Live limits table w.link (limits.depth - w.visits)) where
  -- the search may end with the node's label
  pub can_end : (t : Step) (examined : ℕ) → CanTrace limits table store w → t ≡ Found examined → examined_in t ≤ 4097
      → CanEnd w examined
  can_end t examined can is few =
      record { link = omega arith; visits = omega arith; places = can.places; few = rw is at few }

  -- the counts of its step may be added
  pub can_step : (t : Step) (m : Move) → CanTrace limits table store w → t ≡ Onward m → examined_in t ≤ 4097 → CanStep w m
  can_step t m can is few = record { visits = omega arith; places = can.places; examined = rw is at few }

  -- the search may go on
  pub can_go_on : (v : Spot) → bounds.Onward w v → CanTrace limits table store w → CanTrace limits table store v
  can_go_on v onward can = record { sizes = can.sizes; visits = omega arith; places = omega arith }
