-- The way of a trace is a small number, whatever the table and the store hold.
-- `path_fits`: it has a bit for each side, and no more sides than there are nodes left to visit.
-- `can_lengthen`: so the code may add a side.
use mathlib.Core.List.{List}
use mathlib.Core.Path.{◌≡◌, refl}
use mathlib.Core.Bool.{Bool, true, false}
use Prim.Native.Nat.{ℕ, zero, suc, ◌-◌, ◌^◌, ◌≤◌}
use native.Mathlib.Nat.{two-pow-succ, pow-le-pow_right}
use native.Mathlib.Numerals.{add-one}
use native.Mathlib.Omega.{arith}
use Rattle.std.specs.Int.{from_bool}
use Rattle.types.specs.declared.Limits.{Limits}
use Rattle.types.specs.declared.Row.{Row}
use Rattle.labels.specs.Labels.{Label}
use Rattle.tables.specs.Words.{row_at}
use Rattle.tables.specs.Steps.{Step, go_left, go_right, stop}
use Rattle.nodes.specs.declared.Spot.{Spot}
use Rattle.nodes.specs.Nodes.{node_step}
use Rattle.nodes.specs.Bounds.{Onward}
use Rattle.traces.specs.declared.Trace.{Trace}
use Rattle.traces.specs.Traces.{spot_at, ended_at, found_at, longer, trace_by, trace_from, trace_on}
use Rattle.traces.specs.Traces.{CanTrace, CanLengthen, PathFits}
use Rattle.traces.proofs.TraceSteps.{by_test}

-- one side more is one bit more
path_longer : (bit remaining : ℕ) (trace : Trace) → bit ≤ 1 → PathFits remaining trace
    → PathFits (suc remaining) (longer bit trace)
path_longer bit remaining trace small fits =
    record { path = rw (add-one, two-pow-succ) (omega arith); length = omega arith }

-- a search that ends here took no side
path_ended : (remaining : ℕ) (trace : Trace) → trace.path ≡ 0 → trace.length ≡ 0 → PathFits remaining trace
path_ended remaining trace no_path no_side = record { path = rw (no_path, no_side) (omega arith); length = omega arith }

-- the way from a node, by its step
path_by : {remaining : ℕ} (step : Step) (w : Spot) (row : Row) (deeper : Spot → Trace)
    → ((v : Spot) → PathFits remaining (deeper v)) → PathFits (suc remaining) (trace_by step w row deeper)
path_by {remaining} (go_left p s examined) w row deeper fit =
    path_longer 0 remaining _ (omega arith) (fit (spot_at w row.left p s w.below w.link examined))
path_by {remaining} (go_right p s examined) w row deeper fit =
    path_longer 1 remaining _ (omega arith) (fit (spot_at w row.right p s w.link w.above examined))
path_by {remaining} (stop examined) w row deeper fit = path_ended (suc remaining) (found_at w examined) refl refl

module _ (limits : Limits) (table store : List ℕ) (x : Label) where
  -- the way is no longer than the nodes left to visit
  pub path_fits : (remaining : ℕ) (w : Spot) → PathFits remaining (trace_from limits table store x remaining w)
  unfolding trace_from
  path_fits zero w = path_ended zero (ended_at w) refl refl
  path_fits (suc remaining) w =
      by_test limits table store x w (PathFits (suc remaining)) remaining
      (path_ended (suc remaining) (ended_at w) refl refl)
      (λ going. path_by (node_step limits table store x w) w (row_at table w.link)
      (trace_from limits table store x remaining) (path_fits remaining))

-- a side's bit
bit_small : (right : Bool) → from_bool right ≤ 1
bit_small true = omega arith
bit_small false = omega arith

-- the code may add a side to the trace of a search that goes on from w at v
pub can_lengthen : (limits : Limits) (table store : List ℕ) (x : Label) (w v : Spot) (bit : ℕ) (right : Bool)
    (trace : Trace) → CanTrace limits table store w → Onward w v → trace ≡ trace_on limits table store x v
    → bit ≡ from_bool right → CanLengthen bit trace
can_lengthen limits table store x w v bit right trace can onward is side =
    let small : bit ≤ 1 = omega (arith, bit_small right) in
    let fits : PathFits (limits.depth - v.visits) trace =
    rw is (path_fits limits table store x (limits.depth - v.visits) v) in
    let few : suc trace.length ≤ 64 = omega arith in
    let short : 2 ^ suc trace.length ≤ 2 ^ 64 = pow-le-pow_right (omega arith) few in
    record { one = small; path = omega (arith, short, two-pow-succ trace.length); length = omega arith }
