-- The numbers of a trace are small, whatever the table and the store hold.
-- `trace_fits`: they are within their bounds, and the nodes beside the way were passed.
-- `trace_from_root`: so is the trace from the root on, as the code makes it.
use mathlib.Core.List.{List}
use mathlib.Core.Path.{◌≡◌, refl}
use Prim.Native.Nat.{ℕ, zero, suc, ◌+◌, ◌-◌, ◌*◌, ◌≤◌}
use native.Mathlib.Omega.{arith}
use Rattle.types.specs.declared.Limits.{Limits}
use Rattle.types.specs.declared.Row.{Row}
use Rattle.labels.specs.Labels.{Label}
use Rattle.tables.specs.Words.{row_at}
use Rattle.tables.specs.Steps.{Step}
use Rattle.words.specs.Limits.{LimitsFit, SizesFit}
use Rattle.nodes.specs.declared.Spot.{Spot}
use Rattle.nodes.specs.Bounds.{Live}
use Rattle.nodes.proofs.Rows.{live}
use Rattle.traces.specs.declared.Trace.{Trace}
use Rattle.traces.specs.Traces.{root_spot, spot_at, ended_at, longer, trace_by, trace_from, trace_on, traced}
use Rattle.traces.specs.Traces.{Passed, NumbersFit, TraceFits}
use Rattle.traces.proofs.TraceSteps.{by_test}
use Rattle.traces.proofs.StepBounds.{StepWithin, left_within, right_within, stop_within, node_step_within}
use Rattle.traces.proofs.PathBounds.{path_fits}

-- a spot from which so many nodes are left to visit
record SpotFits (limits : Limits) (table : List ℕ) (remaining : ℕ) (w : Spot) : Type 0 where
  visits : w.visits + remaining ≤ limits.depth
  p : w.p ≤ limits.width + 1
  s : w.s ≤ limits.width + 1
  places : w.places ≤ 4097 * w.visits
  lower : Passed limits table w.below
  upper : Passed limits table w.above

-- no node, and a node to visit
passed_none : (limits : Limits) (table : List ℕ) → Passed limits table 0
passed_none limits table =
    record { high = omega arith; some = λ k. absurd (omega arith); short = λ k. absurd (omega arith) }

passed_node : (limits : Limits) (table : List ℕ) (link remaining : ℕ) → Live limits table link remaining
    → Passed limits table link
passed_node limits table link remaining node =
    record { high = node.high; some = λ k. node.good.some; short = λ k. node.good.short }

-- a side more changes none of them
numbers_longer : {limits : Limits} {table : List ℕ} (bit : ℕ) (trace : Trace) → NumbersFit limits table trace
    → NumbersFit limits table (longer bit trace)
numbers_longer bit trace fits =
    record {
      found = fits.found;
      p = fits.p;
      s = fits.s;
      below = fits.below;
      above = fits.above;
      visits = fits.visits;
      places = fits.places;
    }

module _ (limits : Limits) (table store : List ℕ) (x : Label) (fit : LimitsFit limits) where
  module _ {remaining : ℕ} (w : Spot) where
    -- where the search ends
    numbers_ended : SpotFits limits table remaining w → NumbersFit limits table (ended_at w)
    numbers_ended spot =
        record {
          found = omega arith;
          p = spot.p;
          s = spot.s;
          below = spot.lower;
          above = spot.upper;
          visits = omega arith;
          places = spot.places;
        }

    -- where it goes on, by the node's step
    numbers_by_lem : {step : Step} (row : Row) (deeper : Spot → Trace)
        → SpotFits limits table (suc remaining) w → Live limits table w.link (suc remaining)
        → StepWithin (limits.width + 1) step
        → ((v : Spot) → SpotFits limits table remaining v → NumbersFit limits table (deeper v))
        → NumbersFit limits table (trace_by step w row deeper)
    numbers_by_lem row deeper spot node (left_within p s examined p_within s_within few) further =
        numbers_longer 0 (deeper (spot_at w row.left p s w.below w.link examined))
        (further (spot_at w row.left p s w.below w.link examined)
        (record {
          visits = omega arith;
          p = p_within;
          s = s_within;
          places = omega arith;
          lower = spot.lower;
          upper = passed_node limits table w.link (suc remaining) node;
        }))
    numbers_by_lem row deeper spot node (right_within p s examined p_within s_within few) further =
        numbers_longer 1 (deeper (spot_at w row.right p s w.link w.above examined))
        (further (spot_at w row.right p s w.link w.above examined)
        (record {
          visits = omega arith;
          p = p_within;
          s = s_within;
          places = omega arith;
          lower = passed_node limits table w.link (suc remaining) node;
          upper = spot.upper;
        }))
    numbers_by_lem row deeper spot node (stop_within examined few) further =
        record {
          found = node.high;
          p = spot.p;
          s = spot.s;
          below = spot.lower;
          above = spot.upper;
          visits = omega arith;
          places = omega arith;
        }

  -- the numbers from a spot on
  numbers_from : (remaining : ℕ) (w : Spot) → SpotFits limits table remaining w
      → NumbersFit limits table (trace_from limits table store x remaining w)
  unfolding trace_from
  numbers_from zero w spot = numbers_ended w spot
  numbers_from (suc remaining) w spot =
      by_test limits table store x w (NumbersFit limits table) remaining (numbers_ended w spot)
      (λ going. let node = live limits table w.link (suc remaining) _ refl going in
      numbers_by_lem w (row_at table w.link) (trace_from limits table store x remaining) spot node
      (node_step_within limits table store x w node.good spot.p spot.s) (numbers_from remaining))

  -- the trace of a search
  pub trace_fits : TraceFits limits table (traced limits table store x)
  unfolding traced
  trace_fits =
      let first : SpotFits limits table limits.depth (root_spot table) = record {
        visits = omega arith;
        p = omega arith;
        s = omega arith;
        places = omega arith;
        lower = passed_none limits table;
        upper = passed_none limits table;
      } in
      record {
        way = path_fits limits table store x limits.depth (root_spot table);
        numbers = numbers_from limits.depth (root_spot table) first;
      }

-- the trace from the root on is the trace of the search, within its bounds
pub trace_from_root : (limits : Limits) (table store : List ℕ) (x : Label) (r : Trace) → SizesFit limits table store
    → r ≡ trace_on limits table store x (root_spot table)
    → (r ≡ traced limits table store x) × TraceFits limits table r
unfolding traced
trace_from_root limits table store x r sizes is =
    let all : limits.depth - 0 ≡ limits.depth = omega arith in
    let whole = rw all at is in
    (whole, rw whole (trace_fits limits table store x sizes.fit))
