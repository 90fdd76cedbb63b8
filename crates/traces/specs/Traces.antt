-- The search of an update, with the way it went kept: its trace, over a table and a store of any content.
use Rattle.std.specs.Prelude.{List, true, false, ℕ, zero, suc, ◌+◌, ◌-◌, ◌*◌, ◌^◌, ◌≤◌, ◌<◌}
use Rattle.types.specs.declared.Limits.{Limits}
use Rattle.types.specs.declared.Row.{Row}
use Rattle.labels.specs.Labels.{Label}
use Rattle.tables.specs.Words.{root_link, row_at}
use Rattle.tables.specs.Steps.{Step, go_left, go_right, stop}
use Rattle.words.specs.Limits.{SizesFit}
use Rattle.nodes.specs.declared.Spot.{Spot}
use Rattle.nodes.specs.Nodes.{halts_at, node_step}
use Rattle.traces.specs.declared.Trace.{Trace}

-- the search starts at the root, with P and S at 1 and no node on either side
abbrev pub root_spot : List ℕ → Spot
root_spot table = record { link = root_link table; p = 1; s = 1; below = 0; above = 0; visits = 0; places = 0 }

-- the spot after w, at a son's link, with P and S and the nearest nodes after a step that examined so many places
abbrev pub spot_at : Spot → (link p s below above examined : ℕ) → Spot
spot_at w link p s below above examined =
    record {
      link = link;
      p = p;
      s = s;
      below = below;
      above = above;
      visits = w.visits + 1;
      places = w.places + examined;
    }

-- the search ends at w without the label
abbrev pub ended_at : Spot → Trace
ended_at w =
    record {
      found = 0;
      p = w.p;
      s = w.s;
      below = w.below;
      above = w.above;
      path = 0;
      length = 0;
      visits = w.visits;
      places = w.places;
    }

-- the search ends with the label of the node at w
abbrev pub found_at : Spot → (examined : ℕ) → Trace
found_at w examined =
    record {
      found = w.link;
      p = w.p;
      s = w.s;
      below = w.below;
      above = w.above;
      path = 0;
      length = 0;
      visits = w.visits + 1;
      places = w.places + examined;
    }

-- the trace of a search that took one side more before it: 1 for right
abbrev pub longer : (bit : ℕ) → Trace → Trace
longer bit trace =
    record {
      found = trace.found;
      p = trace.p;
      s = trace.s;
      below = trace.below;
      above = trace.above;
      path = bit + 2 * trace.path;
      length = trace.length + 1;
      visits = trace.visits;
      places = trace.places;
    }

-- the trace from a node with this row, by its step there: left of the node it is the nearest larger one, right of it
-- the nearest smaller one
abbrev pub trace_by : Step → Spot → Row → (deeper : Spot → Trace) → Trace
trace_by (go_left p s examined) w row deeper =
    longer 0 (deeper (spot_at w row.left p s w.below w.link examined))
trace_by (go_right p s examined) w row deeper =
    longer 1 (deeper (spot_at w row.right p s w.link w.above examined))
trace_by (stop examined) w row deeper = found_at w examined

-- the trace from a spot on, with so many nodes left to visit
unfoldable pub trace_from : Limits → (table store : List ℕ) → Label → (remaining : ℕ) → Spot → Trace
trace_from limits table store x zero w = ended_at w
trace_from limits table store x (suc remaining) w =
    elim (halts_at limits table w.link (suc remaining)) [
      | true ↦ ended_at w
      | false ↦ trace_by (node_step limits table store x w) w (row_at table w.link)
          (trace_from limits table store x remaining)
    ]

-- the trace from a spot on, after the visits that it counts
abbrev pub trace_on : Limits → (table store : List ℕ) → Label → Spot → Trace
trace_on limits table store x w = trace_from limits table store x (limits.depth - w.visits) w

-- the trace of the search for x
unfoldable pub traced : Limits → (table store : List ℕ) → Label → Trace
traced limits table store x = trace_from limits table store x limits.depth (root_spot table)

-- ---- bounds

-- the search may go on from w: its counts are small
pub record CanTrace (limits : Limits) (table store : List ℕ) (w : Spot) : Type 0 where
  pub sizes : SizesFit limits table store
  pub visits : w.visits ≤ limits.depth
  pub places : w.places ≤ 4097 * w.visits

-- a count and a number of places that may be added to those of w
pub record CanEnd (w : Spot) (examined : ℕ) : Type 0 where
  pub link : w.link ≤ 4096
  pub visits : w.visits ≤ 64
  pub places : w.places ≤ 4097 * w.visits
  pub few : examined ≤ 4097

-- a trace that may take one side more
pub record CanLengthen (bit : ℕ) (trace : Trace) : Type 0 where
  pub one : bit ≤ 1
  pub path : 2 * trace.path + 2 ≤ 2 ^ 64
  pub length : trace.length ≤ 64

-- no node, or a node that the search went past: its label is not too long
pub record Passed (limits : Limits) (table : List ℕ) (k : ℕ) : Type 0 where
  pub high : k ≤ limits.slots
  pub some : 1 ≤ k → 1 ≤ (row_at table k).len
  pub short : 1 ≤ k → (row_at table k).len ≤ limits.width

-- a way at most so many sides long, as a number
pub record PathFits (remaining : ℕ) (trace : Trace) : Type 0 where
  pub path : trace.path < 2 ^ trace.length
  pub length : trace.length ≤ remaining

-- the slots, places and counts of a trace
pub record NumbersFit (limits : Limits) (table : List ℕ) (trace : Trace) : Type 0 where
  pub found : trace.found ≤ limits.slots
  pub p : trace.p ≤ limits.width + 1
  pub s : trace.s ≤ limits.width + 1
  pub below : Passed limits table trace.below
  pub above : Passed limits table trace.above
  pub visits : trace.visits ≤ limits.depth
  pub places : trace.places ≤ 4097 * trace.visits

-- so is a trace, whatever the table and the store hold
pub record TraceFits (limits : Limits) (table : List ℕ) (trace : Trace) : Type 0 where
  pub way : PathFits limits.depth trace
  pub numbers : NumbersFit limits table trace
