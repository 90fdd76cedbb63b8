-- What the trace of a search says from a spot on.
-- `EndsIn`: where the search ends.  `Leads`: a trace takes these sides, ends in this window with what the search finds,
-- and counts as the walk does.
-- `leads_same`: so of an equal walk and an equal trace.
-- `leads_by`: so after a step that goes as the comparison does, if so in the subtrees.
use mathlib.Core.List.{List, ◌∷◌}
use mathlib.Core.Path.{◌≡◌, refl, ap}
use Prim.Native.Nat.{ℕ, ◌+◌, ◌*◌}
use native.Mathlib.Omega.{arith}
use lib.ListN.{length}
use Rattle.types.specs.declared.Limits.{Limits}
use Rattle.types.specs.declared.Row.{Row}
use Rattle.labels.specs.Labels.{Label, Comparison}
use Rattle.labels.specs.Neighbours.{Neighbour, held}
use Rattle.trees.specs.Trees.{Entry, Side, left, right}
use Rattle.trees.specs.Searches.{Held, absent, found, Search, visit, search_by}
use Rattle.tables.specs.Steps.{Step, Walk, ended, visit_then, walk_by}
use Rattle.gaps.specs.Windows.{below_in, above_in}
use Rattle.nodes.specs.declared.Spot.{Spot}
use Rattle.steps.proofs.Window.{Sought}
use Rattle.steps.proofs.Node.{Goes, goes_left, goes_stop, goes_right}
use Rattle.paths.specs.Paths.{bit_of, path_of}
use Rattle.rotations.proofs.Along.{sides_by, towards}
use Rattle.traces.specs.declared.Trace.{Trace}
use Rattle.traces.specs.Traces.{spot_at, longer, trace_by}

-- a search for x that ends in the window of low and high with this result, or in this slot
abbrev pub EndsIn : (low : Neighbour) (x : Label) (high : Neighbour) → Held → (slot p s : ℕ) → Type 0
EndsIn low x high absent slot p s = (slot ≡ 0) × Sought low x high p s
EndsIn low x high (found e) slot p s = slot ≡ e.slot

-- what a trace from the spot w on says
pub record Leads (limits : Limits) (table store : List ℕ) (x : Label) (way : List Side) (low high : Neighbour)
    (search : Search) (walk : Walk) (w : Spot) (trace : Trace) : Type 0 where
  pub path : trace.path ≡ path_of way
  pub sides : trace.length ≡ length way
  pub below : below_in limits table store trace.below ≡ low
  pub above : above_in limits table store trace.above ≡ high
  pub ends : EndsIn low x high search.result trace.found trace.p trace.s
  pub visits : trace.visits ≡ w.visits + length search.visited
  pub more : ℕ
  pub walks : walk ≡ ended search more
  pub places : trace.places ≡ w.places + more

module _ {limits : Limits} {table store : List ℕ} {x : Label} where
  -- what is said of a walk and a trace is so of equal ones
  pub leads_same : {way : List Side} {low high : Neighbour} {search : Search} {walk walked : Walk} {w : Spot}
      {trace traced : Trace} → walk ≡ walked → trace ≡ traced
      → Leads limits table store x way low high search walked w traced
      → Leads limits table store x way low high search walk w trace
  leads_same same_walk same_trace leads = rw (same_walk, same_trace) leads

  -- a side more, after a visit of the node e
  leads_longer : (side : Side) (e : Entry) (link p s below above examined : ℕ) {way : List Side} {low high : Neighbour}
      {search : Search} {walk : Walk} {w : Spot} {trace : Trace}
      → Leads limits table store x way low high search walk (spot_at w link p s below above examined) trace
      → Leads limits table store x (side ∷ way) low high (visit side e search) (visit_then side e examined walk) w
      (longer (bit_of side) trace)
  leads_longer side e link p s below above examined deeper =
      record {
        path = ap (λ (n : ℕ). bit_of side + 2 * n) deeper.path;
        sides = omega arith;
        below = deeper.below;
        above = deeper.above;
        ends = deeper.ends;
        visits = omega arith;
        more = examined + deeper.more;
        walks = ap (visit_then side e examined) deeper.walks;
        places = omega arith;
      }

  -- the step at the node e, between p and q, that goes as the comparison r does
  module _ {p q : Neighbour} (e : Entry) (w : Spot) (row : Row) (deeper : Spot → Trace)
      (to_left to_right : ℕ → ℕ → Walk) (on_left on_right : Search) {left_way right_way : List Side}
      {low_left low_right high_left high_right : Neighbour}
      (lower : below_in limits table store w.below ≡ p) (upper : above_in limits table store w.above ≡ q)
      (here : w.link ≡ e.slot)
      (left_leads : (P S examined : ℕ) → Sought p x (held e.label) P S
      → Leads limits table store x left_way low_left high_left on_left (to_left P S)
      (spot_at w row.left P S w.below w.link examined)
      (deeper (spot_at w row.left P S w.below w.link examined)))
      (right_leads : (P S examined : ℕ) → Sought (held e.label) x q P S
      → Leads limits table store x right_way low_right high_right on_right (to_right P S)
      (spot_at w row.right P S w.link w.above examined)
      (deeper (spot_at w row.right P S w.link w.above examined))) where
    pub leads_by : {P S : ℕ} {r : Comparison} {step : Step} → Goes p x e.label q P S r step
        → Leads limits table store x (sides_by r left_way right_way) (towards r low_left p low_right)
        (towards r high_left q high_right) (search_by r e on_left on_right) (walk_by step e to_left to_right) w
        (trace_by step w row deeper)
    leads_by (goes_left i P S examined sought raised) =
        leads_longer left e row.left P S w.below w.link examined (left_leads P S examined sought)
    leads_by (goes_stop i examined raised) =
        record {
          path = refl;
          sides = refl;
          below = lower;
          above = upper;
          ends = here;
          visits = omega arith;
          more = examined;
          walks = refl;
          places = omega arith;
        }
    leads_by (goes_right i P S examined sought raised) =
        leads_longer right e row.right P S w.link w.above examined (right_leads P S examined sought)
