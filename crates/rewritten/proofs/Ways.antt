-- On a table and a store that hold a tree, the trace of a search is the way of the full comparison search.
-- `leads_from`: so it is in each subtree.  `way_of_trace`: so it is from the root.
use mathlib.Core.Bool.{false}
use mathlib.Core.List.{List}
use mathlib.Core.Path.{◌≡◌, refl, ap, ◌∙◌}
use Prim.Native.Nat.{ℕ, zero, suc, ◌+◌, ◌≤◌}
use native.Mathlib.Omega.{arith}
use borrow.Author.Tests.{ne_eqb, le-ltb}
use Rattle.types.specs.declared.Limits.{Limits}
use Rattle.labels.specs.Labels.{Label}
use Rattle.labels.specs.Neighbours.{Neighbour, none_below, held, none_above}
use Rattle.trees.specs.Trees.{Entry, Tree, empty, node}
use Rattle.trees.specs.Searches.{Held, absent, found, full_search}
use Rattle.trees.specs.Heights.{height}
use Rattle.trees.proofs.Sorted.{Between}
use Rattle.tables.specs.Words.{root_link, entry_at}
use Rattle.tables.specs.Prefix.{place_within, side_within}
use Rattle.tables.specs.Written.{link_of, node_row}
use Rattle.tables.specs.Steps.{ended, step_at, steps, search_steps}
use Rattle.tables.specs.Outcomes.{visits_of, places_of}
use Rattle.tables.proofs.Represents.{NodeHeld, Represents}
use Rattle.gaps.specs.Windows.{below_in, above_in}
use Rattle.nodes.specs.declared.Spot.{Spot}
use Rattle.nodes.specs.Nodes.{halts_at, row_step}
use Rattle.steps.proofs.Window.{Sought, sought_first}
use Rattle.steps.proofs.Node.{step_goes}
use Rattle.steps.proofs.Rows.{row_not_bad, steps_at_node}
use Rattle.steps.proofs.Walks.{steps_at_missing}
use Rattle.rotations.proofs.Along.{sides_to, low_to, high_to}
use Rattle.traces.specs.declared.Trace.{Trace}
use Rattle.traces.specs.Traces.{root_spot, spot_at, trace_by, trace_from, traced}
use Rattle.rewritten.proofs.Traces.{Ends, Way}
use Rattle.traces.proofs.TraceSteps.{trace_missing, trace_at_node}
use Rattle.rewritten.proofs.Leads.{EndsIn, Leads, leads_same, leads_by}

module _ (limits : Limits) (table store : List ℕ) (x : Label) where
  -- a slot's neighbour is the slot's label, on either side
  neighbour_in_lem : (k : ℕ) (c : Label) → 1 ≤ k → (entry_at limits table store k).label ≡ c
      → (below_in limits table store k ≡ held c) × (above_in limits table store k ≡ held c)
  neighbour_in_lem zero c some is = absurd (omega arith)
  neighbour_in_lem (suc k) c some is = (ap held is, ap held is)

  module _ {p q : Neighbour} {l r : Tree} {e : Entry} (node_held : NodeHeld limits table store p l e r q)
      (w : Spot) (here : w.link ≡ e.slot) where
    -- the node's slot holds its label
    label_here : (entry_at limits table store w.link).label ≡ e.label
    label_here = rw (here, node_held.row) node_held.label

    -- the test finds the node
    not_halted : (remaining : ℕ) → halts_at limits table w.link (suc remaining) ≡ false
    unfolding halts_at
    not_halted remaining =
        let good = row_not_bad limits p l e r q node_held.some node_held.short in
        rw (
          here,
          ne_eqb e.slot 0 (omega (arith, node_held.low)),
          ne_eqb (suc remaining) 0 (omega arith),
          le-ltb limits.slots e.slot node_held.high,
          node_held.row,
        ) good

    -- the trace from the node on takes the step at its label, place and side
    trace_at : (remaining : ℕ)
        → trace_from limits table store x (suc remaining) w
        ≡ trace_by (step_at x e.label (side_within p e.label q) (place_within p e.label q) w.p w.s) w
        (node_row p l e r q) (trace_from limits table store x remaining)
    unfolding row_step
    trace_at remaining =
        trace_at_node limits table store x w remaining (not_halted remaining)
        ∙ rw (here, node_held.row, node_held.label)

  -- the trace in a subtree between p and q
  leads_from : (t : Tree) (remaining : ℕ) (p q : Neighbour) (w : Spot)
      → below_in limits table store w.below ≡ p → above_in limits table store w.above ≡ q → w.link ≡ link_of t
      → w.visits + remaining ≡ limits.depth → Between p q t → Represents limits table store p q t
      → height t ≤ remaining
      → Sought p x q w.p w.s
      → Leads limits table store x (sides_to x t) (low_to p x t) (high_to q x t) (full_search x t)
      (steps limits table store x remaining (link_of t) w.p w.s) w
      (trace_from limits table store x remaining w)
  leads_from empty remaining p q w lower upper here deep between represented fits sought =
      leads_same (steps_at_missing step_at limits table store x remaining w.p w.s)
      (trace_missing limits table store x w remaining here)
      (record {
        path = refl;
        sides = refl;
        below = lower;
        above = upper;
        ends = (refl, sought);
        visits = omega arith;
        more = 0;
        walks = refl;
        places = omega arith;
      })
  leads_from (node l e r) zero p q w lower upper here deep between represented fits sought =
      absurd (omega arith)
  leads_from (node l e r) (suc remaining) p q w lower upper here deep between represented fits sought =
      let node_held = represented.0 in
      let beside = neighbour_in_lem w.link e.label (omega (arith, node_held.low)) (label_here node_held w here) in
      leads_same (steps_at_node step_at limits table store x node_held remaining w.p w.s)
      (trace_at node_held w here remaining)
      (leads_by e w (node_row p l e r q) (trace_from limits table store x remaining)
      (steps limits table store x remaining (link_of l)) (steps limits table store x remaining (link_of r))
      (full_search x l) (full_search x r) lower upper here
      (λ P S examined. leads_from l remaining p (held e.label)
      (spot_at w (link_of l) P S w.below w.link examined) lower beside.1 refl (omega arith)
      between.on_left_lem represented.1 (omega arith))
      (λ P S examined. leads_from r remaining (held e.label) q
      (spot_at w (link_of r) P S w.link w.above examined) beside.0 upper refl (omega arith)
      between.on_right_lem represented.2 (omega arith))
      (step_goes sought between.above between.below))

-- where the search ended, in the terms of the whole tree
ends_of_tree : (x : Label) (t : Tree) (result : Held) (trace : Trace)
    → EndsIn (low_to none_below x t) x (high_to none_above x t) result trace.found trace.p trace.s
    → Ends x t result trace
ends_of_tree x t absent trace ends = ends
ends_of_tree x t (found e) trace ends = ends

-- the trace of a search is the way of the full comparison search on the tree
pub way_of_trace : (limits : Limits) (table store : List ℕ) (x : Label) (t : Tree) → root_link table ≡ link_of t
    → Represents limits table store none_below none_above t → Between none_below none_above t
    → height t ≤ limits.depth → Way limits table store x t (traced limits table store x)
unfolding traced search_steps
way_of_trace limits table store x t root represented between fits =
    let leads = leads_from limits table store x t limits.depth none_below none_above (root_spot table)
    refl refl root (omega arith) between represented fits (sought_first x) in
    let walk : search_steps limits table store x ≡ ended (full_search x t) leads.more =
    ap (λ (k : ℕ). steps limits table store x limits.depth k 1 1) root ∙ leads.walks in
    record {
      path = leads.path;
      sides = leads.sides;
      below = leads.below;
      above = leads.above;
      ends = ends_of_tree x t (full_search x t).result (traced limits table store x) leads.ends;
      visits = omega (arith, leads.visits, ap visits_of walk);
      places = omega (arith, leads.places, ap places_of walk);
    }
