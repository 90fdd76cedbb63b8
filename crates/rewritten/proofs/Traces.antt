-- What a trace says of the search for a label in the tree that a table and a store hold.
-- `Way`: the way through the tree, the window at its end and the counts. `Ends`: where it ended.
use mathlib.Core.List.{List}
use mathlib.Core.Path.{◌≡◌}
use Prim.Native.Nat.{ℕ}
use lib.ListN.{length}
use Rattle.types.specs.declared.Limits.{Limits}
use Rattle.labels.specs.Labels.{Label}
use Rattle.labels.specs.Neighbours.{none_below, none_above}
use Rattle.trees.specs.Trees.{Tree}
use Rattle.trees.specs.Searches.{Held, absent, found, full_search}
use Rattle.tables.specs.Steps.{search_steps}
use Rattle.tables.specs.Outcomes.{visits_of, places_of}
use Rattle.gaps.specs.Windows.{below_in, above_in}
use Rattle.steps.proofs.Window.{Sought}
use Rattle.paths.specs.Paths.{path_of}
use Rattle.rotations.proofs.Along.{sides_to, low_to, high_to}
use Rattle.traces.specs.declared.Trace.{Trace}

-- where a search with this result ended
abbrev pub Ends : Label → Tree → Held → Trace → Type 0
Ends x t absent trace =
    (trace.found ≡ 0) × Sought (low_to none_below x t) x (high_to none_above x t) trace.p trace.s
Ends x t (found e) trace = trace.found ≡ e.slot

pub record Way (limits : Limits) (table store : List ℕ) (x : Label) (t : Tree) (trace : Trace) : Type 0 where
  pub path : trace.path ≡ path_of (sides_to x t)
  pub sides : trace.length ≡ length (sides_to x t)
  pub below : below_in limits table store trace.below ≡ low_to none_below x t
  pub above : above_in limits table store trace.above ≡ high_to none_above x t
  pub ends : Ends x t (full_search x t).result trace
  pub visits : trace.visits ≡ visits_of (search_steps limits table store x)
  pub places : trace.places ≡ places_of (search_steps limits table store x)
