-- The counts of one search in a list of calls, from the cost rule.
-- counts_within: a search visits at most as many nodes as the depth, and examines at most as many places as the width
-- and the depth together.
use mathlib.Core.List.{List, [], ◌∷◌, ◌++◌}
use mathlib.Core.Path.{◌≡◌, refl, ap}
use Prim.Native.Nat.{◌+◌}
use native.Mathlib.Omega.{arith}
use lib.ListN.{length}
use Rattle.types.specs.declared.Limits.{Limits}
use Rattle.labels.specs.Labels.{Label}
use Rattle.labels.proofs.Clashes.{clash}
use Rattle.trees.specs.Trees.{Tree}
use Rattle.trees.specs.Searches.{full_search}
use Rattle.trees.specs.Plain.{State, fresh, Call, search, plain_step}
use Rattle.tables.specs.Written.{Memory}
use Rattle.tables.specs.Steps.{search_steps}
use Rattle.tables.specs.Outcomes.{layout_outcome, visits_of}
use Rattle.tables.specs.Claims.{LabelFits, SearchAgrees, call_outcome, after_list, CallsAgree, CostRule}
use Rattle.demands.specs.Counts.{Few, CountsWithin}

module _ (limits : Limits) (x : Label) (fits : LabelFits limits x) where
  -- A search that agrees with the full comparison search has few visits and places.
  few_of_agreeing : (m : Memory) (t : Tree) → SearchAgrees limits x m t
      → Few limits.depth (limits.width + limits.depth) (search_steps limits m.table m.store x)
  few_of_agreeing m t agrees =
      let visits : visits_of (search_steps limits m.table m.store x) ≡ length (full_search x t).visited =
      ap visits_of agrees.walk in
      record {
        whole = λ gone. clash (cc (gone, agrees.walk));
        few_visits = omega arith;
        examined = omega arith;
      }

  -- So has a search after a list of calls that agree.
  few_after : (calls : List Call) (m : Memory) (s : State) → CallsAgree limits (calls ++ (search x ∷ [])) m s
      → Few limits.depth (limits.width + limits.depth)
      (search_steps limits (after_list limits calls m).table (after_list limits calls m).store x)
  few_after [] m s agree = few_of_agreeing m s.tree (agree.0.search (record { label = fits; charge = refl }))
  few_after (c ∷ calls) m s agree =
      few_after calls (call_outcome limits c m).memory (plain_step limits.slots limits.width c s).state agree.1

-- By the cost rule, a search visits at most as many nodes as the depth, and examines at most as many places as the
-- width and the depth together.
pub counts_within : (limits : Limits) → CostRule limits
    → CountsWithin limits limits.depth (limits.width + limits.depth)
counts_within limits rule table store words bytes calls x fits =
    few_after limits x fits calls (layout_outcome limits table store).memory fresh
    (rule table store words bytes (calls ++ (search x ∷ [])))
