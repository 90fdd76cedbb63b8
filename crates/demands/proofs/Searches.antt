-- A search on a valid state written out agrees with the full comparison search of the plain tree.
-- search_of_written: so it does, with the bounds on visits and places.
use native.Mathlib.Omega.{arith}
use Rattle.types.specs.declared.Limits.{Limits}
use Rattle.labels.specs.Labels.{Label}
use Rattle.labels.proofs.Shared.{most_within}
use Rattle.trees.specs.Trees.{labels}
use Rattle.trees.specs.Heights.{Deepest}
use Rattle.trees.specs.Plain.{State}
use Rattle.trees.specs.Valid.{Valid}
use Rattle.trees.proofs.Sorted.{between_of_ascends}
use Rattle.trees.proofs.Visits.{least_of_visits, visits_within_depth}
use Rattle.tables.specs.Written.{written, written_table, written_store}
use Rattle.tables.specs.Claims.{SearchAgrees}
use Rattle.steps.proofs.Walks.{Walked, search_agrees}
use Rattle.written.proofs.Rows.{root_of_written}
use Rattle.written.proofs.Slots.{written_represents}
use Rattle.written.proofs.Readings.{size_within}
use Rattle.written.proofs.Held.{height_within}

-- A search on a valid state written out goes as the full comparison search of its tree, with few visits and places.
pub search_of_written : (limits : Limits) → Deepest limits.slots limits.depth
    → (s : State) → Valid limits.slots limits.width s → (x : Label)
    → SearchAgrees limits x (written limits s) s.tree
search_of_written limits deepest s valid x =
    let walked : Walked limits (written_table limits s) (written_store limits s) x s.tree =
    search_agrees limits (written_table limits s) (written_store limits s) x s.tree (root_of_written limits s)
    (written_represents limits s valid) (between_of_ascends s.tree valid.ascending)
    (height_within limits deepest s valid) in
    record {
      walk = walked.walk;
      few = least_of_visits x s.tree valid.balanced;
      shallow = visits_within_depth limits.slots limits.depth deepest x s.tree valid.balanced
          (size_within limits s valid);
      shared = walked.shared;
      short = omega (arith, walked.shared, most_within x (labels s.tree));
    }
