-- Limits on the places of a search, on a sound table and store.
-- shared_limit: places are at most visits plus the most leading bytes shared with one label held.
-- within_larger, length_limit: what is within a limit is within every larger one; so within that by the label's length.
use mathlib.Core.List.{List, [], map}
use mathlib.Core.Path.{◌≡◌, refl, ap, ◌∙◌}
use Prim.Native.Nat.{ℕ, ◌≤◌}
use native.Mathlib.Omega.{arith}
use lib.ListN.{length, length-map}
use Rattle.types.specs.declared.Limits.{Limits}
use Rattle.types.specs.Answers.{Answer}
use Rattle.types.specs.Answers as says
use Rattle.labels.specs.Labels.{Label}
use Rattle.labels.specs.Shared.{most_shared}
use Rattle.labels.proofs.Clashes.{clash}
use Rattle.labels.proofs.Shared.{most_within}
use Rattle.trees.specs.Trees.{Tree, empty, node, entries, labels}
use Rattle.trees.specs.Searches.{full_search}
use Rattle.trees.specs.Heights.{Deepest}
use Rattle.trees.specs.Plain.{State, Call, Reply, found_at, not_held, updated, refused, sought_by, plain_step}
use Rattle.trees.specs.Valid.{Valid}
use Rattle.trees.specs.Map.{Pair}
use Rattle.trees.proofs.Entries.{length_of_entries}
use Rattle.trees.proofs.MapLaws.{keys_of_map}
use Rattle.tables.specs.Written.{written, written_table, written_store}
use Rattle.tables.specs.Steps.{Walk, search_steps}
use Rattle.tables.specs.Outcomes.{visits_of, reply_answer}
use Rattle.tables.specs.Claims.{SearchAgrees, call_outcome}
use Rattle.tables.specs.MapClaims.{labels_in}
use Rattle.demands.specs.PlaceLimits.{ByteLimit, WalkWithin, AnswerWithin, SearchesWithin, BothZero}
use Rattle.demands.specs.PlaceLimits.{SharedLimit, LengthLimit}
use Rattle.demands.proofs.Searches.{search_of_written}
use Rattle.demands.proofs.CostRule.{call_agrees}
use Rattle.demands.proofs.OnSound.{of_sound, map_of_written}

-- A reply with the counts of a walk within a limit is within it.
reply_within : {bytes : ℕ} (r : Reply) (w : Walk) → WalkWithin bytes w → AnswerWithin bytes (reply_answer r w)
reply_within (found_at slot value) w within = within.few
reply_within (not_held below above) w within = within.few
reply_within (updated slot) w within = within.few
reply_within (refused number) w within = tt

-- A search of a tree without labels visits none.
none_visited : (x : Label) (t : Tree) → labels t ≡ [] → length (full_search x t).visited ≡ 0
none_visited x empty none = refl
none_visited x (node l e r) none =
    absurd (omega (
      arith,
      ap length none,
      length-map (entries (node l e r)) (λ e. e.label),
      length_of_entries (node l e r),
    ))

module _ (limits : Limits) (deepest : Deepest limits.slots limits.depth) where
  module _ (s : State) (valid : Valid limits.slots limits.width s) where
    -- A valid state written out holds the labels of its tree.
    pub labels_of_written : labels_in limits (written limits s) ≡ labels s.tree
    labels_of_written =
        ap (map (λ (p : Pair). p.label)) (map_of_written limits deepest s valid) ∙ keys_of_map s.tree

    module _ (x : Label) where
      abbrev steps : Walk
      steps = search_steps limits (written_table limits s) (written_store limits s) x

      abbrev agrees : SearchAgrees limits x (written limits s) s.tree
      agrees = search_of_written limits deepest s valid x

      -- Its search steps are within the limit.
      steps_on_written : WalkWithin (most_shared x (labels_in limits (written limits s))) steps
      steps_on_written =
          rw labels_of_written
          (record {
            whole = λ gone. clash (cc (gone, agrees.walk));
            few = omega (arith, agrees.shared, ap visits_of agrees.walk);
          })

      -- With no label held both sides are 0.
      zero_on_written : labels_in limits (written limits s) ≡ [] → BothZero limits (written limits s) x
      zero_on_written none =
          let nothing : most_shared x (labels_in limits (written limits s)) ≡ 0 = rw none refl in
          let visits = ap visits_of agrees.walk ∙ none_visited x s.tree (rw labels_of_written at none) in
          record {
            places = omega (arith, steps_on_written.few);
            limit = omega arith;
          }

    -- So are the answers of its calls.
    answers_on_written : (c : Call)
        → AnswerWithin (most_shared (sought_by c) (labels_in limits (written limits s)))
        (call_outcome limits c (written limits s)).answer
    answers_on_written c =
        rw (call_agrees limits deepest s valid c).answer
        (reply_within (plain_step limits.slots limits.width c s).reply (steps (sought_by c))
        (steps_on_written (sought_by c)))

  -- On every sound table places are at most visits plus the most leading bytes shared with one label held.
  pub shared_limit : SharedLimit limits
  shared_limit = record {
    within = record {
      steps =
          of_sound limits deepest
          (λ m. (x : Label)
          → WalkWithin (most_shared x (labels_in limits m)) (search_steps limits m.table m.store x))
          steps_on_written;
      answers =
          of_sound limits deepest
          (λ m. (c : Call)
          → AnswerWithin (most_shared (sought_by c) (labels_in limits m)) (call_outcome limits c m).answer)
          answers_on_written;
    };
    none_held = λ m sound none x.
        of_sound limits deepest (λ m. labels_in limits m ≡ [] → BothZero limits m x)
        (λ s valid. zero_on_written s valid x) m sound none;
  }

-- An answer within a limit is within a larger one.
answer_within : {bytes more : ℕ} (answer : Answer) → bytes ≤ more → AnswerWithin bytes answer → AnswerWithin more answer
answer_within (says.found slot value visits places) larger within = omega arith
answer_within (says.absent below above visits places) larger within = omega arith
answer_within (says.updated slot visits places) larger within = omega arith
answer_within (says.listed count) larger within = tt
answer_within says.done larger within = tt
answer_within (says.refused number) larger within = tt

module _ (limits : Limits) where
  -- Searches within a limit are within every larger one.
  pub within_larger : (bytes more : ByteLimit) → ((x : Label) (held : List Label) → bytes x held ≤ more x held)
      → SearchesWithin limits bytes → SearchesWithin limits more
  within_larger bytes more larger within = record {
    steps = λ m sound x.
        let walked = within.steps m sound x in
        record { whole = walked.whole; few = omega (arith, walked.few, larger x (labels_in limits m)) };
    answers = λ m sound c.
        answer_within (call_outcome limits c m).answer (larger (sought_by c) (labels_in limits m))
        (within.answers m sound c);
  }

  -- The limit by the sought label's length follows from the tighter one.
  pub length_limit : SharedLimit limits → LengthLimit limits
  length_limit shared = within_larger most_shared (λ x held. length x) most_within shared.within
