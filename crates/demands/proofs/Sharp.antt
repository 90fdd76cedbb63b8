-- The limit by shared bytes is sharp: with one label held every search reaches it.
-- only, valid_only: the state that holds one label, which is valid.
-- at_limit_with_one: its search steps examine as many places as they visit nodes and the labels share bytes.
-- no_smaller_limit: so no limit that reads labels alone is smaller there.
use mathlib.Core.List.{List, []}
use mathlib.Core.Path.{◌≡◌, refl}
use Prim.Native.Nat.{ℕ, zero, suc, ◌+◌, ◌≤◌}
use native.Mathlib.Omega.{arith}
use lib.ListN.{length}
use borrow.Author.Tests.{le-leb}
use Rattle.types.specs.declared.Limits.{Limits}
use Rattle.labels.specs.Labels.{Label, Comparison, smaller, same, larger, place_of, compare_labels, compare_from}
use Rattle.labels.specs.Labels.{difference_place}
use Rattle.labels.specs.Shared.{shared_bytes}
use Rattle.labels.proofs.Shared.{place_after_shared}
use Rattle.trees.specs.Trees.{Entry, empty, node}
use Rattle.trees.specs.Heights.{Deepest}
use Rattle.trees.specs.Plain.{State, new_node}
use Rattle.trees.specs.Valid.{Valid}
use Rattle.tables.specs.Words.{root_link}
use Rattle.tables.specs.Written.{written, written_table, written_store}
use Rattle.tables.specs.Steps.{step_at, Walk, missing, compare_step, walk_by, steps, search_steps}
use Rattle.tables.specs.Outcomes.{visits_of, places_of}
use Rattle.tables.specs.Claims.{LabelFits}
use Rattle.steps.proofs.Rows.{steps_at_node}
use Rattle.steps.proofs.Walks.{steps_at_missing}
use Rattle.written.proofs.Rows.{root_of_written}
use Rattle.written.proofs.Slots.{written_represents}
use Rattle.written.proofs.Held.{height_within}
use Rattle.demands.specs.PlaceLimits.{NoSmallerLimit}
use Rattle.demands.proofs.OnSound.{sound_out}
use Rattle.demands.proofs.PlaceLimits.{labels_of_written}

-- the node of a label that alone is held, and the state
abbrev entry : Label → Entry
entry y = new_node y 0 1

abbrev only : Label → State
only y = record { tree = node empty (entry y) empty; freed = []; high = 1 }

-- a walk that visits one node, and examines as many places as a number says
record OneVisit (places : ℕ) (w : Walk) : Type 0 where
  visits : visits_of w ≡ 1
  examined : places_of w ≡ places

-- A walk that compares from place 1 on at a node without sons is over after it.
one_visit : (e : Entry) (r : Comparison) (to_left to_right : ℕ → ℕ → Walk) → ((P S : ℕ) → to_left P S ≡ missing)
    → ((P S : ℕ) → to_right P S ≡ missing) → OneVisit (place_of r) (walk_by (compare_step r 1 1 1) e to_left to_right)
one_visit e (smaller i) to_left to_right no_left no_right =
    rw (no_left 1 i) (record { visits = refl; examined = omega arith })
one_visit e (same i) to_left to_right no_left no_right = record { visits = refl; examined = omega arith }
one_visit e (larger i) to_left to_right no_left no_right =
    rw (no_right i 1) (record { visits = refl; examined = omega arith })

module _ (limits : Limits) (deepest : Deepest limits.slots limits.depth) (some : 1 ≤ limits.slots)
    (y : Label) (fits : LabelFits limits y) where
  -- The state is valid.
  valid_only : Valid limits.slots limits.width (only y)
  valid_only = record {
    balanced = refl;
    ascending = refl;
    fitting = rw (le-leb 1 (length y) fits.some, le-leb (length y) limits.width fits.short);
    charges_fit = refl;
    allotted = refl;
    within = some;
  }

  abbrev table : List ℕ
  table = written_table limits (only y)

  abbrev store : List ℕ
  store = written_store limits (only y)

  -- The walk from its node compares from place 1 on.
  walk_of_only : (x : Label) (depth : ℕ) → 1 ≤ depth
      → OneVisit (place_of (compare_labels x y)) (steps limits table store x depth 1 1 1)
  unfolding compare_labels compare_from
  walk_of_only x zero deep = absurd (omega arith)
  walk_of_only x (suc depth) deep =
      rw (steps_at_node step_at limits table store x (written_represents limits (only y) valid_only).0 depth 1 1)
      (one_visit (entry y) (compare_labels x y) (steps limits table store x depth 0) (steps limits table store x depth 0)
      (steps_at_missing step_at limits table store x depth) (steps_at_missing step_at limits table store x depth))

  -- A search reaches the limit there: it examines as many places as it visits nodes and the labels share bytes.
  pub at_limit_with_one : (x : Label)
      → places_of (search_steps limits table store x) ≡ visits_of (search_steps limits table store x) + shared_bytes x y
  unfolding search_steps difference_place
  at_limit_with_one x =
      let walked : OneVisit (place_of (compare_labels x y))
      (steps limits table store x limits.depth (root_link table) 1 1) =
      rw (root_of_written limits (only y))
      (walk_of_only x limits.depth (height_within limits deepest (only y) valid_only)) in
      omega (arith, walked.visits, walked.examined, place_after_shared x y)

-- With one label held no limit that reads labels alone is smaller.
pub no_smaller_limit : (limits : Limits) → Deepest limits.slots limits.depth → 1 ≤ limits.slots
    → NoSmallerLimit limits
no_smaller_limit limits deepest some bytes within x y fits =
    let valid = valid_only limits deepest some y fits in
    let walked = within (written limits (only y)) (sound_out limits deepest (only y) valid) x in
    let held = rw (labels_of_written limits deepest (only y) valid) at walked.few in
    omega (arith, held, at_limit_with_one limits deepest some y fits x)
