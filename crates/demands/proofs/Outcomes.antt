-- The outcome of a call on a valid state written out is that of the plain tree's step.
-- memory_passes, written_passes: memory of the right lengths, as a state written out, passes the first two lines of the
-- table of refusals.
-- answer_of_held: what a search finds is answered as the plain tree replies.
-- search_outcome: a search answers as the plain tree replies, with the counts of its steps.
-- update_outcome: so does an update, and it leaves the plain tree's state, written out.
use mathlib.Core.List.{List, [], ◌∷◌}
use mathlib.Core.Path.{◌≡◌, refl}
use mathlib.Core.Bool.{Bool, true, false}
use Prim.Native.Nat.{ℕ}
use lib.Dec.{eqb, ltb, leb}
use lib.ListN.{length}
use borrow.Author.Tests.{eq-eqb}
use Rattle.types.specs.declared.Limits.{Limits}
use Rattle.types.specs.Sizes.{table_length, store_length}
use Rattle.labels.specs.Labels.{Label}
use Rattle.trees.specs.Trees.{size}
use Rattle.trees.specs.Heights.{Deepest}
use Rattle.trees.specs.Searches.{Held, absent, found, Search, full_search, slot_of}
use Rattle.trees.specs.Plain.{State, Call, search, insert, delete, set_charge, sought_by, wrong_charge, After}
use Rattle.trees.specs.Plain.{after_search, new_entry, insert_if_room, after_insert, after_delete, after_charge}
use Rattle.trees.specs.Plain.{after_full_search, after_arguments, after_length, plain_step}
use Rattle.trees.specs.Valid.{Valid}
use Rattle.tables.specs.Written.{Memory, written, written_table, written_store}
use Rattle.tables.specs.Steps.{Walk, ended, search_steps}
use Rattle.tables.specs.Outcomes.{Verdict, pass, line, of_memory, of_charge, answer_by, answer_of, walk_answer}
use Rattle.tables.specs.Outcomes.{search_outcome, Outcome, outcome_by, visits_of, places_of, reply_answer, memory_after}
use Rattle.tables.specs.Outcomes.{settled, update_outcome}
use Rattle.written.proofs.Rows.{length_of_written_table}
use Rattle.written.proofs.Parts.{length_of_written_store}
use Rattle.written.proofs.Readings.{state_of_written}
use Rattle.written.proofs.Sounds.{sound_of_written}
use Rattle.written.proofs.Held.{height_within}
use Rattle.demands.proofs.Searches.{search_of_written}

-- Memory of the right lengths passes the first two lines of the table of refusals.
pub memory_passes : (limits : Limits) (table store : List ℕ)
    → length table ≡ table_length limits → length store ≡ store_length limits
    → (below : Verdict) → of_memory limits table store below ≡ below
memory_passes limits table store words bytes below =
    rw (eq-eqb (length table) (table_length limits) words, eq-eqb (length store) (store_length limits) bytes)

-- So does a state written out.
pub written_passes : (limits : Limits) (s : State) (below : Verdict)
    → of_memory limits (written_table limits s) (written_store limits s) below ≡ below
written_passes limits s below =
    memory_passes limits (written_table limits s) (written_store limits s)
    (length_of_written_table limits s) (length_of_written_store limits s) below

-- What a search finds is answered as the plain tree replies.
pub answer_of_held : (h : Held) (below above : ℕ) (w : Walk) (s : State)
    → answer_of h below above (visits_of w) (places_of w) ≡ reply_answer (after_search h below above s).reply w
answer_of_held absent below above w s = refl
answer_of_held (found e) below above w s = refl

-- So is a walk that ends with it.
answer_of_walk : (w : Walk) (f : Search) (places : ℕ) (s : State) → w ≡ ended f places
    → walk_answer w ≡ reply_answer (after_search f.result (slot_of f.below) (slot_of f.above) s).reply w
answer_of_walk w f places s ends =
    rw ends (answer_of_held f.result (slot_of f.below) (slot_of f.above) (ended f places) s)

module _ (limits : Limits) (s : State) where
  -- where a state is written out
  abbrev Out : Memory
  Out = written limits s

  -- A search leaves the state, and so the memory.
  memory_of_search : (h : Held) (below above : ℕ)
      → memory_after limits Out (after_search h below above s).reply (after_search h below above s).state
      ≡ written limits (after_search h below above s).state
  memory_of_search absent below above = refl
  memory_of_search (found e) below above = refl

  -- An insert leaves the new state, written out.
  memory_of_insert : (x : Label) (v : ℕ) (h : Held)
      → memory_after limits Out (after_insert limits.slots h x v s).reply (after_insert limits.slots h x v s).state
      ≡ written limits (after_insert limits.slots h x v s).state
  memory_of_insert x v (found e) = refl
  memory_of_insert x v absent = by_room (leb limits.slots (size s.tree))
    where
      by_free : (freed : List ℕ)
          → memory_after limits Out (new_entry x v s.tree freed s.high).reply
          (new_entry x v s.tree freed s.high).state
          ≡ written limits (new_entry x v s.tree freed s.high).state
      by_free [] = refl
      by_free (k ∷ freed) = refl

      by_room : (full : Bool) → memory_after limits Out (insert_if_room full x v s).reply (insert_if_room full x v s).state
          ≡ written limits (insert_if_room full x v s).state
      by_room true = refl
      by_room false = by_free s.freed

  -- So does a delete.
  memory_of_delete : (x : Label) (h : Held)
      → memory_after limits Out (after_delete h x s).reply (after_delete h x s).state
      ≡ written limits (after_delete h x s).state
  memory_of_delete x absent = refl
  memory_of_delete x (found e) = refl

  -- So does a charge set.
  memory_of_charge : (x : Label) (n : ℕ) (h : Held)
      → memory_after limits Out (after_charge h x n s).reply (after_charge h x n s).state
      ≡ written limits (after_charge h x n s).state
  memory_of_charge x n absent = refl
  memory_of_charge x n (found e) = refl

  -- So does each call, by what its search found.
  memory_of_call : (c : Call) (f : Search)
      → memory_after limits Out (after_full_search limits.slots c f s).reply
      (after_full_search limits.slots c f s).state
      ≡ written limits (after_full_search limits.slots c f s).state
  memory_of_call (search x) f = memory_of_search f.result (slot_of f.below) (slot_of f.above)
  memory_of_call (insert x v) f = memory_of_insert x v f.result
  memory_of_call (delete x) f = memory_of_delete x f.result
  memory_of_call (set_charge x n) f = memory_of_charge x n f.result

  -- what a step of the plain tree answers and leaves
  abbrev after : Walk → After → Outcome
  after w a = record { answer = reply_answer a.reply w; memory = written limits a.state }

  -- An update is refused by the test of its charge, or settled by the plain tree's step.
  outcome_by_charge : (c : Call) (w : Walk) (wrong : Bool)
      → outcome_by (line wrong 24 pass) Out (settled limits Out w (after_arguments wrong limits.slots c s))
      ≡ after w (after_arguments wrong limits.slots c s)
  outcome_by_charge c w true = refl
  outcome_by_charge c w false = λ i.
      record {
        answer = reply_answer (after_arguments false limits.slots c s).reply w;
        memory = memory_of_call c (full_search (sought_by c) s.tree) i;
      }

  -- So it is by the tests of its label.
  outcome_by_tests : (c : Call) (w : Walk) (empty long : Bool)
      → outcome_by (line empty 3 (line long 4 (of_charge c pass))) Out
      (settled limits Out w (after_length empty long limits.slots c s))
      ≡ after w (after_length empty long limits.slots c s)
  outcome_by_tests c w true long = refl
  outcome_by_tests c w false true = refl
  outcome_by_tests c w false false = outcome_by_charge c w (wrong_charge c)

  -- A search is refused by the tests, or answered by its walk.
  answer_by_tests : (x : Label) (w : Walk) (empty long : Bool)
      → walk_answer w ≡ reply_answer (after_full_search limits.slots (search x) (full_search x s.tree) s).reply w
      → answer_by (line empty 3 (line long 4 pass)) (walk_answer w)
      ≡ reply_answer (after_length empty long limits.slots (search x) s).reply w
  answer_by_tests x w true long walked = refl
  answer_by_tests x w false true walked = refl
  answer_by_tests x w false false walked = walked

  -- the steps of a search there
  abbrev steps_for : Label → Walk
  steps_for x = search_steps limits (written_table limits s) (written_store limits s) x

  module _ (deepest : Deepest limits.slots limits.depth) (valid : Valid limits.slots limits.width s) where
    -- A search answers as the plain tree replies, with the counts of its steps.
    pub search_outcome_lem : (x : Label) → search_outcome limits (written_table limits s) (written_store limits s) x
        ≡ reply_answer (plain_step limits.slots limits.width (search x) s).reply (steps_for x)
    unfolding search_outcome
    search_outcome_lem x =
        rw (written_passes limits s)
        (answer_by_tests x (steps_for x) (eqb (length x) 0) (ltb limits.width (length x))
        (answer_of_walk (steps_for x) (full_search x s.tree) (places_of (steps_for x)) s
        (search_of_written limits deepest s valid x).walk))

    -- An update answers as the plain tree replies, and leaves the plain tree's state, written out.
    pub update_outcome_lem : (c : Call) → update_outcome limits c (written_table limits s) (written_store limits s)
        ≡ record {
          answer = reply_answer (plain_step limits.slots limits.width c s).reply (steps_for (sought_by c));
          memory = written limits (plain_step limits.slots limits.width c s).state;
        }
    unfolding update_outcome
    update_outcome_lem c =
        rw (
          written_passes limits s,
          sound_of_written limits s valid (height_within limits deepest s valid),
          state_of_written limits s valid (height_within limits deepest s valid),
        )
        (outcome_by_tests c (steps_for (sought_by c))
        (eqb (length (sought_by c)) 0) (ltb limits.width (length (sought_by c))))
