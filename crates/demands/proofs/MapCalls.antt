-- Searches and updates on a valid state written out are those of its map, for a label that fits.
-- search_looks_up: a search looks up. updates_map: an update inserts into the map, or removes from it.
use mathlib.Core.Bool.{false}
use mathlib.Core.Path.{◌≡◌, refl, sym, ap, ◌∙◌}
use Prim.Native.Nat.{ℕ}
use Rattle.types.specs.declared.Limits.{Limits}
use Rattle.types.specs.Answers.{found as found_with}
use Rattle.labels.specs.Labels.{Label, Alike}
use Rattle.labels.specs.Neighbours.{none_below, none_above}
use Rattle.labels.proofs.Clashes.{clash}
use Rattle.trees.specs.Trees.{Entry}
use Rattle.trees.specs.Heights.{Deepest}
use Rattle.trees.specs.Searches.{Held, absent, found, full_search, slot_of}
use Rattle.trees.specs.Plain.{State, Call, search, insert, delete, sought_by, wrong_charge}
use Rattle.trees.specs.Plain.{After, after_search, after_full_search, plain_step}
use Rattle.trees.specs.Map.{lookup, map_of}
use Rattle.trees.specs.Valid.{Valid}
use Rattle.trees.proofs.MapLaws.{pair_in, lookup_of_search}
use Rattle.trees.proofs.Searched.{found_alike}
use Rattle.trees.proofs.ValidSteps.{valid_after}
use Rattle.tables.specs.Written.{written, written_table, written_store}
use Rattle.tables.specs.Steps.{Walk, search_steps}
use Rattle.tables.specs.Outcomes.{search_outcome, reply_answer, update_outcome}
use Rattle.tables.specs.Claims.{LabelFits, Searches}
use Rattle.tables.specs.MapClaims.{label_in, charge_in, pair_said, SearchLooksUp, UpdatesMap}
use Rattle.written.proofs.Slots.{written_represents}
use Rattle.demands.proofs.Outcomes.{search_outcome_lem, update_outcome_lem}
use Rattle.demands.proofs.MapSteps.{step_of_fitting, pair_of_answer, search_answered}
use Rattle.demands.proofs.MapSteps.{insert_reply, insert_map, delete_reply, delete_map}
use Rattle.demands.proofs.LabelsRead.{found_in_slot}
use Rattle.demands.proofs.OnSound.{count_of_map, sound_out, map_of_written}

module _ (limits : Limits) (deepest : Deepest limits.slots limits.depth) where
  -- a call with a label that fits, by what its search found
  module _ (s : State) (valid : Valid limits.slots limits.width s)
      (c : Call) (makes : Searches limits c) where
    -- what the plain tree's step leaves, and the steps on the table
    abbrev settled_by : After
    settled_by = after_full_search limits.slots c (full_search (sought_by c) s.tree) s

    abbrev walk_for : Walk
    walk_for = search_steps limits (written_table limits s) (written_store limits s) (sought_by c)

    -- The plain tree's step is settled by what the search found.
    step_settled : plain_step limits.slots limits.width c s ≡ settled_by
    step_settled =
        step_of_fitting limits.slots limits.width c s makes.label.some makes.label.short makes.charge

    -- It leaves a valid state.
    valid_settled : Valid limits.slots limits.width settled_by.state
    valid_settled = rw step_settled at (valid_after limits.slots limits.width s valid c)

    -- An update on the state written out leaves that state, written out.
    update_settled : update_outcome limits c (written_table limits s) (written_store limits s)
        ≡ record { answer = reply_answer settled_by.reply walk_for; memory = written limits settled_by.state }
    update_settled = rw step_settled at (update_outcome_lem limits s deepest valid c)

  module _ (s : State) (valid : Valid limits.slots limits.width s) (x : Label) (fits : LabelFits limits x) where
    -- A call that gives no charge makes a search.
    makes : (c : Call) → sought_by c ≡ x → wrong_charge c ≡ false → Searches limits c
    makes c seeks right = record { label = rw seeks fits; charge = right }

    -- what the search of the plain tree finds, the slots beside it, and the steps on the table
    abbrev sought : Held
    sought = (full_search x s.tree).result

    abbrev below : ℕ
    below = slot_of (full_search x s.tree).below

    abbrev above : ℕ
    above = slot_of (full_search x s.tree).above

    abbrev walk : Walk
    walk = search_steps limits (written_table limits s) (written_store limits s) x

    -- What it finds is what the map holds.
    looked_up : pair_in sought ≡ lookup x (map_of s.tree)
    looked_up = lookup_of_search s.tree valid.ascending x

    -- The slot of the node that it finds shows the node's label, and has its charge.
    shown : (e : Entry) → sought ≡ found e
        → (label_in limits (written limits s) e.slot ≡ e.label) × (charge_in (written limits s) e.slot ≡ e.charge)
    shown =
        found_in_slot limits (written limits s) x none_below none_above s.tree (written_represents limits s valid)

    -- A search looks up.
    pub search_looks_up : SearchLooksUp limits (written limits s) x
    search_looks_up = record {
      pair =
          ap (pair_said limits (written limits s)) answer
          ∙ pair_of_answer s walk limits (written limits s) sought below above
          (λ e held_so. (shown e held_so).0) (λ e held_so. (shown e held_so).1)
          ∙ looked_up ∙ ap (lookup x) (sym (map_of_written limits deepest s valid));
      slot = λ k v visits places says. slot_of_found k v visits places sought refl (sym answer ∙ says);
      answered = λ number refusal. search_answered s walk sought below above number (sym answer ∙ refusal);
    }
      where
        answer : search_outcome limits (written_table limits s) (written_store limits s) x
            ≡ reply_answer (after_search sought below above s).reply walk
        answer =
            rw (step_settled s valid (search x) (makes (search x) refl refl))
            at (search_outcome_lem limits s deepest valid x)

        -- the slot that it gives has a label alike to the one sought
        slot_of_found : (k v visits places : ℕ) (h : Held) → sought ≡ h
            → reply_answer (after_search h below above s).reply walk ≡ found_with k v visits places
            → Alike x (label_in limits (written limits s) k)
        slot_of_found k v visits places absent none_held says =
            clash cc
        slot_of_found k v visits places (found e) held_so says =
            let there : e.slot ≡ k = cc in
            rw (← there, (shown e held_so).0) (found_alike x s.tree held_so)

    -- An update inserts into the map, or removes from it.
    pub updates_map : (value : ℕ) → UpdatesMap limits (written limits s) x value
    updates_map value =
        let inserted = update_settled s valid (insert x value) (makes (insert x value) refl refl) in
        let after_insert_lem = valid_settled s valid (insert x value) (makes (insert x value) refl refl) in
        let deleted = update_settled s valid (delete x) (makes (delete x) refl refl) in
        let after_delete_lem = valid_settled s valid (delete x) (makes (delete x) refl refl) in
        record {
          insert_says =
              rw (inserted, map_of_written limits deepest s valid, ← looked_up, count_of_map s)
              (insert_reply s walk limits.slots x value sought);
          insert_leaves =
              rw (inserted, map_of_written limits deepest _ after_insert_lem, map_of_written limits deepest s valid)
              (insert_map s walk limits.slots x value valid.ascending sought);
          insert_sound = rw inserted (sound_out limits deepest _ after_insert_lem);
          delete_says = rw (deleted, map_of_written limits deepest s valid, ← looked_up) (delete_reply s walk x sought);
          delete_leaves =
              rw (deleted, map_of_written limits deepest _ after_delete_lem, map_of_written limits deepest s valid)
              (delete_map s walk x valid.ascending sought looked_up);
          delete_sound = rw deleted (sound_out limits deepest _ after_delete_lem);
        }
