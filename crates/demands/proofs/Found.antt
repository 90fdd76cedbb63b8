-- A search on a valid state written out finds exactly the labels that the plain tree holds.
-- finds_held: it is answered found with the slot and the value of the node that has the label, and found nowhere else.
use mathlib.Core.Path.{◌≡◌, refl, sym, ap, ◌∙◌}
use Prim.Native.Nat.{ℕ}
use Rattle.types.specs.declared.Limits.{Limits}
use Rattle.types.specs.Answers.{found as found_with}
use Rattle.labels.specs.Labels.{Label, Alike}
use Rattle.labels.specs.Neighbours.{none_below, none_above}
use Rattle.labels.proofs.Clashes.{clash}
use Rattle.trees.specs.Trees.{Entry, NodeOf}
use Rattle.trees.specs.Heights.{Deepest}
use Rattle.trees.specs.Searches.{Held, absent, found, full_search, slot_of}
use Rattle.trees.specs.Plain.{State, search}
use Rattle.trees.specs.Valid.{Valid}
use Rattle.trees.proofs.Searched.{found_alike, found_node, node_found}
use Rattle.trees.proofs.Sorted.{between_of_ascends}
use Rattle.tables.specs.Written.{written, written_table, written_store}
use Rattle.tables.specs.Steps.{Walk, search_steps}
use Rattle.tables.specs.Outcomes.{answer_of, search_outcome, visits_of, places_of}
use Rattle.tables.specs.Claims.{LabelFits, FindsHeld}
use Rattle.demands.proofs.MapSteps.{step_of_fitting}
use Rattle.demands.proofs.Outcomes.{answer_of_held, search_outcome_lem}

-- What an answer that says found says of what is held.
found_only : (h : Held) (below above visits places slot value v n : ℕ)
    → answer_of h below above visits places ≡ found_with slot value v n
    → (e : Entry) × (h ≡ found e) × (e.slot ≡ slot) × (e.value ≡ value)
found_only absent below above visits places slot value v n says = clash cc
found_only (found e) below above visits places slot value v n says = (e, refl, cc, cc)

module _ (limits : Limits) (deepest : Deepest limits.slots limits.depth)
    (s : State) (valid : Valid limits.slots limits.width s) (x : Label) (fits : LabelFits limits x) where
  -- what the search of the plain tree finds, the slots beside it, and the steps on the table
  abbrev sought : Held
  sought = (full_search x s.tree).result

  abbrev below : ℕ
  below = slot_of (full_search x s.tree).below

  abbrev above : ℕ
  above = slot_of (full_search x s.tree).above

  abbrev walk : Walk
  walk = search_steps limits (written_table limits s) (written_store limits s) x

  -- A search answers by what the plain tree's finds.
  answered : search_outcome limits (written_table limits s) (written_store limits s) x
      ≡ answer_of sought below above (visits_of walk) (places_of walk)
  answered =
      rw (answer_of_held sought below above walk s)
      (rw (step_of_fitting limits.slots limits.width (search x) s fits.some fits.short refl)
      at (search_outcome_lem limits s deepest valid x))

  -- It is answered found with the slot and the value of the node that has the label, and found nowhere else.
  pub finds_held : FindsHeld limits x (written limits s) s.tree
  finds_held = record {
    held = λ e there alike.
        answered
        ∙ ap (λ (h : Held). answer_of h below above (visits_of walk) (places_of walk)) (node_sought e there alike);
    only = λ slot value visits places says. node_of slot value visits places (sym answered ∙ says);
  }
    where
      node_sought : (e : Entry) → NodeOf e s.tree → Alike x e.label → sought ≡ found e
      node_sought e there alike =
          node_found none_below none_above x (between_of_ascends s.tree valid.ascending) there alike

      node_of : (slot value visits places : ℕ)
          → answer_of sought below above (visits_of walk) (places_of walk) ≡ found_with slot value visits places
          → (e : Entry) × NodeOf e s.tree × Alike x e.label × (e.slot ≡ slot) × (e.value ≡ value)
      node_of slot value visits places says =
          let (e, held_so, slotted, valued) =
          found_only sought below above (visits_of walk) (places_of walk) slot value visits places says in
          (e, found_node x s.tree held_so, found_alike x s.tree held_so, slotted, valued)
