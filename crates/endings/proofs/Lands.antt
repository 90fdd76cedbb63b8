-- Where an update of a sound table ends, by its trace: what the outcome is there.
-- InsertLands, insert_lands: refused by 7 or 9, or done. DeleteLands, delete_lands: refused by 8, or done.
-- missed: where the trace found nothing, the label is absent. Traces: the trace is the way of the search.
use mathlib.Core.List.{List, ◌∷◌}
use mathlib.Core.Path.{◌≡◌, refl, sym, ap, ◌∙◌}
use Prim.Native.Nat.{ℕ, ◌≤◌, ◌<◌}
use native.Mathlib.Omega.{arith}
use borrow.Author.Tests.{le-leb, lt-leb}
use Rattle.types.specs.declared.Limits.{Limits}
use Rattle.types.specs.Answers.{updated, refused}
use Rattle.labels.specs.Labels.{Label}
use Rattle.trees.specs.Trees.{Entry, size}
use Rattle.trees.specs.Heights.{Deepest}
use Rattle.trees.specs.Searches.{Held, absent, found, full_search}
use Rattle.trees.specs.Plain as plain
use Rattle.trees.specs.Plain.{State, After, new_entry, insert_if_room, after_insert, after_delete}
use Rattle.trees.specs.Updates.{deleted}
use Rattle.trees.specs.Valid.{Valid}
use Rattle.trees.proofs.SlotCounts.{slot_of_found}
use Rattle.tables.specs.Words.{labels_held}
use Rattle.tables.specs.Written.{Memory, written, written_table, written_store}
use Rattle.tables.specs.Steps.{Walk, search_steps}
use Rattle.tables.specs.Outcomes.{Outcome, visits_of, places_of, reply_answer, insert_outcome, delete_outcome}
use Rattle.tables.specs.Claims.{Sound, LabelFits}
use Rattle.written.proofs.Rows.{count_of_written}
use Rattle.demands.proofs.Outcomes.{update_outcome_lem}
use Rattle.demands.proofs.OnSound.{of_sound}
use Rattle.demands.proofs.MapSteps.{step_of_fitting}
use Rattle.traces.specs.declared.Trace.{Trace}
use Rattle.slots.specs.Slots.{slot_taken}
use Rattle.insertions.specs.Insertions.{inserted_memory}
use Rattle.deletions.specs.Deletions.{deleted_memory}
use Rattle.rewritten.proofs.Traces.{Ends, Way}
use Rattle.rewritten.proofs.Fresh.{slot_taken_lem}
use Rattle.rewritten.proofs.FromRows.{slot_of_valid}
use Rattle.rewritten.proofs.InsertWritten.{insert_written}
use Rattle.rewritten.proofs.DeleteWritten.{delete_written}

-- the outcome of an insert, by what its trace found and the room that is left
pub record InsertLands (limits : Limits) (m : Memory) (x : Label) (value : ℕ) (trace : Trace) : Type 0 where
  pub held : (trace.found ≡ 0 → ⊥)
      → insert_outcome limits m.table m.store x value ≡ record { answer = refused 7; memory = m }
  pub full : trace.found ≡ 0 → limits.slots ≤ labels_held m.table
      → insert_outcome limits m.table m.store x value ≡ record { answer = refused 9; memory = m }
  pub new : trace.found ≡ 0 → labels_held m.table < limits.slots
      → insert_outcome limits m.table m.store x value
      ≡ record {
        answer = updated (slot_taken m.table) trace.visits trace.places;
        memory = inserted_memory limits m.table m.store x value trace;
      }

-- the outcome of a delete, by what its trace found
pub record DeleteLands (limits : Limits) (m : Memory) (x : Label) (trace : Trace) : Type 0 where
  pub missing : trace.found ≡ 0
      → delete_outcome limits m.table m.store x ≡ record { answer = refused 8; memory = m }
  pub gone : (trace.found ≡ 0 → ⊥)
      → delete_outcome limits m.table m.store x
      ≡ record {
        answer = updated trace.found trace.visits trace.places;
        memory = deleted_memory limits m.table m.store trace;
      }

module _ (limits : Limits) (deepest : Deepest limits.slots limits.depth) (x : Label) (fits : LabelFits limits x)
    (trace : Trace) where
  module _ (s : State) (valid : Valid limits.slots limits.width s)
      (way : Way limits (written_table limits s) (written_store limits s) x s.tree trace) where
    abbrev Table : List ℕ
    Table = written_table limits s

    abbrev Store : List ℕ
    Store = written_store limits s

    abbrev Steps : Walk
    Steps = search_steps limits Table Store x

    -- what the plain tree's step gives and leaves, with the counts of the steps
    abbrev outcome_of : After → Outcome
    outcome_of a = record { answer = reply_answer a.reply Steps; memory = written limits a.state }

    -- An insert is settled by what the search found.
    insert_settled : (value : ℕ) (h : Held) → (full_search x s.tree).result ≡ h
        → insert_outcome limits Table Store x value ≡ outcome_of (after_insert limits.slots h x value s)
    unfolding insert_outcome
    insert_settled value h result =
        update_outcome_lem limits s deepest valid (plain.insert x value)
        ∙ ap outcome_of (step_of_fitting limits.slots limits.width (plain.insert x value) s
        fits.some fits.short refl
        ∙ ap (λ (h : Held). after_insert limits.slots h x value s) result)

    -- So is a delete.
    delete_settled : (h : Held) → (full_search x s.tree).result ≡ h
        → delete_outcome limits Table Store x ≡ outcome_of (after_delete h x s)
    unfolding delete_outcome
    delete_settled h result =
        update_outcome_lem limits s deepest valid (plain.delete x)
        ∙ ap outcome_of (step_of_fitting limits.slots limits.width (plain.delete x) s fits.some fits.short
        refl
        ∙ ap (λ (h : Held). after_delete h x s) result)

    -- A node that was found has a slot of at least 1.
    found_slot_positive : (e : Entry) → (full_search x s.tree).result ≡ found e → 1 ≤ e.slot
    found_slot_positive e there = (slot_of_valid limits s valid e.slot (slot_of_found x s.tree there)).0

    -- where the trace found nothing, the label is absent; where it found a slot, the slot is the node's
    pub missed : (h : Held) → (full_search x s.tree).result ≡ h → Ends x s.tree h trace → trace.found ≡ 0
        → h ≡ absent
    missed absent result ends none = refl
    missed (found e) result ends none = absurd (omega (arith, found_slot_positive e result))

    -- An insert into a valid state written out lands so.
    inserts_written : (value : ℕ) → InsertLands limits (written limits s) x value trace
    inserts_written value = record { held = on_held; full = on_full; new = on_new }
      where
        nothing : trace.found ≡ 0 → (full_search x s.tree).result ≡ absent
        nothing none = missed (full_search x s.tree).result refl way.ends none

        on_held : (trace.found ≡ 0 → ⊥)
            → insert_outcome limits Table Store x value ≡ record { answer = refused 7; memory = written limits s }
        on_held some = go (full_search x s.tree).result refl way.ends
          where
            go : (h : Held) → (full_search x s.tree).result ≡ h → Ends x s.tree h trace
                → insert_outcome limits Table Store x value ≡ record { answer = refused 7; memory = written limits s }
            go absent result ends = absurd (some ends.0)
            go (found e) result ends = insert_settled value (found e) result

        on_full : trace.found ≡ 0 → limits.slots ≤ labels_held Table
            → insert_outcome limits Table Store x value ≡ record { answer = refused 9; memory = written limits s }
        on_full none room =
            insert_settled value absent (nothing none)
            ∙ ap (λ b. outcome_of (insert_if_room b x value s))
            (le-leb limits.slots (size s.tree) (omega (arith, count_of_written limits s)))

        on_new : trace.found ≡ 0 → labels_held Table < limits.slots
            → insert_outcome limits Table Store x value
            ≡ record {
              answer = updated (slot_taken Table) trace.visits trace.places;
              memory = inserted_memory limits Table Store x value trace;
            }
        on_new none room =
            insert_settled value absent (nothing none)
            ∙ ap (λ b. outcome_of (insert_if_room b x value s)) (lt-leb limits.slots (size s.tree) less)
            ∙ λ i. record { answer = says i; memory = leaves i }
          where
            less : size s.tree < limits.slots
            less = omega (arith, count_of_written limits s)

            says : reply_answer (new_entry x value s.tree s.freed s.high).reply Steps
                ≡ updated (slot_taken Table) trace.visits trace.places
            says = rw (slot_taken_lem limits s valid x value, way.visits, way.places)

            leaves : written limits (new_entry x value s.tree s.freed s.high).state
                ≡ inserted_memory limits Table Store x value trace
            leaves =
                sym (insert_written limits s x value trace deepest valid fits.some
                fits.short (nothing none) less way)

    -- A delete of a valid state written out lands so.
    deletes_written : DeleteLands limits (written limits s) x trace
    deletes_written = record { missing = on_missing; gone = on_gone }
      where
        on_missing : trace.found ≡ 0
            → delete_outcome limits Table Store x ≡ record { answer = refused 8; memory = written limits s }
        on_missing none =
            delete_settled absent (missed (full_search x s.tree).result refl way.ends none)

        on_gone : (trace.found ≡ 0 → ⊥)
            → delete_outcome limits Table Store x
            ≡ record {
              answer = updated trace.found trace.visits trace.places;
              memory = deleted_memory limits Table Store trace;
            }
        on_gone some = go (full_search x s.tree).result refl way.ends
          where
            go : (h : Held) → (full_search x s.tree).result ≡ h → Ends x s.tree h trace
                → delete_outcome limits Table Store x
                ≡ record {
                  answer = updated trace.found trace.visits trace.places;
                  memory = deleted_memory limits Table Store trace;
                }
            go absent result ends = absurd (some ends.0)
            go (found e) result ends =
                delete_settled (found e) result ∙ λ i. record { answer = says i; memory = leaves i }
              where
                says : updated e.slot (visits_of Steps) (places_of Steps)
                    ≡ updated trace.found trace.visits trace.places
                says = rw (ends, way.visits, way.places)

                leaves :
                    written limits (record { tree = deleted x s.tree; freed = e.slot ∷ s.freed; high = s.high })
                    ≡ deleted_memory limits Table Store trace
                leaves = sym (delete_written limits s x e trace deepest valid result way)

  -- the trace is the way of the search, whatever tree the memory holds
  abbrev pub Traces : Memory → Type 0
  Traces m =
      (s : State) → Valid limits.slots limits.width s → m ≡ written limits s
      → Way limits m.table m.store x s.tree trace

  -- An insert into a sound table lands so.
  pub insert_lands : (value : ℕ) (m : Memory) → Sound limits m → Traces m → InsertLands limits m x value trace
  insert_lands value =
      of_sound limits deepest (λ m. Traces m → InsertLands limits m x value trace)
      (λ s valid traces. inserts_written s valid (traces s valid refl) value)

  -- A delete from a sound table lands so.
  pub delete_lands : (m : Memory) → Sound limits m → Traces m → DeleteLands limits m x trace
  delete_lands =
      of_sound limits deepest (λ m. Traces m → DeleteLands limits m x trace)
      (λ s valid traces. deletes_written s valid (traces s valid refl))
