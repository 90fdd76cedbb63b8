-- Where a charge that is set in a sound table ends, by the trace of its search.
-- `charge_missing`: the label is not held. `charge_set`: one word is stored.
use mathlib.Core.Bool.{true, not}
use mathlib.Core.List.{List}
use mathlib.Core.Path.{◌≡◌, refl, sym, ap, ◌∙◌}
use Prim.Native.Nat.{ℕ}
use Rattle.types.specs.declared.Limits.{Limits}
use Rattle.types.specs.Answers.{updated, refused}
use Rattle.labels.specs.Labels.{Label}
use Rattle.trees.specs.Charges.{is_charge}
use Rattle.trees.specs.Heights.{Deepest}
use Rattle.trees.specs.Searches.{Held, absent, found, full_search}
use Rattle.trees.specs.Plain as plain
use Rattle.trees.specs.Plain.{State, After, after_charge}
use Rattle.trees.specs.Valid.{Valid}
use Rattle.tables.specs.Words.{put_charge}
use Rattle.tables.specs.Written.{Memory, written, written_table, written_store}
use Rattle.tables.specs.Steps.{Walk, search_steps}
use Rattle.tables.specs.Outcomes.{Outcome, visits_of, places_of, reply_answer, charge_outcome}
use Rattle.tables.specs.Given.{Gives}
use Rattle.tables.specs.Claims.{Sound, LabelFits}
use Rattle.written.proofs.Charged.{charge_written}
use Rattle.demands.proofs.Outcomes.{update_outcome_lem}
use Rattle.demands.proofs.OnSound.{of_sound}
use Rattle.demands.proofs.MapSteps.{step_of_fitting}
use Rattle.traces.specs.declared.Trace.{Trace}
use Rattle.traces.specs.Traces.{traced}
use Rattle.rewritten.proofs.Traces.{Ends, Way}
use Rattle.endings.specs.Ready.{Ready}
use Rattle.endings.proofs.Lands.{missed, Traces}
use Rattle.endings.proofs.Gives.{gives_outcome, traces}

-- the outcome, by what the trace found
record Lands (limits : Limits) (m : Memory) (x : Label) (n : ℕ) (trace : Trace) : Type 0 where
  missing : trace.found ≡ 0
      → charge_outcome limits m.table m.store x n ≡ record { answer = refused 8; memory = m }
  held : (trace.found ≡ 0 → ⊥)
      → charge_outcome limits m.table m.store x n
      ≡ record {
        answer = updated trace.found trace.visits trace.places;
        memory = record { table = put_charge m.table trace.found n; store = m.store };
      }

module _ (limits : Limits) (deepest : Deepest limits.slots limits.depth) (x : Label) (fits : LabelFits limits x)
    (n : ℕ) (right : is_charge n ≡ true) (trace : Trace) where
  module _ (s : State) (valid : Valid limits.slots limits.width s)
      (way : Way limits (written_table limits s) (written_store limits s) x s.tree trace) where
    abbrev Table : List ℕ
    Table = written_table limits s

    abbrev Store : List ℕ
    Store = written_store limits s

    abbrev Steps : Walk
    Steps = search_steps limits Table Store x

    -- what the plain tree's step gives and leaves, with the counts of the steps
    abbrev outcome_of : After → Outcome
    outcome_of a = record { answer = reply_answer a.reply Steps; memory = written limits a.state }

    -- The call is settled by what the search found.
    settled : (h : Held) → (full_search x s.tree).result ≡ h
        → charge_outcome limits Table Store x n ≡ outcome_of (after_charge h x n s)
    unfolding charge_outcome
    settled h result =
        update_outcome_lem limits s deepest valid (plain.set_charge x n)
        ∙ ap outcome_of (step_of_fitting limits.slots limits.width (plain.set_charge x n) s
        fits.some fits.short (ap not right) ∙ ap (λ (h : Held). after_charge h x n s) result)

    -- On a valid state written out it lands so.
    lands_written : Lands limits (written limits s) x n trace
    lands_written = record { missing = on_missing; held = on_held }
      where
        on_missing : trace.found ≡ 0
            → charge_outcome limits Table Store x n ≡ record { answer = refused 8; memory = written limits s }
        on_missing none =
            settled absent
            (missed limits deepest x fits trace s valid way (full_search x s.tree).result refl way.ends none)

        on_held : (trace.found ≡ 0 → ⊥)
            → charge_outcome limits Table Store x n
            ≡ record {
              answer = updated trace.found trace.visits trace.places;
              memory = record { table = put_charge Table trace.found n; store = Store };
            }
        on_held some = go (full_search x s.tree).result refl way.ends
          where
            go : (h : Held) → (full_search x s.tree).result ≡ h → Ends x s.tree h trace
                → charge_outcome limits Table Store x n
                ≡ record {
                  answer = updated trace.found trace.visits trace.places;
                  memory = record { table = put_charge Table trace.found n; store = Store };
                }
            go absent result ends = absurd (some ends.0)
            go (found e) result ends =
                settled (found e) result ∙ λ i. record { answer = says i; memory = leaves i }
              where
                says : updated e.slot (visits_of Steps) (places_of Steps)
                    ≡ updated trace.found trace.visits trace.places
                says = rw (ends, way.visits, way.places)

                leaves : written limits (after_charge (found e) x n s).state
                    ≡ record { table = put_charge Table trace.found n; store = Store }
                leaves =
                    sym (charge_written limits s x n e valid result)
                    ∙ ap (λ (k : ℕ). record { table = put_charge Table k n; store = Store }) (sym ends)

  -- So it does on every sound memory.
  lands : (m : Memory) → Sound limits m → Traces limits deepest x fits trace m → Lands limits m x n trace
  lands =
      of_sound limits deepest (λ m. Traces limits deepest x fits trace m → Lands limits m x n trace)
      (λ s valid traced. lands_written s valid (traced s valid refl))

module _ (limits : Limits) (table store : List ℕ) (x : Label) (n : ℕ) (ready : Ready limits table store x)
    (right : is_charge n ≡ true) (trace : Trace) (is : trace ≡ traced limits table store x) where
  so : Lands limits (record { table = table; store = store }) x n trace
  so = lands limits ready.limits_fit.deepest x ready.label n right trace _ ready.sound
      (traces limits table store x ready trace is)

  -- The label is not held.
  pub charge_missing : trace.found ≡ 0 → Gives (charge_outcome limits table store x n) (refused 8) table store
  charge_missing none = gives_outcome (refused 8) table store (so.missing none)

  -- One word is stored.
  pub charge_set : (words : List ℕ) → (trace.found ≡ 0 → ⊥) → words ≡ put_charge table trace.found n
      → Gives (charge_outcome limits table store x n) (updated trace.found trace.visits trace.places) words
      store
  charge_set words some stored =
      rw stored
      (gives_outcome (updated trace.found trace.visits trace.places) (put_charge table trace.found n) store
      (so.held some))
