-- The records of a text inserted one after the other.
-- `Entering`: what is left of the text gives the whole. `entering_begins`, `entering_goes_on`: the records in turn.
-- `entering_less`: past a record less is left. `entering_stops`, `entering_ends`: where the inserts end.
use mathlib.Core.List.{List}
use mathlib.Core.Path.{◌≡◌, refl, sym, ap, ◌∙◌}
use Prim.Native.Nat.{ℕ, ◌+◌, ◌≤◌, ◌<◌}
use native.Mathlib.Omega.{arith}
use native.Mathlib.Numerals.{add-one}
use lib.ListN.{length}
use Rattle.types.specs.declared.Limits.{Limits}
use Rattle.types.specs.Answers.{refused}
use Rattle.types.specs.RosterReplies as reply
use Rattle.tables.specs.Written.{lent}
use Rattle.tables.specs.Given.{Gives}
use Rattle.files.specs.FileReads.{EntryRead}
use Rattle.rfc4180.specs.Records.{take_record, records_of}
use Rattle.rfc4180.specs.Rosters.{RosterOutcome, roster_from, TakesRoster}
use Rattle.rfc4180.proofs.RecordLaws.{rest_shorter, records_of_none, records_of_some}
use Rattle.rosters.specs.Inserted.{record_outcome, RosterReady, WentIn}
use Rattle.rosters.proofs.OneMore.{then_records, refused_ends, updated_goes_on, stays_sound}

-- what is left of a text gives the whole, and the table is sound; each record that went in has at least a byte
pub record Entering (limits : Limits) (text : List ℕ) (whole : RosterOutcome) (table store buffer rest : List ℕ)
    (count : ℕ) : Type 0 where
  pub ready : RosterReady limits table store buffer
  pub few : count + length rest ≤ length text
  pub from : roster_from limits count (records_of rest) (lent table store) ≡ whole

-- At first all is left.
pub entering_begins : (limits : Limits) (text table store buffer : List ℕ) → RosterReady limits table store buffer
    → Entering limits text (roster_from limits 0 (records_of text) (lent table store)) table store buffer text 0
entering_begins limits text table store buffer ready =
    record { ready = ready; few = omega arith; from = refl }

-- Past a record that went in less is left.
pub entering_less : (limits : Limits) (table store text rest words bytes : List ℕ)
    → WentIn limits table store text rest words bytes → length rest < length text
entering_less limits table store text rest words bytes went =
    rest_shorter text went.label went.value rest went.read

module _ (limits : Limits) (text : List ℕ) (whole : RosterOutcome) (table store buffer rest : List ℕ) (count : ℕ)
    (entering : Entering limits text whole table store buffer rest count) where
  -- With nothing left the whole is there.
  pub entering_ends : length rest ≡ 0 → TakesRoster whole (reply.taken count) table store
  unfolding roster_from
  entering_ends none_left =
      let all = ap (λ (es : List EntryRead). roster_from limits count es (lent table store))
      (sym (records_of_none rest none_left)) ∙ entering.from in
      record {
        answer = ap (λ (o : RosterOutcome). o.answer) all;
        table = ap (λ (o : RosterOutcome). o.memory.table) all;
        store = ap (λ (o : RosterOutcome). o.memory.store) all;
      }

  module _ (more : length rest ≡ 0 → ⊥) (words bytes : List ℕ) where
    -- What is left, by the next record.
    by_next : then_records limits count (take_record rest) (lent table store) ≡ whole
    by_next =
        ap (λ (es : List EntryRead). roster_from limits count es (lent table store))
        (sym (records_of_some rest (omega arith)))
        ∙ entering.from

    -- At a record that is refused nothing more goes in.
    pub entering_stops : (n number : ℕ) → n ≡ count + 1
        → Gives (record_outcome limits (take_record rest) (lent table store)) (refused number) words bytes
        → TakesRoster whole (reply.refused n number) words bytes
    entering_stops n number is gives =
        rw (is, add-one, ← by_next)
        (refused_ends limits (lent table store) count (take_record rest) number words bytes gives)

    -- After one that went in what is left gives the whole.
    pub entering_goes_on : (after gathered : List ℕ) (n : ℕ) → n ≡ count + 1 → length gathered ≡ length buffer
        → WentIn limits table store rest after words bytes
        → Entering limits text whole words bytes gathered after n
    entering_goes_on after gathered n is same_room went =
        let shorter = rest_shorter rest went.label went.value after went.read in
        record {
          ready =
              record {
                ready =
                    record {
                      limits_fit = entering.ready.ready.limits_fit;
                      sound =
                          stays_sound limits table store entering.ready.ready went.label went.value _ words bytes went.gives;
                    };
                room = same_room ∙ entering.ready.room;
              };
          few = omega (arith, shorter, entering.few);
          from =
              rw (is, add-one)
              (sym (updated_goes_on limits (lent table store) count went.label went.value after went.slot went.visits
              went.places words bytes went.gives)
              ∙ ap (λ (e : EntryRead). then_records limits count e (lent table store)) (sym went.read)
              ∙ by_next);
        }

-- what `insert_records` needs
pub ruleset entering_laws = (entering_begins, entering_less, entering_ends, entering_stops, entering_goes_on)
