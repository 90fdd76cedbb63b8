-- The refusals of a record before its insert, and the insert of one that is read.
-- `broken_refused`, `label_refused`, `record_passed`: what a record's own tests decide.
-- `entry_refused`: a record that its own lines or the table's refuse.
-- `first_refused`, `label_ready`, `insert_refused`, `went_in`: what a record at the front of a text gives.
-- `first_lines`, `first_table`: what the tests of a first record say.
use mathlib.Core.List.{List}
use mathlib.Core.Path.{◌≡◌, refl, sym, ap, ◌∙◌}
use Prim.Native.Nat.{ℕ}
use lib.Dec.{eqb, ltb}
use lib.ListN.{length}
use native.Mathlib.Omega.{arith}
use borrow.Author.Tests.{le-ltb, ne_eqb}
use Rattle.std.specs.Prelude.{Result, Ok, Err}
use Rattle.types.specs.declared.Limits.{Limits}
use Rattle.types.specs.declared.Refusal.{Refusal}
use Rattle.types.specs.Answers.{updated, refused, refusal_number}
use Rattle.labels.specs.Labels.{Label}
use Rattle.tables.specs.Claims.{LabelFits}
use Rattle.tables.specs.Written.{lent}
use Rattle.tables.specs.Outcomes.{Verdict, pass, refuse, line, of_length, of_label, of_table, insert_outcome}
use Rattle.tables.specs.Given.{Gives}
use Rattle.words.specs.Limits.{SizesFit}
use Rattle.lengths.specs.Tests.{test_says}
use Rattle.lengths.proofs.FirstLines.{Decides, one_line, in_turn, lines_refused, label_passed}
use Rattle.verdicts.specs.Verdicts.{update_verdict}
use Rattle.endings.proofs.FirstTests.{refused_insert}
use Rattle.files.specs.FileReads.{EntryRead, no_entry, entry}
use Rattle.rfc4180.specs.Records.{take_record}
use Rattle.demands.proofs.Outcomes.{memory_passes}
use Rattle.records.specs.declared.Record.{Record}
use Rattle.records.specs.Contents.{content_of}
use Rattle.rosters.specs.Inserted.{of_record, record_outcome, LabelReady, RosterReady, WholeRecord, WentIn}

module _ (limits : Limits) (text : List ℕ) where
  -- A record that is not whole is refused by 13.
  pub broken_refused : no_entry ≡ take_record text → (below : Verdict)
      → of_record limits (take_record text) below ≡ refuse 13
  broken_refused is below = rw (← is)

  module _ (r : Record) (read : entry (content_of r.label) r.value r.rest.now ≡ take_record text)
      (tested : Result Unit Refusal) (says : test_says tested ≡ of_length limits r.label.len pass) where
    lines : Verdict → Verdict
    lines below = of_label limits (content_of r.label) below

    lines_decide : Decides (of_label limits (content_of r.label))
    lines_decide =
        let empty = eqb (length (content_of r.label)) 0 in
        let long = ltb limits.width (length (content_of r.label)) in
        in_turn (line empty 3) (line long 4) (one_line empty 3) (one_line long 4)

    says_of_label : test_says tested ≡ of_label limits (content_of r.label) pass
    says_of_label = says ∙ ap (λ (n : ℕ). of_length limits n pass) (sym r.label.counted)

    -- Of any other its label's length decides: refused by it,
    pub label_refused : (why : Refusal) → tested ≡ Err why → (below : Verdict)
        → of_record limits (take_record text) below ≡ refuse (refusal_number why)
    label_refused why is below =
        rw (← read)
        (lines_refused (of_label limits (content_of r.label)) lines_decide tested says_of_label why is below)

    -- or read.
    pub record_passed : tested ≡ Ok tt → WholeRecord limits text r
    record_passed is =
        record {
          read = sym read;
          label = (label_passed limits (content_of r.label) pass (sym (ap test_says is) ∙ says_of_label)).0;
        }

-- what `record_of` needs
pub ruleset record_laws = (broken_refused, label_refused, record_passed)

-- A record that its own lines or the table's refuse gives the number, and leaves the memory.
pub entry_refused : (limits : Limits) (table store : List ℕ) → SizesFit limits table store → (e : EntryRead)
    (why : Refusal) → of_record limits e (of_table limits table store pass) ≡ refuse (refusal_number why)
    → Gives (record_outcome limits e (lent table store)) (refused (refusal_number why)) table store
unfolding update_verdict
entry_refused limits table store sizes no_entry why is =
    let same : refusal_number why ≡ 13 = cc in
    rw same (record { answer = refl; table = refl; store = refl })
entry_refused limits table store sizes (entry x value rest) why is =
    refused_insert limits table store x value (Err why) why
    (sym is ∙ sym (memory_passes limits table store sizes.words sizes.bytes _)) refl

module _ (limits : Limits) (table store text : List ℕ) where
  module _ (buffer : List ℕ) (ready : RosterReady limits table store buffer) where
    -- A record at the front of a text that its own tests refuse changes nothing.
    pub first_refused : (why : Refusal)
        → ((below : Verdict) → of_record limits (take_record text) below ≡ refuse (refusal_number why))
        → Gives (record_outcome limits (take_record text) (lent table store)) (refused (refusal_number why)) table store
    first_refused why is =
        entry_refused limits table store
        (record { fit = ready.ready.limits_fit.fit; words = ready.ready.sound.words; bytes = ready.ready.sound.bytes })
        (take_record text) why (is _)

    -- The label of any other can be inserted,
    pub label_ready : (r : Record) → WholeRecord limits text r → LabelReady limits table store r.label buffer
    label_ready r whole =
        record {
          ready =
              record {
                limits_fit = ready.ready.limits_fit;
                sound = ready.ready.sound;
                label = whole.label;
              };
          room = ready.room;
        }

  module _ (r : Record) (whole : WholeRecord limits text r) (words bytes : List ℕ) where
    -- is refused by the map,
    pub insert_refused : (number : ℕ)
        → Gives (insert_outcome limits table store (content_of r.label) r.value) (refused number) words bytes
        → Gives (record_outcome limits (take_record text) (lent table store)) (refused number) words bytes
    insert_refused number gives = rw whole.read gives

    -- or goes in.
    pub went_in : (slot visits places : ℕ)
        → Gives (insert_outcome limits table store (content_of r.label) r.value) (updated slot visits places) words bytes
        → WentIn limits table store text r.rest.now words bytes
    went_in slot visits places gives =
        record {
          label = content_of r.label;
          value = r.value;
          slot = slot;
          visits = visits;
          places = places;
          read = whole.read;
          gives = gives;
        }

-- what `insert_first` needs
pub ruleset insert_laws = (first_refused, label_ready, insert_refused, went_in)

-- the lines of a label that fits say nothing
fits_passes : {limits : Limits} {x : Label} → LabelFits limits x → (below : Verdict) → of_label limits x below ≡ below
fits_passes {limits = limits} {x = x} fits below =
    let some : length x ≡ 0 → ⊥ = λ none. absurd (omega (arith, fits.some)) in
    rw (ne_eqb (length x) 0 some, le-ltb limits.width (length x) fits.short)

module _ (limits : Limits) (table store text : List ℕ) where
  -- A first record is refused by its own tests,
  pub first_lines : (why : Refusal)
      → ((below : Verdict) → of_record limits (take_record text) below ≡ refuse (refusal_number why))
      → refuse (refusal_number why) ≡ of_record limits (take_record text) (of_table limits table store pass)
  first_lines why is = sym (is _)

  -- or by the table's.
  pub first_table : (r : Record) → WholeRecord limits text r → (tested : Result Unit Refusal)
      → test_says tested ≡ of_table limits table store pass
      → test_says tested ≡ of_record limits (take_record text) (of_table limits table store pass)
  first_table r whole tested says = says ∙ sym (rw whole.read (fits_passes whole.label (of_table limits table store pass)))

-- what `first_refusal` needs
pub ruleset first_laws = (first_lines, first_table)
