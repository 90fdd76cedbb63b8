-- A roster, by its text and the tests before its records.
-- `no_records`, `first_refused`, `records_ready`: what the first record decides.
-- `text_unread`, `text_long`, `text_taken`: the text's length, past the lent memory's.
-- `roster_refused`, `roster_passed`, `roster_ready`: what the tests that name no record decide.
use mathlib.Core.Bool.{true, not}
use mathlib.Core.List.{List}
use mathlib.Core.Path.{◌≡◌, refl, sym, ap, ◌∙◌}
use Prim.Native.Nat.{ℕ, ◌≤◌, ◌<◌}
use lib.Dec.{ltb}
use lib.ListN.{length}
use borrow.Author.Tests.{lt-ltb, le-ltb, not-false}
use native.Mathlib.Omega.{arith}
use Rattle.types.specs.declared.Limits.{Limits}
use Rattle.types.specs.declared.Refusal.{Refusal}
use Rattle.types.specs.Answers.{refusal_number}
use Rattle.types.specs.RosterReplies.{RosterReply, taken, refused}
use Rattle.tables.specs.Written.{lent}
use Rattle.tables.specs.Sound.{sound}
use Rattle.tables.specs.Outcomes.{Verdict, pass, refuse, of_memory, of_table}
use Rattle.std.specs.Prelude.{Result, Ok, Err}
use Rattle.lengths.specs.Tests.{test_says}
use Rattle.lengths.proofs.FirstLines.{Decides, one_line, in_turn, memory_decides, lines_refused, lines_passed}
use Rattle.lengths.proofs.FirstLines.{memory_refused, memory_passed, line_passed, sizes_passed, label_passed, no_pass}
use Rattle.files.specs.FileReads.{EntryRead, no_entry, entry}
use Rattle.rfc4180.specs.Records.{take_record, records_of}
use Rattle.rfc4180.specs.Rosters.{longest_text, roster_from, of_text, roster_outcome, TakesRoster}
use Rattle.rfc4180.proofs.RecordLaws.{records_of_none, records_of_some}
use Rattle.rosters.specs.Inserted.{of_record, RosterReady, RosterFits, SizesReady}
use Rattle.rosters.proofs.RefusalLaws.{entry_refused}
use Rattle.rosters.proofs.OneMore.{refused_ends}

module _ (limits : Limits) (table store text : List ℕ) where
  -- An empty text has no record.
  pub no_records : length text ≡ 0
      → TakesRoster (roster_from limits 0 (records_of text) (lent table store)) (taken 0) table store
  unfolding roster_from
  no_records none = rw (records_of_none text none) (record { answer = refl; table = refl; store = refl })

  module _ (buffer : List ℕ) (ready : SizesReady limits table store buffer) (some : length text ≡ 0 → ⊥)
      (early : Result Unit Refusal)
      (says : test_says early ≡ of_record limits (take_record text) (of_table limits table store pass)) where
    -- The first record is refused, by its own tests or by the table's.
    pub first_refused : (why : Refusal) → early ≡ Err why
        → TakesRoster (roster_from limits 0 (records_of text) (lent table store)) (refused 1 (refusal_number why))
        table store
    first_refused why is =
        rw (records_of_some text (omega arith))
        (refused_ends limits (lent table store) 0 (take_record text) (refusal_number why) table store
        (entry_refused limits table store ready.sizes (take_record text) why (sym says ∙ ap test_says is)))

    -- Past them the table is sound.
    pub records_ready : early ≡ Ok tt → RosterReady limits table store buffer
    records_ready is =
        record {
          ready =
              record {
                limits_fit = ready.fits.limits_fit;
                sound =
                    record {
                      words = ready.sizes.words;
                      bytes = ready.sizes.bytes;
                      so = so (take_record text) (sym (ap test_says is) ∙ says);
                    };
              };
          room = ready.fits.room;
        }
      where
        so : (e : EntryRead) → pass ≡ of_record limits e (of_table limits table store pass)
            → sound limits table store ≡ true
        so no_entry passes = no_pass 13 passes
        so (entry x value rest) passes =
            not-false _ (line_passed (not (sound limits table store)) 6 pass
            (label_passed limits x (of_table limits table store pass) passes).1).0

-- what `take_records` needs
pub ruleset text_laws = (no_records, first_refused, records_ready)

-- ---- the tests that name no record

module _ (limits : Limits) (table store text : List ℕ) where
  -- the lines of lent memory and of the text
  abbrev text_lines : Verdict → Verdict
  text_lines below = of_memory limits table store (of_text text below)

  lines_decide : Decides text_lines
  lines_decide =
      in_turn (of_memory limits table store) (of_text text) (memory_decides limits table store)
      (one_line (ltb longest_text (length text)) 12)

  module _ (early : Result Unit Refusal) (says : test_says early ≡ of_memory limits table store pass) where
    -- The text's length is not looked at where the lent memory is refused;
    pub text_unread : (why : Refusal) → early ≡ Err why → test_says early ≡ text_lines pass
    text_unread why is = ap test_says is ∙ sym (memory_refused limits table store early says why is _)

    -- past that a long text is refused by 12,
    pub text_long : early ≡ Ok tt → longest_text < length text → refuse 12 ≡ text_lines pass
    text_long is long =
        rw (memory_passed limits table store early says is (of_text text pass), lt-ltb longest_text (length text) long)

    -- and any other is taken.
    pub text_taken : early ≡ Ok tt → length text ≤ longest_text → pass ≡ text_lines pass
    text_taken is short =
        rw (memory_passed limits table store early says is (of_text text pass), le-ltb longest_text (length text) short)

  module _ (early : Result Unit Refusal) (says : test_says early ≡ text_lines pass) where
    -- A refusal by these names record 0.
    pub roster_refused : (why : Refusal) → early ≡ Err why
        → TakesRoster (roster_outcome limits table store text) (refused 0 (refusal_number why)) table store
    unfolding roster_outcome
    roster_refused why is =
        rw (lines_refused text_lines lines_decide early says why is pass)
        (record { answer = refl; table = refl; store = refl })

    module _ (is : early ≡ Ok tt) where
      -- Past them the records decide.
      pub roster_passed : (a : RosterReply) (words bytes : List ℕ)
          → TakesRoster (roster_from limits 0 (records_of text) (lent table store)) a words bytes
          → TakesRoster (roster_outcome limits table store text) a words bytes
      unfolding roster_outcome
      roster_passed a words bytes takes = rw (lines_passed text_lines lines_decide early says is pass) takes

      pub roster_ready : (buffer : List ℕ) → RosterFits limits buffer → SizesReady limits table store buffer
      roster_ready buffer fits =
          record {
            fits = fits;
            sizes = (sizes_passed limits table store _ fits.limits_fit.fit (sym (ap test_says is) ∙ says)).0;
          }

-- what `early_refusal` needs
pub ruleset early_laws = (text_unread, text_long, text_taken)

-- what `roster_within` needs
pub ruleset roster_laws = (roster_refused, roster_passed, roster_ready)
