-- A printout, from its two parts.
--     printed         the answer's line and those of the labels make the printout
--     printed_fresh   on what layout left it is the one on a fresh table
use mathlib.Core.Path.{◌≡◌, ap, ap₂, ◌∙◌}
use mathlib.Core.List.{List, ◌++◌, append_assoc}
use Prim.Native.Nat.{ℕ, ◌*◌}
use native.Mathlib.Omega.{arith}
use lib.ListN.{length}
use Rattle.types.specs.Sizes.{hub, table_length, store_length}
use Rattle.types.specs.Answers.{Answer}
use Rattle.types.specs.RosterReplies.{RosterReply}
use Rattle.tables.specs.Written.{Memory, lent}
use Rattle.tables.specs.Outcomes.{layout_outcome}
use Rattle.tables.specs.Given.{Gives}
use Rattle.rfc4180.specs.Rosters.{roster_outcome, TakesRoster}
use Rattle.texts.specs.Puts.{Puts}
use Rattle.inputs.proofs.Fresh.{layout_is_fresh}
use Rattle.printouts.specs.Printouts.{answer_line, label_lines, printed_for, printout}
use Rattle.printouts.specs.Rooms.{answer_room, line_room, print_room}
use Rattle.printing.specs.Prints.{PutsPrintout}

-- the answer's line and those of the labels make the printout
pub printed : (table store text words bytes : List ℕ) (given : RosterReply)
    → TakesRoster (roster_outcome hub table store text) given words bytes
    → (before middle after : List ℕ) → Puts before (answer_line given) answer_room middle
    → Puts middle (label_lines (lent words bytes)) (line_room * hub.slots) after
    → PutsPrintout (roster_outcome hub table store text) before words bytes after
printed table store text words bytes given takes before middle after line lines = record {
  text = whole;
  room = omega (arith, line.room, lines.room);
  table = takes.table;
  store = takes.store;
}
  where
    left : lent words bytes ≡ (roster_outcome hub table store text).memory
    left = λ i. record { table = takes.table i; store = takes.store i }

    whole : after ≡ before ++ printed_for (roster_outcome hub table store text)
    whole =
        rw (lines.text, line.text, append_assoc)
        (ap (λ (l : List ℕ). before ++ l) (ap₂ ◌++◌ (ap answer_line takes.answer) (ap label_lines left)))

-- on what layout left it is the one on a fresh table
pub printed_fresh : (table store words bytes : List ℕ) (answer : Answer)
    → length table ≡ table_length hub → length store ≡ store_length hub
    → Gives (layout_outcome hub table store) answer words bytes → (text before after cells out : List ℕ)
    → PutsPrintout (roster_outcome hub words bytes text) before after cells out
    → Puts before (printout text) print_room out
unfolding printout
printed_fresh table store words bytes answer length_is size_is gives text before after cells out puts =
    let laid = layout_is_fresh table store length_is size_is in
    let table_is = gives.table ∙ ap (λ (m : Memory). m.table) laid in
    let store_is = gives.store ∙ ap (λ (m : Memory). m.store) laid in
    record { text = puts.text ∙ rw (table_is, store_is); room = puts.room }
