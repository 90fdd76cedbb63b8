-- What `roster` prints for a roster's text, as a function of its bytes: a line for the answer, and then a line for each
-- label held, in ascending order. Each line is ended by byte 10; numbers are in decimal.
use Rattle.std.specs.Prelude.{◌≡◌, List, [], ◌∷◌, ◌++◌, ℕ}
use Rattle.types.specs.Sizes.{hub}
use Rattle.types.specs.RosterReplies.{RosterReply, taken, refused}
use Rattle.labels.specs.Labels.{Label}
use Rattle.trees.specs.Trees.{Entry, entries}
use Rattle.tables.specs.Written.{Memory}
use Rattle.tables.specs.Sound.{state_of}
use Rattle.tables.specs.Outcomes.{Verdict, pass, refuse, of_memory, of_table}
use Rattle.rfc4180.specs.Rosters.{RosterOutcome, roster_outcome}
use Rattle.texts.specs.Texts.{decimal, then_number, ok_word, no_word, line_end}
use Rattle.inputs.specs.Inputs.{fresh}

-- a space, and the word `record`
abbrev pub then_record : List ℕ
then_record = 32 ∷ 114 ∷ 101 ∷ 99 ∷ 111 ∷ 114 ∷ 100 ∷ []

-- `ok COUNT`: how many records went in; or `no NUMBER record N`: the refusal's number, and that of the record, 0 for
-- refusals 1, 2 and 12
unfoldable pub answer_line : RosterReply → List ℕ
answer_line (taken count) = ok_word ++ (then_number count ++ line_end)
answer_line (refused n number) = no_word ++ (then_number number ++ (then_record ++ (then_number n ++ line_end)))

-- a space, a label and the line's end
abbrev pub then_label : Label → List ℕ
then_label x = 32 ∷ (x ++ line_end)

-- `SLOT VALUE LABEL`: the label last, as it was stored
unfoldable pub line_with : (slot value : ℕ) → Label → List ℕ
line_with slot value x = decimal slot ++ (then_number value ++ then_label x)

abbrev pub label_line : Entry → List ℕ
label_line e = line_with e.slot e.value e.label

abbrev pub lines_for : List Entry → List ℕ
lines_for [] = []
lines_for (e ∷ more) = label_line e ++ lines_for more

abbrev pub lines_by : Verdict → List ℕ → List ℕ
lines_by pass lines = lines
lines_by (refuse number) lines = []

-- a line for each label held, in ascending order: the nodes of the tree from left to right. Memory that the check
-- refuses, by its lengths or because it is not sound, has no lines.
unfoldable pub label_lines : Memory → List ℕ
label_lines m =
    lines_by (of_memory hub m.table m.store (of_table hub m.table m.store pass))
    (lines_for (entries (state_of hub m.table m.store).tree))

-- the answer's line, and those of the labels that are held then
abbrev pub printed_for : RosterOutcome → List ℕ
printed_for o = answer_line o.answer ++ label_lines o.memory

-- what `roster` prints: the roster goes into a fresh table
unfoldable pub printout : (text : List ℕ) → List ℕ
printout text = printed_for (roster_outcome hub fresh.table fresh.store text)

-- The claim: the table is sound after any roster, so each label held then has its line.
abbrev pub PrintsEachLabel : Type 0
PrintsEachLabel = (text : List ℕ)
    → let o = roster_outcome hub fresh.table fresh.store text in
    printout text
    ≡ answer_line o.answer ++ lines_for (entries (state_of hub o.memory.table o.memory.store).tree)
