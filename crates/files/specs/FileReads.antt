-- A saved file, read from its front on: the labels and values that it holds, or the number that refuses it (M-110 of
-- document 02). "Labels are checked in file order, each wholly before the next."
use Rattle.std.specs.Prelude.{Bool, true, false, ◌||◌, cond, List, [], ◌∷◌, ℕ, zero, suc, ◌+◌, ◌≤◌, ltb, length, get_or, take, drop}
use Rattle.types.specs.declared.Limits.{Limits}
use Rattle.labels.specs.Labels.{Label, compare_labels}
use Rattle.trees.specs.Charges.{unknown}
use Rattle.trees.specs.Map.{Pair}
use Rattle.trees.specs.Valid.{is_smaller}
use Rattle.files.specs.Groups.{groups_of, NumberRead, no_number, number, read_number}
use Rattle.files.specs.Files.{largest_word}

-- a list of bytes, as every lent file is: in one of any numbers, 300 with 0 after it would read as 172
abbrev pub OfBytes : List ℕ → Type 0
OfBytes text = (i : ℕ) → get_or text i 0 ≤ 255

-- "has needless groups": more bytes were read than the number has groups
abbrev pub needless : (text : List ℕ) (n : ℕ) (rest : List ℕ) → Bool
needless text n rest = ltb (length (groups_of n) + length rest) (length text)

-- "is outside its limit"
abbrev pub outside : (lowest highest n : ℕ) → Bool
outside lowest highest n = ltb n lowest || ltb highest n

abbrev pub number_within : (lowest highest : ℕ) → (text : List ℕ) → NumberRead → NumberRead
number_within lowest highest text no_number = no_number
number_within lowest highest text (number n rest) =
    cond (needless text n rest || outside lowest highest n) no_number (number n rest)

-- a number within its limit, from the front of bytes, with those after it; none for "a number that is cut short, has
-- needless groups or is outside its limit"
unfoldable pub take_number : (lowest highest : ℕ) → List ℕ → NumberRead
take_number lowest highest text = number_within lowest highest text (read_number text)

-- ---- a label with its value

pub data EntryRead : Type 0 where
  no_entry : EntryRead
  entry : (x : Label) (value : ℕ) (rest : List ℕ) → EntryRead

abbrev pub with_value : Label → NumberRead → EntryRead
with_value x no_number = no_entry
with_value x (number value rest) = entry x value rest

-- "or a label that is cut short"
abbrev pub with_bytes : NumberRead → EntryRead
with_bytes no_number = no_entry
with_bytes (number n rest) =
    cond (ltb (length rest) n) no_entry (with_value (take n rest) (take_number 0 largest_word (drop n rest)))

-- "that label's length, bytes and value": a length of 1 to the width, so many bytes, and a word
unfoldable pub take_entry : Limits → List ℕ → EntryRead
take_entry limits text = with_bytes (take_number 1 limits.width text)

-- ---- the whole file

pub data FileRead : Type 0 where
  refused_by : (number : ℕ) → FileRead
  holds : List Pair → FileRead

abbrev pub with_pair : Pair → FileRead → FileRead
with_pair p (refused_by why) = refused_by why
with_pair p (holds more) = holds (p ∷ more)

-- a label of a file with its value: a file carries no charge, and "Insert writes 255" (M-109)
abbrev pub filed : Label → ℕ → Pair
filed x value = record { label = x; value = value; charge = unknown }

-- "19, a label not above the one before it, after 18 for that label's length, bytes and value"; then what follows
abbrev pub entry_then : EntryRead → (before : Label) → (Label → List ℕ → FileRead) → FileRead
entry_then no_entry before next = refused_by 18
entry_then (entry x value rest) before next =
    elim (is_smaller (compare_labels before x)) [
      | true ↦ with_pair (filed x value) (next x rest)
      | false ↦ refused_by 19
    ]

-- "20, bytes after the last label, after 19"
abbrev pub at_end : List ℕ → FileRead
at_end [] = holds []
at_end (byte ∷ more) = refused_by 20

-- so many labels with their values, above the label before them, and the end
unfoldable pub take_entries : Limits → (count : ℕ) → (before : Label) → List ℕ → FileRead
take_entries limits zero before text = at_end text
take_entries limits (suc count) before text =
    entry_then (take_entry limits text) before (λ x rest. take_entries limits count x rest)

-- before the first label stands the empty one, which is below every other: "a label is 1 to 64 bytes"
abbrev pub count_then : Limits → NumberRead → FileRead
count_then limits no_number = refused_by 18
count_then limits (number count rest) = take_entries limits count [] rest

-- "the number of labels, then for each .. its length, its bytes and its value": at most as many labels as slots
unfoldable pub read_file : Limits → List ℕ → FileRead
read_file limits file = count_then limits (take_number 0 limits.slots file)
