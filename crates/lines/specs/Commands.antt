-- What a line of `hubshell` asks (document 01, below 'Worked on paper'). A line is its bytes, without the byte 10.
use Rattle.std.specs.Prelude.{List, [], ◌∷◌, Bool, ◌&&◌, cond, ℕ, eqb, leb, ltb, length, Option, Some, None}
use Rattle.labels.specs.Labels.{Label}
use Rattle.decimals.specs.Decimals.{decimal_after, is_value}
use Rattle.lines.specs.declared.Command.{Command}
use Rattle.lines.specs.declared.Command.TheVariants.{Insert, Delete, Search}

-- what a line asks: a call of the index, or nothing
pub data Asked : Type 0 where
  insert : Label → (value : ℕ) → Asked
  delete : Label → Asked
  search : Label → Asked
  bad : Asked

-- the command that the code gives for a line
abbrev pub asked_by : Option Command → Asked
asked_by None = bad
asked_by (Some (Insert label value)) = insert label.now value
asked_by (Some (Delete label)) = delete label.now
asked_by (Some (Search label)) = search label.now

-- "A label is any number of bytes 33 to 126, none too"
abbrev pub is_label_byte : ℕ → Bool
is_label_byte byte = leb 33 byte && leb byte 126

-- the bytes at the front of a text that a label may have, and what comes after them
abbrev pub label_at_front : List ℕ → Label
label_at_front [] = []
label_at_front (byte ∷ more) = cond (is_label_byte byte) (byte ∷ label_at_front more) []

abbrev pub after_label : List ℕ → List ℕ
after_label [] = []
after_label (byte ∷ more) = cond (is_label_byte byte) (after_label more) (byte ∷ more)

-- after the label of an insert: one space, and a value
abbrev pub insert_of : Label → List ℕ → Asked
insert_of x [] = bad
insert_of x (byte ∷ text) = cond (eqb byte 32 && is_value text) (insert x (decimal_after 0 text)) bad

-- after the label of a delete or a search: nothing
abbrev pub ended : Asked → List ℕ → Asked
ended asked [] = asked
ended asked (byte ∷ more) = bad

-- "`I label value`, `D label`, `S label`, one space between": by the letter
abbrev pub by_letter : ℕ → List ℕ → Asked
by_letter letter text =
    cond (eqb letter 73) (insert_of (label_at_front text) (after_label text))
    (cond (eqb letter 68) (ended (delete (label_at_front text)) (after_label text))
    (cond (eqb letter 83) (ended (search (label_at_front text)) (after_label text)) bad))

abbrev pub asks_with : List ℕ → Asked
asks_with [] = bad
asks_with (letter ∷ []) = bad
asks_with (letter ∷ space ∷ text) = cond (eqb space 32) (by_letter letter text) bad

-- "Other lines, and lines above 80 bytes without the byte 10, print `bad`."
unfoldable pub asks : List ℕ → Asked
asks line = cond (ltb 80 (length line)) bad (asks_with line)
