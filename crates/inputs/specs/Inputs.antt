-- What `hubshell` prints for an input, as a function of its bytes (document 01, below 'Worked on paper').
use Rattle.std.specs.Prelude.{◌≡◌, List, [], ◌∷◌, ◌++◌, true, false, ℕ, eqb, length, replicate}
use Rattle.types.specs.Sizes.{hub, table_length, store_length}
use Rattle.tables.specs.Written.{Memory}
use Rattle.tables.specs.Outcomes.{Outcome, layout_outcome, insert_outcome, delete_outcome, search_outcome}
use Rattle.lines.specs.Commands.{Asked, insert, delete, search, bad, asks}
use Rattle.texts.specs.Texts.{text_of, bad_text}

-- a byte before lines belongs to the first of them; before none it is a line
abbrev pub started_by : ℕ → List (List ℕ) → List (List ℕ)
started_by byte [] = (byte ∷ []) ∷ []
started_by byte (line ∷ more) = (byte ∷ line) ∷ more

-- "lines, each ended by byte 10 or the input's end"; "A byte 10 that ends the input starts no further line."
abbrev pub lines_of : List ℕ → List (List ℕ)
lines_of [] = []
lines_of (byte ∷ more) = elim (eqb byte 10) [ true ↦ [] ∷ lines_of more | false ↦ started_by byte (lines_of more) ]

-- what a line prints, and the memory that it leaves
pub record Reply : Type 0 where
  pub text : List ℕ
  pub memory : Memory

abbrev pub reply_by : Outcome → Reply
reply_by o = record { text = text_of o.answer; memory = o.memory }

-- the call that a line asks, at the hub's sizes
unfoldable pub reply_to : Memory → Asked → Reply
reply_to m (insert x value) = reply_by (insert_outcome hub m.table m.store x value)
reply_to m (delete x) = reply_by (delete_outcome hub m.table m.store x)
reply_to m (search x) = record { text = text_of (search_outcome hub m.table m.store x); memory = m }
reply_to m bad = record { text = bad_text; memory = m }

-- "Each line read prints one line", on the memory that the lines before it left
abbrev pub printed_by : Memory → List (List ℕ) → List ℕ
printed_by m [] = []
printed_by m (line ∷ more) = (reply_to m (asks line)).text ++ printed_by (reply_to m (asks line)).memory more

-- "lays out a fresh table": "every word and byte" is 0
abbrev pub fresh : Memory
fresh = record { table = replicate (table_length hub) 0; store = replicate (store_length hub) 0 }

-- it is what layout leaves in memory of the hub's lengths
abbrev pub LayoutIsFresh : Type 0
LayoutIsFresh = (table store : List ℕ) → length table ≡ table_length hub → length store ≡ store_length hub
    → (layout_outcome hub table store).memory ≡ fresh

-- "`hubshell` lays out a fresh table and reads standard input as lines": what a whole input prints
abbrev pub printed : List ℕ → List ℕ
printed input = printed_by fresh (lines_of input)
