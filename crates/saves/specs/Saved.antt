-- The entries of a saved file, by the links alone: a walk from left to right, its remaining height falling.
use Rattle.std.specs.Prelude.{List, ◌++◌, map, ◌≡◌, ℕ, ◌^◌, ◌<◌, length}
use Rattle.types.specs.declared.Limits.{Limits}
use Rattle.types.specs.declared.Row.{Row}
use Rattle.types.specs.Sizes.{table_length}
use Rattle.trees.specs.Map.{Pair, pair_of}
use Rattle.tables.specs.Words.{root_link, labels_held, label_at, entry_at}
use Rattle.tables.specs.Outcomes.{pass}
use Rattle.words.specs.Limits.{LimitsFit}
use Rattle.words.specs.Filled.{HasRoom}
use Rattle.files.specs.Groups.{groups_of}
use Rattle.files.specs.Files.{entry_of, entries_of}
use Rattle.files.specs.Saves.{Saving, of_output, saving_by}
use Rattle.lists.specs.Listed.{slots_from}

-- the label, the value and the charge in a slot
abbrev pub pair_in_slot : Limits → (table store : List ℕ) → ℕ → Pair
pair_in_slot limits table store k = pair_of (entry_at limits table store k)

-- the entry of a slot, by its row
abbrev pub entry_in_slot : Limits → (store : List ℕ) → (slot : ℕ) → Row → List ℕ
entry_in_slot limits store slot row = entry_of (label_at limits store slot row.len) row.value

-- the entries of the slots at a link, at most so many nodes deep
unfoldable pub entries_from : Limits → (table store : List ℕ) → (remaining link : ℕ) → List ℕ
entries_from limits table store remaining link =
    entries_of (map (pair_in_slot limits table store) (slots_from limits table remaining link))

-- the file of a table, by its links: the labels held, then the entries
unfoldable pub file_from : Limits → (table store : List ℕ) → List ℕ
file_from limits table store =
    groups_of (labels_held table) ++ entries_from limits table store limits.depth (root_link table)

-- what is saved past the tests of a whole table: refused by the output's length, or the file before its later bytes
abbrev pub saving_ready : Limits → (table store output : List ℕ) → Saving
saving_ready limits table store output =
    saving_by (of_output (file_from limits table store) output pass) output (file_from limits table store)

-- sizes that fit, and entries whose bytes a machine word counts
pub record CountFits (limits : Limits) (table store : List ℕ) (remaining link : ℕ) : Type 0 where
  pub fit : LimitsFit limits
  pub words : length table ≡ table_length limits
  pub few : length (entries_from limits table store remaining link) < 2 ^ 64

-- sizes that fit, and room for the entries from a position on
pub record WriteFits (limits : Limits) (table store output : List ℕ) (at remaining link : ℕ) : Type 0 where
  pub fit : LimitsFit limits
  pub words : length table ≡ table_length limits
  pub room : HasRoom (entries_from limits table store remaining link) at output
