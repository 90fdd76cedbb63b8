-- How the contracts say what is shown of a slot, and what is printed.
use Rattle.std.specs.Prelude.{◌≡◌, List, ◌++◌, ℕ, ◌+◌, ◌≤◌, length, take}
use Rattle.types.specs.Sizes.{hub}
use Rattle.trees.specs.Trees.{Entry}
use Rattle.tables.specs.Words.{row_at}
use Rattle.tables.specs.Written.{Memory}
use Rattle.tables.specs.Outcomes.{view_part}
use Rattle.rfc4180.specs.Rosters.{RosterOutcome}
use Rattle.printouts.specs.Printouts.{printed_for}
use Rattle.printouts.specs.Rooms.{print_room}

-- the node in a slot, as the calls show it: the view its label, its row the rest
abbrev pub shown_at : Memory → ℕ → Entry
shown_at m k =
    record {
      label = view_part hub m.table m.store k;
      value = (row_at m.table k).value;
      slot = k;
      charge = (row_at m.table k).charge;
    }

-- the text for an outcome stands at the front of a buffer, and its memory is left
pub record Prints (outcome : RosterOutcome) (words bytes out : List ℕ) (end : ℕ) : Type 0 where
  pub text : take end out ≡ printed_for outcome
  pub inside : end ≤ length out
  pub table : words ≡ outcome.memory.table
  pub store : bytes ≡ outcome.memory.store

-- the text for an outcome is put behind a text, with room for the longest one, and its memory is left
pub record PutsPrintout (outcome : RosterOutcome) (before words bytes out : List ℕ) : Type 0 where
  pub text : out ≡ before ++ printed_for outcome
  pub room : length out ≤ length before + print_room
  pub table : words ≡ outcome.memory.table
  pub store : bytes ≡ outcome.memory.store
