-- What a renewal asks of a table, so that each difference place fits a word.
use Rattle.std.specs.Prelude.{ℕ, ◌≤◌, List}
use Rattle.types.specs.declared.Limits.{Limits}
use Rattle.tables.specs.Words.{row_at}
use Rattle.words.specs.Limits.{LimitsFit}

-- every row's label length is at most a label's width; past the table's end rows are read as zeros
pub record RowsFit (limits : Limits) (table : List ℕ) : Type 0 where
  pub fit : LimitsFit limits
  pub lengths : (k : ℕ) → (row_at table k).len ≤ limits.width
