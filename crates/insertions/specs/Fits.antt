-- What insert asks of a table, a label and the end of a search, so that each number it stores fits a word.
use Rattle.std.specs.Prelude.{ℕ, ◌≤◌, ◌<◌, List, length}
use Rattle.types.specs.declared.Limits.{Limits}
use Rattle.labels.specs.Labels.{Label}
use Rattle.tables.specs.Words.{labels_held, high_mark}
use Rattle.words.specs.Limits.{LimitsFit}
use Rattle.traces.specs.declared.Trace.{Trace}

-- the numbers P and S at a search's end fit a word
pub record EndsFit (trace : Trace) : Type 0 where
  pub lower : trace.p ≤ 65535
  pub upper : trace.s ≤ 65535

-- one more slot and one more label can be counted
pub record CanGrow (table : List ℕ) : Type 0 where
  pub slot : high_mark table < 65535
  pub label : labels_held table < 65535

-- a label can be inserted
pub record CanInsert (limits : Limits) (table : List ℕ) (label : Label) (trace : Trace) : Type 0 where
  pub fit : LimitsFit limits
  pub grows : CanGrow table
  pub bytes : length label ≤ 65535
  pub ends : EndsFit trace
