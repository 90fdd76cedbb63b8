-- A row stored in a table, and the slots that have a row there.
use Rattle.std.specs.Prelude.{ℕ, ◌+◌, ◌*◌, ◌≤◌, List, length, set}
use Rattle.types.specs.declared.Row.{Row}
use Rattle.tables.specs.Words.{slot_start}

-- the eight words from b, stored
abbrev pub put_from : List ℕ → ℕ → Row → List ℕ
put_from table b r =
    let links = set (set table b r.left) (b + 1) r.right in
    let fields = set (set (set links (b + 2) r.place) (b + 3) r.side) (b + 4) r.balance in
    set (set (set fields (b + 5) r.len) (b + 6) r.value) (b + 7) r.charge

unfoldable pub put_row : List ℕ → ℕ → Row → List ℕ
put_row table k r = put_from table (slot_start k) r

-- slot k has a row in the table
pub record HasRow (table : List ℕ) (k : ℕ) : Type 0 where
  pub low : 1 ≤ k
  pub high : 8 * k + 4 ≤ length table

-- a row whose words are read one by one
pub record RowBy (reads : (at word : ℕ) → Type 0) (row : Row) : Type 0 where
  pub left : reads 0 row.left
  pub right : reads 1 row.right
  pub place : reads 2 row.place
  pub side : reads 3 row.side
  pub balance : reads 4 row.balance
  pub len : reads 5 row.len
  pub value : reads 6 row.value
  pub charge : reads 7 row.charge
