-- What keeps the positions and the counts of a walk within a machine word.
use Rattle.std.specs.Prelude.{◌≡◌, List, ℕ, ◌+◌, ◌*◌, ◌≤◌, length}
use Rattle.types.specs.declared.Limits.{Limits}
use Rattle.types.specs.declared.Row.{Row}
use Rattle.types.specs.Sizes.{table_length, store_length}
use Rattle.tables.specs.Words.{row_at}
use Rattle.words.specs.Limits.{LimitsFit}
use Rattle.compares.specs.declared.Compared.{Compared}
use Rattle.nodes.specs.declared.Spot.{Spot}
use Rattle.nodes.specs.declared.Move.{Move}

-- a table of these sizes
pub record CanTest (limits : Limits) (table : List ℕ) : Type 0 where
  pub fit : LimitsFit limits
  pub words : length table ≡ table_length limits

-- a slot of an index of these sizes
pub record AtSlot (limits : Limits) (k : ℕ) : Type 0 where
  pub fit : LimitsFit limits
  pub low : 1 ≤ k
  pub high : k ≤ limits.slots

-- a row that breaks no walk
pub record GoodRow (limits : Limits) (row : Row) : Type 0 where
  pub some : 1 ≤ row.len
  pub short : row.len ≤ limits.width
  pub low : 1 ≤ row.place
  pub high : row.place ≤ row.len + 1
  pub sided : row.side ≤ 1

-- a slot with such a row
pub record AtRow (limits : Limits) (store : List ℕ) (k : ℕ) (row : Row) : Type 0 where
  pub slot : AtSlot limits k
  pub bytes : length store ≡ store_length limits
  pub good : GoodRow limits row

-- a node to visit at a link, with so many nodes left to visit
pub record Live (limits : Limits) (table : List ℕ) (link remaining : ℕ) : Type 0 where
  pub some : 1 ≤ link
  pub high : link ≤ limits.slots
  pub room : 1 ≤ remaining
  pub good : GoodRow limits (row_at table link)

-- a comparison that started at place d has ended
pub record AtPlace (d : ℕ) (c : Compared) : Type 0 where
  pub positive : 1 ≤ d
  pub low : d ≤ c.place
  pub high : c.place ≤ 4097

-- a move whose counts may be added
pub record CanStep (w : Spot) (m : Move) : Type 0 where
  pub visits : w.visits ≤ 64
  pub places : w.places ≤ 4097 * w.visits
  pub examined : m.examined ≤ 4097

-- the spot v after w: one visit more, and at most 4097 places
pub record Onward (w v : Spot) : Type 0 where
  pub visits : v.visits ≡ w.visits + 1
  pub places : v.places ≤ w.places + 4097
