-- Sizes of an index whose positions and counts fit machine words, and a table and a store of these sizes.
use Rattle.std.specs.Prelude.{◌≡◌, List, ℕ, ◌≤◌, length}
use Rattle.types.specs.declared.Limits.{Limits}
use Rattle.types.specs.Sizes.{table_length, store_length}

-- sizes that the calls take
pub record LimitsFit (limits : Limits) : Type 0 where
  pub slots : limits.slots ≤ 4096
  pub width : limits.width ≤ 4096
  pub depth : limits.depth ≤ 64

-- a table and a store of these sizes
pub record SizesFit (limits : Limits) (table store : List ℕ) : Type 0 where
  pub fit : LimitsFit limits
  pub words : length table ≡ table_length limits
  pub bytes : length store ≡ store_length limits
