-- What the parts of the soundness test take for granted: each caller has tested it before.
use Rattle.std.specs.Prelude.{ℕ, ◌≤◌, ◌≡◌, List}
use Rattle.types.specs.declared.Limits.{Limits}
use Rattle.tables.specs.Words.{high_mark}
use Rattle.words.specs.Limits.{SizesFit}
use Rattle.gaps.specs.Windows.{Between}

-- a subtree between two slots
pub record WalkFits (limits : Limits) (table store : List ℕ) (remaining below above apart : ℕ) : Type 0 where
  pub deep : remaining ≤ 64
  pub between : Between limits table store below above apart

-- a walk along the free chain, below the high mark
pub record ChainFits (limits : Limits) (table store : List ℕ) (high : ℕ) : Type 0 where
  pub sizes : SizesFit limits table store
  pub mark : high ≡ high_mark table
  pub within : high ≤ limits.slots
