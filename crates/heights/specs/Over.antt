-- A node over its two sons, as the soundness test finds it.
use Rattle.std.specs.Prelude.{◌&&◌, cond, ℕ, ◌+◌, max, eqb, leb, Option, Some, None}
use Rattle.tables.specs.Prefix.{balance_of}
use Rattle.heights.specs.declared.Subtree.{Subtree}

-- a node over its sons: the height rule, and the true balance
unfoldable pub over : (balance : ℕ) → Option Subtree → Option Subtree → Option Subtree
over balance None r = None
over balance (Some l) None = None
over balance (Some l) (Some r) =
    cond (leb l.height (r.height + 1) && (leb r.height (l.height + 1) && eqb balance (balance_of l.height r.height)))
    (Some (record { height = max l.height r.height + 1; count = l.count + r.count + 1 })) None
