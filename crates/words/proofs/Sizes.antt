-- Sizes that fit keep every count below the machine's word.
-- `store_small`: a store has at most 2 ^ 24 bytes.
use Prim.Native.Nat.{◌≤◌}
use native.Mathlib.Nat.{mul-le-mul}
use Rattle.types.specs.declared.Limits.{Limits}
use Rattle.types.specs.Sizes.{store_length}
use Rattle.words.specs.Limits.{LimitsFit}

-- a store has at most 4096 times 4096 bytes
pub store_small : (limits : Limits) → LimitsFit limits → store_length limits ≤ 16777216
store_small limits fit = mul-le-mul fit.slots fit.width
