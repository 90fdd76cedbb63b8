-- A slot's part of the store lies within it.
-- `part_ends`: the part does.  `label_inside`: so does a label in it.
use Prim.Native.Nat.{ℕ, ◌+◌, ◌≤◌}
use mathlib.Core.List.{List}
use native.Mathlib.Omega.{arith}
use lib.ListN.{length}
use Rattle.types.specs.declared.Limits.{Limits}
use Rattle.tables.specs.Words.{part_start}
use Rattle.tables.proofs.Offsets.{part_within}
use Rattle.words.specs.Parts.{LabelInside}
use Rattle.gaps.specs.Windows.{PartFits}

-- it ends within the store
pub part_ends : (limits : Limits) (store : List ℕ) (k n : ℕ) → PartFits limits store k n
    → part_start limits k + limits.width ≤ length store
part_ends limits store k n fits =
    omega (arith, part_within limits.width limits.slots k fits.low fits.high)

-- a label in it does
pub label_inside : (limits : Limits) (store : List ℕ) (k n : ℕ) → PartFits limits store k n
    → LabelInside limits store k n
label_inside limits store k n fits =
    let ends = part_ends limits store k n fits in
    let short = fits.within in
    record { low = fits.low; inside = omega arith }
