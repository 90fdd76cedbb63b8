-- Balances, rows and cases seen from the other side.
-- `mirrored_twice`: a balance seen twice from the other side is itself.
-- `double_turn_mirrored`: seen from either side, they are those of the definition.
use mathlib.Core.Path.{◌≡◌, refl}
use mathlib.Core.Bool.{Bool, true, false}
use Prim.Native.Nat.{ℕ, zero, suc}
use native.Mathlib.Omega.{arith}
use borrow.Author.Tests.{ne_eqb}
use Rattle.sides.specs.Rows.{mirrored}
use Rattle.sides.specs.Doubles.{double_turn}
use Rattle.sides.specs.Rotated.{double_turn_on}

-- A balance seen twice from the other side is itself.
pub mirrored_twice : (balance : ℕ) → mirrored (mirrored balance) ≡ balance
mirrored_twice zero = refl
mirrored_twice (suc zero) = refl
mirrored_twice (suc (suc zero)) = refl
mirrored_twice (suc (suc (suc b))) =
    simp (ne_eqb (suc (suc (suc b))) 0 (omega arith), ne_eqb (suc (suc (suc b))) 2 (omega arith))

-- The middle node's balance mirrored, and the nodes taken in the other order, each balance mirrored: the same cases.
pub double_turn_mirrored : (flip : Bool) (middle : ℕ) → double_turn_on flip middle ≡ double_turn middle
unfolding double_turn_on
double_turn_mirrored false middle = refl
double_turn_mirrored true zero = refl
double_turn_mirrored true (suc zero) = refl
double_turn_mirrored true (suc (suc zero)) = refl
double_turn_mirrored true (suc (suc (suc b))) =
    simp (ne_eqb (suc (suc (suc b))) 0 (omega arith), ne_eqb (suc (suc (suc b))) 2 (omega arith))
