-- Tests that pass.
-- `and_true`: two tests that pass, pass together.
-- `false_not_true`: a test that fails does not pass.
-- `same_tests`: two tests that each pass where the other does are the same.
use mathlib.Core.Path.{◌≡◌, refl, sym}
use mathlib.Core.Bool.{Bool, true, false, ◌&&◌, false≢true}
use Rattle.trees.proofs.Views.{both_true}

-- Two tests that pass, pass together.
pub and_true : {a b : Bool} → a ≡ true → b ≡ true → (a && b) ≡ true
and_true {a} {b} one other = (both_true a b).1 (one, other)

-- A test that fails does not pass.
pub false_not_true : {A : Type 0} → false ≡ true → A
false_not_true is = absurd (false≢true is)

-- Two tests that each pass where the other does are the same.
pub same_tests : (a b : Bool) → (a ≡ true → b ≡ true) → (b ≡ true → a ≡ true) → a ≡ b
same_tests true b onward back = sym (onward refl)
same_tests false true onward back = back refl
same_tests false false onward back = refl
