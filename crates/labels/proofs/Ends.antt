-- Where a comparison ends.
-- `ends_of_compare`: from its first place on, and at most one place after the end of either label's rest.
-- `ends_of_labels`: so for the whole labels.  `ends_from`: so for a comparison that starts at place d.
use mathlib.Core.List.{[], ◌∷◌}
use Prim.Native.Nat.{ℕ, suc, ◌+◌, ◌-◌, ◌≤◌, max, compare, Ordering}
use native.Mathlib.Omega.{arith}
use lib.ListN.{length, drop, length-drop}
use Rattle.labels.specs.Labels.{Label, number_of, Comparison, compare_numbers, compare_at}
use Rattle.labels.specs.Labels.{compare_labels, compare_from, place_of}

-- place i is at least d, and at most either end
pub record Within (d first_end second_end i : ℕ) : Type 0 where
  pub from : d ≤ i
  pub first : i ≤ first_end
  pub second : i ≤ second_end

-- where a comparison of two numbers and of the further places ends
within_numbers : (o : Ordering) (i m n : ℕ) (r : Comparison) → Within (suc i) (suc i + m) (suc i + n) (place_of r)
    → Within i (i + suc m) (i + suc n) (place_of (compare_numbers o i r))
within_numbers Ordering.lt i m n r w = omega arith
within_numbers Ordering.eq i m n r w = omega arith
within_numbers Ordering.gt i m n r w = omega arith

-- what is left of two labels is compared no further than one place after the shorter one
pub ends_of_compare : (i : ℕ) (x y : Label) → Within i (i + length x) (i + length y) (place_of (compare_at i x y))
ends_of_compare i [] [] = omega arith
ends_of_compare i [] (b ∷ y) = omega arith
ends_of_compare i (a ∷ x) [] = omega arith
ends_of_compare i (a ∷ x) (b ∷ y) =
    within_numbers (compare (number_of a) (number_of b)) i (length x) (length y) (compare_at (suc i) x y)
    (ends_of_compare (suc i) x y)

-- a comparison of two labels ends at most one place after either label
pub ends_of_labels : (x y : Label) → Within 1 (suc (length x)) (suc (length y)) (place_of (compare_labels x y))
unfolding compare_labels
ends_of_labels x y = let w = ends_of_compare 1 x y in omega arith

-- a comparison from place d ends from there on, at most one place after a label that place d is not beyond
pub ends_from : (d : ℕ) (x y : Label) → 1 ≤ d
    → Within d (max d (suc (length x))) (max d (suc (length y))) (place_of (compare_from d x y))
unfolding compare_from
ends_from d x y positive = let w = ends_of_compare d (drop (d - 1) x) (drop (d - 1) y) in record {
  from = omega arith;
  first = omega (arith, length-drop (d - 1) x);
  second = omega (arith, length-drop (d - 1) y);
}
