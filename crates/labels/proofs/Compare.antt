-- What a comparison of two labels finds.
-- `compares_by_places`: it finds the difference place and the order, or that the labels are alike.
-- `next_place`: a comparison one place further ends one place further.
use mathlib.Core.List.{[], ◌∷◌}
use mathlib.Core.Path.{◌≡◌, refl, sym, ap}
use Prim.Native.Nat.{ℕ, zero, suc, ◌≤◌, ◌<◌, compare, Ordering}
use native.Mathlib.Omega.{arith}
use Rattle.labels.specs.Labels.{Label, number_of, number_at, SmallerAt, Alike, Comparison, smaller, same, larger}
use Rattle.labels.specs.Labels.{compare_numbers, compare_at, compare_labels, Finds, is_smaller_lem, is_same, is_larger}
use Rattle.labels.specs.Labels.{ComparesByPlaces}
use Rattle.labels.proofs.Numbers.{Ordered, is_lt, is_eq, is_gt, ordered, number_positive}
use Rattle.labels.proofs.Alike.{alike_refl}

-- the same finding, one place further
abbrev pub later : Comparison → Comparison
later (smaller i) = smaller (suc i)
later (same i) = same (suc i)
later (larger i) = larger (suc i)

-- numbers compared one place further
later_numbers : (o : Ordering) (i : ℕ) (r q : Comparison) → q ≡ later r
    → compare_numbers o (suc i) q ≡ later (compare_numbers o i r)
later_numbers Ordering.lt i r q further = refl
later_numbers Ordering.eq i r q further = further
later_numbers Ordering.gt i r q further = refl

-- a comparison one place further ends one place further
pub next_place : (i : ℕ) (x y : Label) → compare_at (suc i) x y ≡ later (compare_at i x y)
next_place i [] [] = refl
next_place i [] (b ∷ y) = refl
next_place i (a ∷ x) [] = refl
next_place i (a ∷ x) (b ∷ y) =
    later_numbers (compare (number_of a) (number_of b)) i (compare_at (suc i) x y) _ (next_place (suc i) x y)

-- labels that differ at place 1
smaller_at_1 : (x y : Label) → number_at x 1 < number_at y 1 → SmallerAt x y 1
smaller_at_1 x y less = record { place = omega arith; before = λ j from early. absurd (omega arith); there = less }

module _ {a b : ℕ} {x y : Label} (equal : number_of a ≡ number_of b) where
  -- a shared first number puts a difference one place further
  smaller_next : {i : ℕ} → SmallerAt x y i → SmallerAt (a ∷ x) (b ∷ y) (suc i)
  smaller_next {i = zero} s = absurd (omega (arith, s.place))
  smaller_next {i = suc i} s = record { place = omega arith; before = agreed; there = s.there }
    where
      agreed : (j : ℕ) → 1 ≤ j → j < suc (suc i) → number_at (a ∷ x) j ≡ number_at (b ∷ y) j
      agreed zero from early = refl
      agreed (suc zero) from early = equal
      agreed (suc (suc j)) from early = s.before (suc j) (omega arith) (omega arith)

  -- a shared first number keeps labels alike
  alike_next : Alike x y → Alike (a ∷ x) (b ∷ y)
  alike_next alike = record { numbers = agreed; lengths = ap suc alike.lengths }
    where
      agreed : (j : ℕ) → number_at (a ∷ x) j ≡ number_at (b ∷ y) j
      agreed zero = refl
      agreed (suc zero) = equal
      agreed (suc (suc j)) = alike.numbers (suc j)

-- a shared first number puts what is found one place further
finds_next : {a b : ℕ} {x y : Label} {r : Comparison} → number_of a ≡ number_of b
    → Finds x y r → Finds (a ∷ x) (b ∷ y) (later r)
finds_next equal (is_smaller_lem s) = is_smaller_lem (smaller_next equal s)
finds_next equal (is_same alike end) = is_same (alike_next equal alike) (ap suc end)
finds_next equal (is_larger s) = is_larger (smaller_next (sym equal) s)

-- what the first numbers and the rest give
finds_first : {a b : ℕ} {x y : Label} {r : Comparison} {o : Ordering} → Ordered (number_of a) (number_of b) o
    → Finds x y r → Finds (a ∷ x) (b ∷ y) (compare_numbers o 1 (later r))
finds_first {a} {b} {x} {y} (is_lt less) rest = is_smaller_lem (smaller_at_1 (a ∷ x) (b ∷ y) less)
finds_first (is_eq equal) rest = finds_next equal rest
finds_first {a} {b} {x} {y} (is_gt more) rest = is_larger (smaller_at_1 (b ∷ y) (a ∷ x) more)

-- a comparison finds the difference place and the order, or that the labels are alike
pub compares_by_places : ComparesByPlaces
unfolding compare_labels
compares_by_places [] [] = is_same (alike_refl []) refl
compares_by_places [] (b ∷ y) = is_smaller_lem (smaller_at_1 [] (b ∷ y) (number_positive b))
compares_by_places (a ∷ x) [] = is_larger (smaller_at_1 [] (a ∷ x) (number_positive a))
compares_by_places (a ∷ x) (b ∷ y) =
    rw (next_place 1 x y) (finds_first (ordered (number_of a) (number_of b)) (compares_by_places x y))
