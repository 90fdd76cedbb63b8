-- Two labels that agree before a place: their comparison ends there or later.
-- `agree_short`, `agree_other_short`: not where one of them ends before it.
-- `agree_next`, `agree_stops`: bytes of one number leave it to the next index, others end it.
-- `agree_all`: no index before the place is left.
-- `order_unlike`, `order_alike`: the order at a place, from the test whether they agree before it.
use Prim.Native.Nat.{ℕ, suc, ◌+◌, ◌-◌, ◌≤◌, ◌<◌, compare, Ordering as Compared}
use mathlib.Core.Path.{◌≡◌, refl, sym, ap, ◌∙◌}
use mathlib.Core.Bool.{Bool, true, false}
use native.Mathlib.Numerals.{add-one}
use native.Mathlib.Omega.{arith}
use lib.Dec.{eqb, leb}
use lib.ListN.{length, get_or}
use borrow.Author.Tests.{lt-leb, le-leb, leb-true, leb-false, eqb-true, eqb-false}
use Rattle.std.specs.declared.cmp.Ordering.{Ordering}
use Rattle.std.specs.declared.cmp.Ordering.TheVariants.{Equal}
use Rattle.labels.specs.Labels.{Label, Comparison, number_of, place_of, compare_numbers}
use Rattle.labels.specs.Labels.{compare_labels, compare_from, difference_place}
use Rattle.labels.proofs.Numbers.{Ordered, is_lt, is_eq, is_gt, ordered}
use Rattle.labels.proofs.Ends.{ends_of_labels}
use Rattle.labels.proofs.Late.{compare_equal, compare_late}
use Rattle.compares.specs.Compares.{rest, order_at}
use Rattle.compares.proofs.Laws.{rest_later, rest_both, order_elsewhere}

-- numbers that are not one end the comparison at their place
ends_unlike : (m n i : ℕ) (k : Comparison) → (m ≡ n → ⊥) → place_of (compare_numbers (compare m n) i k) ≡ i
ends_unlike m n i k other = go (ordered m n)
  where
    go : {o : Compared} → Ordered m n o → place_of (compare_numbers o i k) ≡ i
    go (is_lt less) = refl
    go (is_eq equal) = absurd (other equal)
    go (is_gt more) = refl

-- at index 0 all is left
rest_whole : (x y : Label) → rest x y 0 ≡ compare_labels x y
unfolding rest compare_labels
rest_whole x y = refl

module _ (x y : Label) (place : ℕ) (positive : 1 ≤ place) where
  -- one of them ends before the place
  pub agree_short : length x < place - 1 → false ≡ leb place (difference_place x y)
  unfolding difference_place
  agree_short short = sym (lt-leb place (place_of (compare_labels x y)) (omega (arith, (ends_of_labels x y).first)))

  pub agree_other_short : length y < place - 1 → false ≡ leb place (difference_place x y)
  unfolding difference_place
  agree_other_short short = sym (lt-leb place (place_of (compare_labels x y)) (omega (arith, (ends_of_labels x y).second)))

  -- what is left at index i is what the whole comparison finds
  module _ (i : ℕ) (so : rest x y i ≡ rest x y 0) where
    ends_at : place_of (rest x y i) ≡ difference_place x y
    unfolding difference_place
    ends_at = ap place_of (so ∙ rest_whole x y)

    -- no index before the place is left
    pub agree_all : place - 1 ≤ i → true ≡ leb place (difference_place x y)
    agree_all reached = sym (le-leb place (difference_place x y) (omega (arith, ends_at, rest_later x y i)))

    -- bytes that both have there
    module _ (within : i < place - 1) (more : place - 1 ≤ length x) (also : place - 1 ≤ length y) (found : Bool)
        (test : found ≡ eqb (number_of (get_or x i 0)) (number_of (get_or y i 0))) where
      -- of two numbers
      pub agree_stops : found ≡ false → false ≡ leb place (difference_place x y)
      agree_stops is =
          let at = ends_unlike (number_of (get_or x i 0)) (number_of (get_or y i 0)) (suc i) (rest x y (suc i))
          (eqb-false _ _ (sym test ∙ is)) in
          let there = ap place_of (rest_both x y i (omega arith) (omega arith)) in
          sym (lt-leb place (difference_place x y) (omega (arith, ends_at, there, at)))

      -- of one
      pub agree_next : found ≡ true → rest x y (i + 1) ≡ rest x y 0
      agree_next is =
          let next = compare_equal (suc i) (number_of (get_or x i 0)) (number_of (get_or y i 0)) (rest x y (suc i))
          (eqb-true _ _ (sym test ∙ is)) in
          rw add-one (sym next ∙ sym (rest_both x y i (omega arith) (omega arith)) ∙ so)

  -- the order at the place, from the test whether they agree before it
  module _ (agree : Bool) (test : agree ≡ leb place (difference_place x y)) where
    pub order_unlike : agree ≡ false → Equal ≡ order_at place (compare_labels x y)
    unfolding difference_place
    order_unlike is =
        let past = leb-false place (place_of (compare_labels x y)) (sym test ∙ is) in
        order_elsewhere (compare_labels x y) place (λ e. omega (arith, e, past))

    pub order_alike : (o : Ordering) → agree ≡ true → o ≡ order_at place (compare_from place x y)
        → o ≡ order_at place (compare_labels x y)
    unfolding difference_place
    order_alike o is e = e ∙ ap (order_at place) (compare_late place x y positive (leb-true _ _ (sym test ∙ is)))
