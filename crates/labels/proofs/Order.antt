-- The order of labels and missing neighbours by the numbers at their places.
-- `below_trans`: for a below b below c, the difference place of a and c is the smaller of the other two.
-- `place_unique`: the difference place is one.  `below_irreflexive`, `below_asymmetric`: no two ways at once.
-- `none_below_held`, `held_none_above`, `none_below_none_above`: a missing neighbour is beyond all others, at place 0.
-- `below_of_smaller`, `smaller_of_below`: between labels it is the order of the labels.
-- `place_positive`: two labels differ at no place before 1.
-- `below_none_below`, `none_above_below`: nothing lies beyond a missing neighbour.
use mathlib.Core.Path.{◌≡◌, refl, ◌∙◌}
use Prim.Native.Nat.{ℕ, zero, suc, ◌≤◌, ◌<◌, min, Ordering}
use native.Mathlib.Omega.{arith}
use Rattle.labels.specs.Labels.{Label, number_at, SmallerAt}
use Rattle.labels.specs.Neighbours.{Neighbour, none_below, held, none_above}
use Rattle.labels.proofs.Numbers.{Ordered, is_lt, is_eq, is_gt, ordered}

-- the numbers of a label or a missing neighbour: the made-up place 0 tells these apart
abbrev pub number_with : Neighbour → ℕ → ℕ
number_with none_below i = 0
number_with (held x) zero = 1
number_with (held x) (suc i) = number_at x (suc i)
number_with none_above zero = 2
number_with none_above (suc i) = 0

-- a is below b, and i is their difference place
pub record Below (a b : Neighbour) (i : ℕ) : Type 0 where
  pub agree : (j : ℕ) → j < i → number_with a j ≡ number_with b j
  pub less : number_with a i < number_with b i

-- for a below b below c, the difference place of a and c is the smaller of the other two
pub below_trans : {a b c : Neighbour} {i k : ℕ} → Below a b i → Below b c k → Below a c (min i k)
below_trans {a} {b} {c} {i} {k} low high = go (ordered i k)
  where
    agreed : (j : ℕ) → j < min i k → number_with a j ≡ number_with c j
    agreed j early = low.agree j (omega arith) ∙ high.agree j (omega arith)

    at : (m : ℕ) → min i k ≡ m → number_with a m < number_with c m → Below a c (min i k)
    at m e l = record { agree = agreed; less = rw e l }

    go : {o : Ordering} → Ordered i k o → Below a c (min i k)
    go (is_lt before) = at i (omega arith) (omega (arith, low.less, high.agree i before))
    go (is_eq e) = at i (omega arith) (omega (arith, low.less, rw (← e) at high.less))
    go (is_gt after) = at k (omega arith) (omega (arith, high.less, low.agree k after))

-- the difference place is one
pub place_unique : {a b : Neighbour} {i k : ℕ} → Below a b i → Below a b k → i ≡ k
place_unique {i = i} {k = k} one other = go (ordered i k)
  where
    go : {o : Ordering} → Ordered i k o → i ≡ k
    go (is_lt before) = omega (arith, one.less, other.agree i before)
    go (is_eq e) = e
    go (is_gt after) = omega (arith, other.less, one.agree k after)

-- nothing is below itself
pub below_irreflexive : {a : Neighbour} {i : ℕ} → Below a a i → ⊥
below_irreflexive low = omega (arith, low.less)

-- of two neighbours at most one is below the other
pub below_asymmetric : {a b : Neighbour} {i k : ℕ} → Below a b i → Below b a k → ⊥
below_asymmetric low high = below_irreflexive (below_trans low high)

-- a difference at the made-up place
below_at_0 : (a b : Neighbour) → number_with a 0 < number_with b 0 → Below a b 0
below_at_0 a b l = record { agree = λ j early. absurd (omega arith); less = l }

-- a missing predecessor is below every label
pub none_below_held : (x : Label) → Below none_below (held x) 0
none_below_held x = below_at_0 none_below (held x) (omega arith)

-- a missing successor is above every label
pub held_none_above : (x : Label) → Below (held x) none_above 0
held_none_above x = below_at_0 (held x) none_above (omega arith)

-- a missing predecessor is below a missing successor
pub none_below_none_above : Below none_below none_above 0
none_below_none_above = below_at_0 none_below none_above (omega arith)

-- nothing is below a missing predecessor
pub below_none_below : {a : Neighbour} {i : ℕ} → Below a none_below i → ⊥
below_none_below low = omega (arith, low.less)

-- a missing successor is below nothing
pub none_above_below : {b : Neighbour} {i : ℕ} → Below none_above b i → ⊥
none_above_below {b = none_below} low = below_none_below low
none_above_below {b = held y} low = below_asymmetric low (held_none_above y)
none_above_below {b = none_above} low = below_irreflexive low

-- two labels differ at no place before 1
pub place_positive : {x y : Label} {i : ℕ} → Below (held x) (held y) i → 1 ≤ i
place_positive {i = zero} low = absurd (omega (arith, low.less))
place_positive {i = suc i} low = omega arith

-- a label smaller than another is below it, at the same place
pub below_of_smaller : {x y : Label} {i : ℕ} → SmallerAt x y i → Below (held x) (held y) i
below_of_smaller {i = zero} s = absurd (omega (arith, s.place))
below_of_smaller {x} {y} {i = suc i} s = record { agree = agreed; less = s.there }
  where
    agreed : (j : ℕ) → j < suc i → number_with (held x) j ≡ number_with (held y) j
    agreed zero early = refl
    agreed (suc j) early = s.before (suc j) (omega arith) early

-- a label below another is smaller, at the same place
pub smaller_of_below : {x y : Label} {i : ℕ} → Below (held x) (held y) i → SmallerAt x y i
smaller_of_below {i = zero} low = absurd (omega (arith, low.less))
smaller_of_below {x} {y} {i = suc i} low = record { place = omega arith; before = agreed; there = low.less }
  where
    agreed : (j : ℕ) → 1 ≤ j → j < suc i → number_at x j ≡ number_at y j
    agreed zero from early = refl
    agreed (suc j) from early = low.agree (suc j) early
