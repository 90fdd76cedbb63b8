-- The computed difference place, and the order by it.
-- `difference_is`: `difference` of two neighbours, one below the other, is their difference place.
-- `place_of_mirrored`, `difference_symmetric`: it is the same from both sides.
-- `difference_first`, `difference_second`: with a label it is at most one more than the label's length.
-- `below_is_before`, `before_trans`: the order at the computed place, `Before`, follows from `Below`; it is transitive.
-- `difference_of_outer`: for a before b before c, that of a and c is the smaller of the other two.
use mathlib.Core.Path.{◌≡◌, refl, ap, ◌∙◌}
use Prim.Native.Nat.{ℕ, suc, ◌≤◌, min}
use native.Mathlib.Omega.{arith}
use lib.ListN.{length}
use Rattle.labels.specs.Labels.{Label, Comparison, smaller, same, larger, compare_labels, place_of, difference_place}
use Rattle.labels.specs.Neighbours.{Neighbour, none_below, held, none_above, difference}
use Rattle.labels.proofs.Order.{Below, below_trans, below_irreflexive, place_unique}
use Rattle.labels.proofs.Order.{below_none_below, none_above_below}
use Rattle.labels.proofs.Order.{none_below_held, held_none_above, none_below_none_above}
use Rattle.labels.proofs.Results.{compare_smaller, mirrored, compare_mirrored}
use Rattle.labels.proofs.Ends.{ends_of_labels}

-- the computed difference place is the difference place
pub difference_is : (a b : Neighbour) {i : ℕ} → Below a b i → difference a b ≡ i
unfolding difference_place
difference_is none_below none_below below = absurd (below_irreflexive below)
difference_is none_below (held y) below = place_unique (none_below_held y) below
difference_is none_below none_above below = place_unique none_below_none_above below
difference_is (held x) none_below below = absurd (below_none_below below)
difference_is (held x) (held y) below = ap place_of (compare_smaller below)
difference_is (held x) none_above below = place_unique (held_none_above x) below
difference_is none_above b below = absurd (none_above_below below)

-- both ways round a comparison ends at one place
pub place_of_mirrored : (r : Comparison) → place_of (mirrored r) ≡ place_of r
place_of_mirrored (smaller i) = refl
place_of_mirrored (same i) = refl
place_of_mirrored (larger i) = refl

-- two neighbours have one difference place
pub difference_symmetric : (a b : Neighbour) → difference a b ≡ difference b a
unfolding difference_place
difference_symmetric none_below none_below = refl
difference_symmetric none_below (held y) = refl
difference_symmetric none_below none_above = refl
difference_symmetric (held x) none_below = refl
difference_symmetric (held x) (held y) =
    ap place_of (compare_mirrored y x) ∙ place_of_mirrored (compare_labels y x)
difference_symmetric (held x) none_above = refl
difference_symmetric none_above none_below = refl
difference_symmetric none_above (held y) = refl
difference_symmetric none_above none_above = refl

-- a label's difference place with a second neighbour is at most one more than its length
pub difference_first : (x : Label) (b : Neighbour) → difference (held x) b ≤ suc (length x)
unfolding difference_place
difference_first x none_below = omega arith
difference_first x (held y) = (ends_of_labels x y).first
difference_first x none_above = omega arith

-- so is its difference place with a first one
pub difference_second : (a : Neighbour) (y : Label) → difference a (held y) ≤ suc (length y)
difference_second a y = omega (arith, difference_symmetric a (held y), difference_first y a)

-- a is below b, at the computed difference place
abbrev pub Before : Neighbour → Neighbour → Type 0
Before a b = Below a b (difference a b)

-- a neighbour below another is before it
pub below_is_before : {a b : Neighbour} {i : ℕ} → Below a b i → Before a b
below_is_before {a} {b} below = rw (difference_is a b below) below

-- what is before b is before all that b is before
pub before_trans : {a b c : Neighbour} → Before a b → Before b c → Before a c
before_trans low high = below_is_before (below_trans low high)

-- for a before b before c, the difference place of a and c is the smaller of the other two
pub difference_of_outer : {a b c : Neighbour} → Before a b → Before b c
    → difference a c ≡ min (difference a b) (difference b c)
difference_of_outer {a} {c = c} low high = difference_is a c (below_trans low high)
