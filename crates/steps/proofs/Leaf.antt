-- The prefix fields of a label that a search does not find, from P and S where the search ends.
-- `leaf_side`: the side by P and S, and by which neighbours there are (`is_held`).
-- `place_of_leaf`: its place is the larger of P and S.
-- `side_of_leaf`: its side is `leaf_side`.
use mathlib.Core.Bool.{Bool, true, false, cond}
use mathlib.Core.Path.{◌≡◌}
use Prim.Native.Nat.{ℕ, ◌≤◌, ◌<◌, max}
use native.Mathlib.Omega.{arith}
use borrow.Author.Tests.{le-leb, lt-leb}
use Rattle.labels.specs.Labels.{Label, difference_place}
use Rattle.labels.specs.Neighbours.{Neighbour, none_below, held, none_above, difference}
use Rattle.labels.proofs.Numbers.{Leb, le_yes, le_no, leb_view}
use Rattle.labels.proofs.Ends.{ends_of_labels}
use Rattle.tables.specs.Prefix.{place_within, side_within, side_by}
use Rattle.steps.proofs.Places.{Invariant}
use Rattle.steps.proofs.Window.{place_below, place_above, Sought}

-- whether a neighbour is there
abbrev pub is_held : Neighbour → Bool
is_held none_below = false
is_held (held x) = true
is_held none_above = false

-- predecessor (0) without a successor, successor (1) with a successor alone, else by S and P
abbrev pub leaf_side : (predecessor successor : Bool) (P S : ℕ) → ℕ
leaf_side predecessor false P S = 0
leaf_side false true P S = 1
leaf_side true true P S = side_by P S

-- the larger of P and S is the larger of the difference places
larger_is_told : (j k P S : ℕ) → Invariant j k P S → max j k ≡ max P S
larger_is_told j k P S told = omega arith

-- the place of the sought label in its window is the larger of P and S
pub place_of_leaf : {p s : Neighbour} {x : Label} {P S : ℕ} → Sought p x s P S → place_within p x s ≡ max P S
place_of_leaf {p} {s} {x} {P} {S} sought =
    omega (arith, larger_is_told (place_below p x) (place_above x s) P S sought.told)

-- the difference place of two labels is at least 1
place_at_least_1 : (x y : Label) → 1 ≤ difference_place x y
unfolding difference_place
place_at_least_1 x y = (ends_of_labels x y).from

-- sides by numbers that lie the same way are the same
side_same : (a b c d : ℕ) → (b ≤ a → d ≤ c) → (a < b → c < d) → side_by a b ≡ side_by c d
side_same a b c d at_least_lem less = go (leb_view b a)
  where
    go : {t : Bool} → Leb b a t → cond t 0 1 ≡ side_by c d
    go (le_yes up_to_lem) = rw (le-leb d c (at_least_lem up_to_lem))
    go (le_no beyond) = rw (lt-leb d c (less beyond))

-- without a successor the side is predecessor
side_without_successor : (below : ℕ) → side_by below 0 ≡ 0
side_without_successor below = rw (le-leb 0 below (omega arith))

-- with a successor alone the side is successor
side_of_successor_alone : (x y : Label) → side_by 0 (difference_place x y) ≡ 1
side_of_successor_alone x y = rw (lt-leb (difference_place x y) 0 (place_at_least_1 x y))

-- the side of the sought label in its window is by S and P, and by which neighbours there are
pub side_of_leaf : (p s : Neighbour) {x : Label} {P S : ℕ} → Sought p x s P S
    → side_within p x s ≡ leaf_side (is_held p) (is_held s) P S
side_of_leaf p none_below {x} sought = side_without_successor (difference p (held x))
side_of_leaf p none_above {x} sought = side_without_successor (difference p (held x))
side_of_leaf none_below (held b) {x} sought = side_of_successor_alone x b
side_of_leaf none_above (held b) {x} sought = side_of_successor_alone x b
side_of_leaf (held a) (held b) {x} {P} {S} sought =
    let told = sought.told in
    let low = place_at_least_1 a x in
    let high = place_at_least_1 x b in
    side_same (difference_place a x) (difference_place x b) P S (omega arith) (omega arith)
