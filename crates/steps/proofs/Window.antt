-- The window of the sought label in a search, and its difference places.
-- `place_below`, `place_above`: the difference places of a label with its window, at least 1.
-- `Sought`: a search with the numbers P and S has the label x in the window of p and s.
-- `sought_first`: so it is at the root.
-- `lies_of_finds`: how the difference places of two labels in one window lie.
use mathlib.Core.Path.{◌≡◌, ap}
use Prim.Native.Nat.{ℕ, suc, ◌≤◌, min, max}
use native.Mathlib.Omega.{arith}
use lib.ListN.{length}
use Rattle.labels.specs.Labels.{Label, SmallerAt, Comparison, Finds, is_smaller_lem, is_same, is_larger}
use Rattle.labels.specs.Neighbours.{Neighbour, none_below, held, none_above, difference}
use Rattle.labels.proofs.Order.{below_trans, place_unique, below_of_smaller, none_below_held, held_none_above}
use Rattle.labels.proofs.Alike.{below_alike, alike_below}
use Rattle.labels.proofs.Difference.{Before, difference_first, difference_second}
use Rattle.steps.proofs.Places.{Invariant, Lies, lies_smaller, lies_same, lies_larger}

-- the difference places of a label with its window, "0 where that neighbour is missing", taken as at least 1
abbrev pub place_below : Neighbour → Label → ℕ
place_below p x = max 1 (difference p (held x))

abbrev pub place_above : Label → Neighbour → ℕ
place_above x s = max 1 (difference (held x) s)

-- x is in the window of p and s, and P and S tell of its difference places; the invariant of a search
pub record Sought (p : Neighbour) (x : Label) (s : Neighbour) (P S : ℕ) : Type 0 where
  pub above : Before p (held x)
  pub below : Before (held x) s
  pub told : Invariant (place_below p x) (place_above x s) P S

-- at the root every label is in the window, and P and S are 1
pub sought_first : (x : Label) → Sought none_below x none_above 1 1
sought_first x = record { above = none_below_held x; below = held_none_above x; told = omega arith }

-- no difference place is beyond the place after the label's end
within_end : (p : Neighbour) (x : Label) (s : Neighbour) → max (place_below p x) (place_above x s) ≤ suc (length x)
within_end p x s = omega (arith, difference_second p x, difference_first x s)

-- the smaller of two places, taken as at least 1
least_of_raised : (a b i : ℕ) → 1 ≤ i → a ≡ min b i → max 1 a ≡ min (max 1 b) i
least_of_raised a b i first least = omega arith

module _ {a b : Label} {i : ℕ} (smaller : SmallerAt a b i) where
  -- of two labels in one window, the upper one's difference place with the predecessor is the smaller of the lower
  -- one's and theirs
  place_below_upper : {p : Neighbour} → Before p (held a) → Before p (held b)
      → place_below p b ≡ min (place_below p a) i
  place_below_upper a_above b_above =
      least_of_raised _ _ i smaller.place (place_unique b_above (below_trans a_above (below_of_smaller smaller)))

  -- the lower one's with the successor is the smaller of the upper one's and theirs
  place_above_lower : {s : Neighbour} → Before (held a) s → Before (held b) s
      → place_above a s ≡ min (place_above b s) i
  place_above_lower a_below b_below =
      let least = place_unique a_below (below_trans (below_of_smaller smaller) b_below) in
      least_of_raised _ _ i smaller.place (omega arith)

-- the difference places of x and c with their window lie as the comparison of x and c says
pub lies_of_finds : {p s : Neighbour} {x c : Label} {r : Comparison}
    → Before p (held c) → Before (held c) s → Before p (held x) → Before (held x) s → Finds x c r
    → Lies (place_below p x) (place_above x s) (place_below p c) (place_above c s) r
lies_of_finds c_above c_below above below (is_smaller_lem {i = i} found) =
    lies_smaller i found.place (place_below_upper found above c_above) (place_above_lower found below c_below)
lies_of_finds {p} {s} {x} c_above c_below above below (is_same {i = i} alike end) =
    lies_same i (ap (max 1) (place_unique above (below_alike c_above alike)))
    (ap (max 1) (place_unique below (alike_below c_below alike))) (omega (arith, within_end p x s))
lies_of_finds c_above c_below above below (is_larger {i = i} found) =
    lies_larger i found.place (place_below_upper found c_above above) (place_above_lower found c_below below)
