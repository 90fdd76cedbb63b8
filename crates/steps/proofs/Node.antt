-- The step of a search at a node between its neighbours.
-- `Goes`: a step goes as the full comparison does, into a window that has the sought label, and examines few places.
-- `step_goes`: the step at each node does.
-- `Tied`, `tied_view`: whether P is the node's place and S above it.
-- `larger_of_tie`: there the sought label is larger.
use mathlib.Core.Bool.{Bool, true, false, ◌&&◌, cond}
use mathlib.Core.Path.{◌≡◌, refl}
use Prim.Native.Nat.{ℕ, suc, ◌+◌, ◌≤◌, ◌<◌, max}
use native.Mathlib.Omega.{arith}
use lib.Dec.{eqb, ltb}
use borrow.Author.Tests.{eqb-true, ltb-true}
use Rattle.labels.specs.Labels.{Label, Comparison, smaller, same, larger, compare_labels, compare_from}
use Rattle.labels.specs.Labels.{Finds, is_smaller_lem, is_same, is_larger}
use Rattle.labels.specs.Neighbours.{Neighbour, held, difference}
use Rattle.labels.proofs.Numbers.{ordered, Leb, le_yes, le_no, leb_view}
use Rattle.labels.proofs.Order.{Below, place_positive, below_of_smaller}
use Rattle.labels.proofs.Compare.{compares_by_places}
use Rattle.labels.proofs.Difference.{Before, below_is_before, difference_is}
use Rattle.labels.proofs.Late.{compare_late}
use Rattle.tables.specs.Prefix.{place_within, side_within}
use Rattle.tables.specs.Steps.{Step, go_left, go_right, stop, lines_at, is_tie, step_at}
use Rattle.steps.proofs.Places.{Lies, Fits, fits_left, fits_stop, fits_right, fits_on_predecessor_side}
use Rattle.steps.proofs.Places.{larger_at_tie, fits_at_tie}
use Rattle.steps.proofs.Mirror.{fits_on_successor_side}
use Rattle.steps.proofs.Window.{place_below, place_above, Sought, lies_of_finds}

-- a step at a node with label c between p and s: left into the window of p and c, right into that of c and s;
-- all places examined but one raise the larger of P and S, or would raise it to the place where the comparison ends
pub data Goes (p : Neighbour) (x c : Label) (s : Neighbour) (P S : ℕ) : Comparison → Step → Type 0 where
  goes_left : (i P' S' examined : ℕ) → Sought p x (held c) P' S' → examined + max P S ≤ suc (max P' S')
      → Goes p x c s P S (smaller i) (go_left P' S' examined)
  goes_stop : (i examined : ℕ) → examined + max P S ≤ suc i → Goes p x c s P S (same i) (stop examined)
  goes_right : (i P' S' examined : ℕ) → Sought (held c) x s P' S' → examined + max P S ≤ suc (max P' S')
      → Goes p x c s P S (larger i) (go_right P' S' examined)

-- the difference place of two labels is at least 1
raised_place : {x y : Label} {i : ℕ} → Below (held x) (held y) i → i ≡ max 1 (difference (held x) (held y))
raised_place {x} {y} below = omega (arith, difference_is (held x) (held y) below, place_positive below)

-- whether P is the place d and S above it
pub data Tied (d P S : ℕ) : Bool → Type 0 where
  tied : P ≡ d → d < S → Tied d P S true
  not_tied : Tied d P S false

pub tied_view : (d P S : ℕ) → Tied d P S (is_tie d P S)
tied_view d P S = go (eqb P d) (ltb d S) refl refl
  where
    go : (level over : Bool) → eqb P d ≡ level → ltb d S ≡ over → Tied d P S (level && over)
    go true true e f = tied (eqb-true P d e) (ltb-true d S f)
    go true false e f = not_tied
    go false over e f = not_tied

module _ {p s : Neighbour} {x c : Label} {P S : ℕ} (sought : Sought p x s P S) where
  -- a step that fits goes into a window that has x
  goes_of_fits : {r : Comparison} {step : Step} → Finds x c r
      → Fits (place_below p x) (place_above x s) P S r step → Goes p x c s P S r step
  goes_of_fits (is_smaller_lem found) (fits_left i P' S' examined told few) =
      let low = below_of_smaller found in
      goes_left i P' S' examined
      (record { above = sought.above; below = below_is_before low; told = rw (raised_place low) at told }) few
  goes_of_fits (is_same alike end) (fits_stop i examined few) = goes_stop i examined few
  goes_of_fits (is_larger found) (fits_right i P' S' examined told few) =
      let high = below_of_smaller found in
      goes_right i P' S' examined
      (record { above = below_is_before high; below = sought.below; told = rw (raised_place high) at told }) few

  module _ (c_above : Before p (held c)) (c_below : Before (held c) s) where
    -- how the difference places of x and c lie
    lies : Lies (place_below p x) (place_above x s) (place_below p c) (place_above c s) (compare_labels x c)
    lies = lies_of_finds c_above c_below sought.above sought.below (compares_by_places x c)

    -- where the predecessor's difference place is at least as large
    module _ (tie : difference (held c) s ≤ difference p (held c)) where
      abbrev d : ℕ
      d = place_below p c

      -- at a tie the sought label is larger, by a difference at P
      pub larger_of_tie : P ≡ d → d < S → compare_labels x c ≡ larger P
      larger_of_tie equal above =
          larger_at_tie _ _ d (place_above c s) P S sought.told (omega arith) lies equal above

      -- the step by P
      fits_by_predecessor : {b : Bool} → Tied d P S b
          → Fits (place_below p x) (place_above x s) P S (compare_labels x c)
          (cond b (go_right P S 0) (lines_at x c 0 d P S))
      fits_by_predecessor (tied equal above) =
          fits_at_tie _ _ d (place_above c s) P S sought.told (omega arith) lies equal above
      fits_by_predecessor not_tied =
          fits_on_predecessor_side _ _ d (place_above c s) P S sought.told (compare_from d x c) (omega arith) lies
          (ordered P d) (compare_late d x c (omega arith))

    -- the step on either side, by which of the node's difference places is the larger
    fits_by_side : {b : Bool} → Leb (difference (held c) s) (difference p (held c)) b
        → Fits (place_below p x) (place_above x s) P S (compare_labels x c)
        (step_at x c (cond b 0 1) (place_within p c s) P S)
    fits_by_side (le_yes tie) =
        let place : place_within p c s ≡ place_below p c = omega arith in
        rw place (fits_by_predecessor tie (tied_view (place_below p c) P S))
    fits_by_side (le_no more) =
        let place : place_within p c s ≡ place_above c s = omega arith in
        rw place
        (fits_on_successor_side _ _ (place_below p c) (place_above c s) P S sought.told
        (compare_from (place_above c s) x c) (omega arith) lies
        (ordered S (place_above c s)) (compare_late (place_above c s) x c (omega arith)))

    -- the step at a node goes as the full comparison does
    pub step_goes : Goes p x c s P S (compare_labels x c) (step_at x c (side_within p c s) (place_within p c s) P S)
    step_goes = goes_of_fits (compares_by_places x c) (fits_by_side (leb_view _ _))
