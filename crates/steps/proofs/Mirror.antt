-- The step at a node of side successor is the mirror image of one at a node of side predecessor.
-- `mirrored_step`: left for right, and P for S.
-- `fits_on_successor_side`: the step at a node of side successor fits.
use mathlib.Core.Path.{◌≡◌, refl, ap}
use Prim.Native.Nat.{ℕ, ◌≤◌, Ordering}
use native.Mathlib.Omega.{arith}
use Rattle.labels.specs.Labels.{Comparison, smaller, same, larger, place_of}
use Rattle.labels.proofs.Numbers.{Ordered}
use Rattle.labels.proofs.Results.{mirrored}
use Rattle.labels.proofs.Difference.{place_of_mirrored}
use Rattle.tables.specs.Steps.{Step, go_left, go_right, stop, compare_step, predecessor_step, successor_step}
use Rattle.steps.proofs.Places.{Invariant, Lies, lies_smaller, lies_same, lies_larger}
use Rattle.steps.proofs.Places.{Fits, fits_left, fits_stop, fits_right, fits_on_predecessor_side}

-- left for right, and P for S
abbrev pub mirrored_step : Step → Step
mirrored_step (go_left p s examined) = go_right s p examined
mirrored_step (go_right p s examined) = go_left s p examined
mirrored_step (stop examined) = stop examined

-- the step by S is the mirrored step by P
mirrored_successor_step : (o : Ordering) (r : Comparison) (d p s : ℕ)
    → successor_step o (compare_step r d p s) p s
    ≡ mirrored_step (predecessor_step o (compare_step (mirrored r) d s p) s p)
mirrored_successor_step Ordering.lt r d p s = refl
mirrored_successor_step Ordering.gt r d p s = refl
mirrored_successor_step Ordering.eq (smaller i) d p s = refl
mirrored_successor_step Ordering.eq (same i) d p s = refl
mirrored_successor_step Ordering.eq (larger i) d p s = refl

-- the law of difference places reads the same both ways
lies_mirrored : {j k dp ds : ℕ} {r : Comparison} → Lies j k dp ds r → Lies k j ds dp (mirrored r)
lies_mirrored (lies_smaller i first dp_is k_is) = lies_larger i first k_is dp_is
lies_mirrored (lies_same i j_is k_is reached) = lies_same i k_is j_is (omega arith)
lies_mirrored (lies_larger i first j_is ds_is) = lies_smaller i first ds_is j_is

-- so does the invariant
invariant_mirrored : {j k P S : ℕ} → Invariant j k P S → Invariant k j S P
invariant_mirrored holds = omega arith

-- the mirror image of a step fits what is found the other way round
fits_mirrored : {j k P S : ℕ} (r : Comparison) {step : Step} → Fits k j S P (mirrored r) step
    → Fits j k P S r (mirrored_step step)
fits_mirrored (smaller i) (fits_right _ P' S' examined holds few) =
    fits_left i S' P' examined (invariant_mirrored holds) (omega arith)
fits_mirrored (same i) (fits_stop _ examined few) = fits_stop i examined (omega arith)
fits_mirrored (larger i) (fits_left _ P' S' examined holds few) =
    fits_right i S' P' examined (invariant_mirrored holds) (omega arith)

module _ (j k dp ds P S : ℕ) (holds : Invariant j k P S) where
  -- where the successor's difference place is at least as large, the step by S fits; q is what the comparison that
  -- starts at place ds finds
  pub fits_on_successor_side : {r : Comparison} (q : Comparison) {o : Ordering} → dp ≤ ds
      → Lies j k dp ds r → Ordered S ds o → (ds ≤ place_of r → q ≡ r)
      → Fits j k P S r (successor_step o (compare_step q ds P S) P S)
  fits_on_successor_side {r} q {o} tie lies ordered late =
      rw (mirrored_successor_step o q ds P S)
      (fits_mirrored r
      (fits_on_predecessor_side k j ds dp S P (invariant_mirrored holds) (mirrored q) tie
      (lies_mirrored lies) ordered
      (λ reached. ap mirrored (late (rw place_of_mirrored at reached)))))
