-- The numbers of a search at a node: P and S, and the difference places that they tell of.
-- j and k are those of the sought label with its predecessor and successor, dp and ds those of the node's label;
-- each is at least 1.
-- `Invariant`: what P and S tell of j and k.  `Lies`: how j, k, dp and ds lie, by what a comparison finds.
-- `Fits`: a step that goes as the comparison says, keeps the invariant, and examines few places.
-- `fits_on_predecessor_side`: the step at a node of side predecessor fits.
-- `larger_at_tie`, `fits_at_tie`: where P is the node's place and S is above it, the sought label is the larger, by a
-- difference at P, and going right fits.
use mathlib.Core.Path.{◌≡◌, ap}
use Prim.Native.Nat.{ℕ, suc, ◌+◌, ◌-◌, ◌≤◌, ◌<◌, min, max, Ordering}
use native.Mathlib.Omega.{arith}
use Rattle.labels.specs.Labels.{Comparison, smaller, same, larger, place_of}
use Rattle.labels.proofs.Numbers.{Ordered, is_lt, is_eq, is_gt}
use Rattle.tables.specs.Steps.{Step, go_left, go_right, stop, compare_step, predecessor_step}

-- P is at most j, and is j where k is at most j; S is at most k, and is k where j is at most k
pub record Invariant (j k P S : ℕ) : Type 0 where
  pub p_within : P ≤ j
  pub s_within : S ≤ k
  pub p_exact : j < max (suc P) k
  pub s_exact : k < max (suc S) j

-- for labels a below b below c, the difference place of a and c is the smaller of the other two; a label like the
-- node's has the node's difference places, and the comparison ends no earlier than at these
pub data Lies (j k dp ds : ℕ) : Comparison → Type 0 where
  lies_smaller : (i : ℕ) → 1 ≤ i → dp ≡ min j i → k ≡ min ds i → Lies j k dp ds (smaller i)
  lies_same : (i : ℕ) → j ≡ dp → k ≡ ds → max j k ≤ i → Lies j k dp ds (same i)
  lies_larger : (i : ℕ) → 1 ≤ i → j ≡ min dp i → ds ≡ min k i → Lies j k dp ds (larger i)

-- a step that fits what the comparison finds: all places examined but one raise the larger of P and S, or, where the
-- search stops, would raise it to the place at which the comparison ends
pub data Fits (j k P S : ℕ) : Comparison → Step → Type 0 where
  fits_left : (i P' S' examined : ℕ) → Invariant j i P' S' → examined + max P S ≤ suc (max P' S')
      → Fits j k P S (smaller i) (go_left P' S' examined)
  fits_stop : (i examined : ℕ) → examined + max P S ≤ suc i → Fits j k P S (same i) (stop examined)
  fits_right : (i P' S' examined : ℕ) → Invariant i k P' S' → examined + max P S ≤ suc (max P' S')
      → Fits j k P S (larger i) (go_right P' S' examined)

-- a comparison from place d to place i examines the places from d to i, the last one included
examined_within : (i d m n : ℕ) → d ≤ suc i → i + m ≤ n + d → (suc i - d) + m ≤ suc n
examined_within i d m n reached raised = omega arith

module _ (j k dp ds P S : ℕ) (holds : Invariant j k P S) where
  -- where the predecessor's difference place is at least as large, the step by P fits; q is what the comparison
  -- that starts at place dp finds
  pub fits_on_predecessor_side : {r : Comparison} (q : Comparison) {o : Ordering} → ds ≤ dp
      → Lies j k dp ds r → Ordered P dp o → (dp ≤ place_of r → q ≡ r)
      → Fits j k P S r (predecessor_step o (compare_step q dp P S) P S)
  fits_on_predecessor_side q tie (lies_smaller i first dp_is k_is) (is_lt less) late = absurd (omega arith)
  fits_on_predecessor_side q tie (lies_smaller i first dp_is k_is) (is_eq equal) late =
      rw (late (omega arith))
      (fits_left i P i (suc i - dp) (omega arith) (examined_within i dp _ _ (omega arith) (omega arith)))
  fits_on_predecessor_side q tie (lies_smaller i first dp_is k_is) (is_gt more) late =
      fits_left i P S 0 (omega arith) (omega arith)
  fits_on_predecessor_side q tie (lies_same i j_is k_is reached) (is_lt less) late = absurd (omega arith)
  fits_on_predecessor_side q tie (lies_same i j_is k_is reached) (is_eq equal) late =
      rw (late (omega arith)) (fits_stop i (suc i - dp) (examined_within i dp _ _ (omega arith) (omega arith)))
  fits_on_predecessor_side q tie (lies_same i j_is k_is reached) (is_gt more) late = absurd (omega arith)
  fits_on_predecessor_side q tie (lies_larger i first j_is ds_is) (is_lt less) late =
      fits_right i P S 0 (omega arith) (omega arith)
  fits_on_predecessor_side q tie (lies_larger i first j_is ds_is) (is_eq equal) late =
      rw (late (omega arith))
      (fits_right i i S (suc i - dp) (omega arith) (examined_within i dp _ _ (omega arith) (omega arith)))
  fits_on_predecessor_side q tie (lies_larger i first j_is ds_is) (is_gt more) late = absurd (omega arith)

  -- where P is the node's place, that with its predecessor, and S is above it, the comparison would find the sought
  -- label larger at P
  pub larger_at_tie : {r : Comparison} → ds ≤ dp → Lies j k dp ds r → P ≡ dp → dp < S → r ≡ larger P
  larger_at_tie tie (lies_smaller i first dp_is k_is) equal above = absurd (omega arith)
  larger_at_tie tie (lies_same i j_is k_is reached) equal above = absurd (omega arith)
  larger_at_tie tie (lies_larger i first j_is ds_is) equal above = ap larger (omega arith)

  -- so going right fits there, with P and S as they are
  pub fits_at_tie : {r : Comparison} → ds ≤ dp → Lies j k dp ds r → P ≡ dp → dp < S
      → Fits j k P S r (go_right P S 0)
  fits_at_tie tie (lies_smaller i first dp_is k_is) equal above = absurd (omega arith)
  fits_at_tie tie (lies_same i j_is k_is reached) equal above = absurd (omega arith)
  fits_at_tie tie (lies_larger i first j_is ds_is) equal above = fits_right i P S 0 (omega arith) (omega arith)
