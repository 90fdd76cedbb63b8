-- The plain ordered map, and the labels that a call does not name: what is held under them stays.
-- others_inserted, others_removed, others_charged: so where a pair is set in or taken out, and where a charge is set.
use mathlib.Core.Bool.{true}
use mathlib.Core.List.{List, [], ◌∷◌}
use mathlib.Core.Option.{none}
use mathlib.Core.Path.{◌≡◌, refl}
use Prim.Native.Nat.{ℕ}
use Rattle.labels.specs.Labels.{Label, Alike, Comparison, smaller, same, larger, compare_labels}
use Rattle.labels.specs.Neighbours.{held}
use Rattle.labels.proofs.Alike.{alike_sym, alike_trans}
use Rattle.labels.proofs.Difference.{Before, below_is_before, before_trans}
use Rattle.labels.proofs.Results.{below_when_smaller, alike_when_same, compare_smaller}
use Rattle.trees.specs.Map.{Pair, lookup_by, lookup, insertion_by, insertion, removal_by, removal, charging_by, charging}
use Rattle.trees.specs.Valid.{below_first, ascends}
use Rattle.trees.proofs.Linked.{before_of_smaller}
use Rattle.trees.proofs.MapLists.{keys}
use Rattle.trees.proofs.Views.{both_true}

-- A label before one that is before a map's first pair is not held.
none_before : (y z : Label) (m : List Pair) → Before (held y) (held z) → below_first z (keys m) ≡ true
    → lookup y m ≡ none
none_before y z [] before below = refl
none_before y z (p ∷ m) before below =
    rw (compare_smaller (before_trans before (before_of_smaller z p.label below)))

module _ (y : Label) where
  pub others_inserted : (new : Pair) (m : List Pair) → (Alike y new.label → ⊥)
      → lookup y (insertion new m) ≡ lookup y m
  others_inserted new [] apart = go (compare_labels y new.label) refl
    where
      go : (c : Comparison) → compare_labels y new.label ≡ c → lookup_by c new none ≡ none
      go (smaller i) finds = refl
      go (same i) finds = absurd (apart (alike_when_same finds))
      go (larger i) finds = refl
  others_inserted new (q ∷ m) apart = go (compare_labels new.label q.label) refl (others_inserted new m apart)
    where
      before_new : {i : ℕ} → compare_labels new.label q.label ≡ smaller i
          → (c : Comparison) → compare_labels y new.label ≡ c
          → lookup_by c new (lookup y (q ∷ m)) ≡ lookup y (q ∷ m)
      before_new less (smaller j) finds =
          let first = below_is_before (below_when_smaller finds) in
          rw (compare_smaller (before_trans first (below_is_before (below_when_smaller less))))
      before_new less (same j) finds = absurd (apart (alike_when_same finds))
      before_new less (larger j) finds = refl

      go : (c : Comparison) → compare_labels new.label q.label ≡ c → lookup y (insertion new m) ≡ lookup y m
          → lookup y (insertion_by c new q m (insertion new m)) ≡ lookup y (q ∷ m)
      go (smaller i) less further = before_new less (compare_labels y new.label) refl
      go (same i) finds further = refl
      go (larger i) finds further = rw further

  pub others_removed : (x : Label) (m : List Pair) → ascends (keys m) ≡ true → (Alike y x → ⊥)
      → lookup y (removal x m) ≡ lookup y m
  others_removed x [] ascending apart = refl
  others_removed x (q ∷ m) ascending apart =
      let (below, rest) = (both_true _ _).0 ascending in
      go (compare_labels x q.label) refl below (others_removed x m rest apart)
    where
      past : {i : ℕ} → compare_labels x q.label ≡ same i → below_first q.label (keys m) ≡ true
          → (c : Comparison) → compare_labels y q.label ≡ c → lookup y m ≡ lookup_by c q (lookup y m)
      past here below (smaller j) finds =
          none_before y q.label m (below_is_before (below_when_smaller finds)) below
      past here below (same j) finds =
          absurd (apart (alike_trans (alike_when_same finds) (alike_sym (alike_when_same here))))
      past here below (larger j) finds = refl

      go : (c : Comparison) → compare_labels x q.label ≡ c → below_first q.label (keys m) ≡ true
          → lookup y (removal x m) ≡ lookup y m
          → lookup y (removal_by c q m (removal x m)) ≡ lookup y (q ∷ m)
      go (smaller i) finds below further = refl
      go (same i) here below further = past here below (compare_labels y q.label) refl
      go (larger i) finds below further = rw further

  pub others_charged : (x : Label) (n : ℕ) (m : List Pair) → (Alike y x → ⊥)
      → lookup y (charging x n m) ≡ lookup y m
  others_charged x n [] apart = refl
  others_charged x n (q ∷ m) apart = go (compare_labels x q.label) refl (others_charged x n m apart)
    where
      past : {i : ℕ} (p : Pair) → compare_labels x q.label ≡ same i
          → (c : Comparison) → compare_labels y q.label ≡ c → lookup_by c p (lookup y m) ≡ lookup_by c q (lookup y m)
      past p here (smaller j) finds = refl
      past p here (same j) finds =
          absurd (apart (alike_trans (alike_when_same finds) (alike_sym (alike_when_same here))))
      past p here (larger j) finds = refl

      go : (c : Comparison) → compare_labels x q.label ≡ c → lookup y (charging x n m) ≡ lookup y m
          → lookup y (charging_by c n q m (charging x n m)) ≡ lookup y (q ∷ m)
      go (smaller i) finds further = refl
      go (same i) here further = past _ here (compare_labels y q.label) refl
      go (larger i) finds further = rw further
