-- The plain ordered map, as a list.
-- lookup_past, insertion_past, removal_past, charging_past: pairs with smaller labels are passed over.
-- lookup_before, insertion_before, removal_before, charging_before: from a pair with a larger label on nothing is read
-- or changed.
use mathlib.Core.List.{List, [], ◌∷◌, ◌++◌, map}
use mathlib.Core.Path.{◌≡◌, refl}
use Prim.Native.Nat.{ℕ}
use Rattle.labels.specs.Labels.{Label, Comparison, smaller, same, larger, compare_labels}
use Rattle.labels.specs.Neighbours.{Neighbour, held}
use Rattle.labels.proofs.Results.{compare_larger}
use Rattle.trees.specs.Map.{Pair, lookup, insertion_by, insertion, removal_by, removal, charging_by, charging}
use Rattle.trees.proofs.Linked.{Linked, linked_step, linked_window}

-- the labels of a list of pairs
abbrev pub keys : List Pair → List Label
keys list = map (λ p. p.label) list

-- Pairs with smaller labels are passed over.
pub lookup_past : {p : Neighbour} (x : Label) (first last : List Pair) → Linked p (keys first) (held x)
    → lookup x (first ++ last) ≡ lookup x last
lookup_past x [] last linked = refl
lookup_past x (q ∷ first) last (linked_step before rest) =
    rw (compare_larger (linked_window rest)) (lookup_past x first last rest)

pub insertion_past : {p : Neighbour} (new : Pair) (first last : List Pair) → Linked p (keys first) (held new.label)
    → insertion new (first ++ last) ≡ first ++ insertion new last
insertion_past new [] last linked = refl
insertion_past new (q ∷ first) last (linked_step before rest) =
    rw (compare_larger (linked_window rest), insertion_past new first last rest)

pub removal_past : {p : Neighbour} (x : Label) (first last : List Pair) → Linked p (keys first) (held x)
    → removal x (first ++ last) ≡ first ++ removal x last
removal_past x [] last linked = refl
removal_past x (q ∷ first) last (linked_step before rest) =
    rw (compare_larger (linked_window rest), removal_past x first last rest)

pub charging_past : {p : Neighbour} (x : Label) (n : ℕ) (first last : List Pair) → Linked p (keys first) (held x)
    → charging x n (first ++ last) ≡ first ++ charging x n last
charging_past x n [] last linked = refl
charging_past x n (q ∷ first) last (linked_step before rest) =
    rw (compare_larger (linked_window rest), charging_past x n first last rest)

module _ (q : Pair) (last : List Pair) {i : ℕ} where
  -- From a pair with a larger label on nothing is read or changed.
  pub lookup_before : (x : Label) (first : List Pair) → compare_labels x q.label ≡ smaller i
      → lookup x (first ++ (q ∷ last)) ≡ lookup x first
  lookup_before x [] less = rw less
  lookup_before x (p ∷ first) less = rw (lookup_before x first less)

  pub insertion_before : (new : Pair) (first : List Pair) → compare_labels new.label q.label ≡ smaller i
      → insertion new (first ++ (q ∷ last)) ≡ insertion new first ++ (q ∷ last)
  insertion_before new [] less = rw less
  insertion_before new (p ∷ first) less =
      rw (insertion_before new first less) (go (compare_labels new.label p.label))
    where
      go : (c : Comparison) → insertion_by c new p (first ++ (q ∷ last)) (insertion new first ++ (q ∷ last))
          ≡ insertion_by c new p first (insertion new first) ++ (q ∷ last)
      go (smaller j) = refl
      go (same j) = refl
      go (larger j) = refl

  pub removal_before : (x : Label) (first : List Pair) → compare_labels x q.label ≡ smaller i
      → removal x (first ++ (q ∷ last)) ≡ removal x first ++ (q ∷ last)
  removal_before x [] less = rw less
  removal_before x (p ∷ first) less = rw (removal_before x first less) (go (compare_labels x p.label))
    where
      go : (c : Comparison) → removal_by c p (first ++ (q ∷ last)) (removal x first ++ (q ∷ last))
          ≡ removal_by c p first (removal x first) ++ (q ∷ last)
      go (smaller j) = refl
      go (same j) = refl
      go (larger j) = refl

  pub charging_before : (x : Label) (n : ℕ) (first : List Pair) → compare_labels x q.label ≡ smaller i
      → charging x n (first ++ (q ∷ last)) ≡ charging x n first ++ (q ∷ last)
  charging_before x n [] less = rw less
  charging_before x n (p ∷ first) less = rw (charging_before x n first less) (go (compare_labels x p.label))
    where
      go : (c : Comparison) → charging_by c n p (first ++ (q ∷ last)) (charging x n first ++ (q ∷ last))
          ≡ charging_by c n p first (charging x n first) ++ (q ∷ last)
      go (smaller j) = refl
      go (same j) = refl
      go (larger j) = refl
