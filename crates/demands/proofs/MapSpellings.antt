-- The plain ordered map, and a label that it holds in this or another spelling.
-- lookup_alike: what is held under a label is alike to it.
-- lookup_removed, removal_shorter: a label that is removed is not held, and one pair less is.
-- lookup_inserted: a label that is inserted is held, as it was spelled.
use mathlib.Core.Bool.{true}
use mathlib.Core.List.{List, [], ◌∷◌}
use mathlib.Core.Option.{none, some}
use mathlib.Core.Path.{◌≡◌, refl, ap}
use Prim.Native.Nat.{suc}
use lib.ListN.{length}
use Rattle.labels.specs.Labels.{Label, Alike, Comparison, smaller, same, larger, compare_labels}
use Rattle.labels.proofs.Alike.{alike_refl}
use Rattle.labels.proofs.Clashes.{clash}
use Rattle.labels.proofs.Results.{alike_when_same, compare_same}
use Rattle.labels.proofs.Spellings.{compare_alike}
use Rattle.trees.specs.Map.{Pair, lookup_by, lookup, insertion_by, insertion, removal_by, removal}
use Rattle.trees.specs.Valid.{is_smaller, below_first, ascends}
use Rattle.trees.proofs.MapLists.{keys}
use Rattle.trees.proofs.Views.{both_true}

-- What is held under a label is alike to it.
pub lookup_alike : (x : Label) (m : List Pair) (p : Pair) → lookup x m ≡ some p → Alike x p.label
lookup_alike x [] p held = clash cc
lookup_alike x (q ∷ more) p held =
    go (compare_labels x q.label) refl held (lookup_alike x more p)
  where
    go : (c : Comparison) → compare_labels x q.label ≡ c → lookup_by c q (lookup x more) ≡ some p
        → (lookup x more ≡ some p → Alike x p.label) → Alike x p.label
    go (smaller i) finds held further = clash cc
    go (same i) finds held further = let here : q ≡ p = cc in rw here at (alike_when_same finds)
    go (larger i) finds held further = further held

-- A label that is removed is not held: those after it are larger.
lookup_after : (x : Label) (q : Pair) (more : List Pair) → Alike x q.label → below_first q.label (keys more) ≡ true
    → lookup x more ≡ none
lookup_after x q [] alike below = refl
lookup_after x q (p ∷ more) alike below =
    rw (compare_alike alike p.label) (go (compare_labels q.label p.label) below)
  where
    go : (c : Comparison) → is_smaller c ≡ true → lookup_by c p (lookup x more) ≡ none
    go (smaller i) less = refl
    go (same i) less = clash cc
    go (larger i) less = clash cc

pub lookup_removed : (x : Label) (m : List Pair) → ascends (keys m) ≡ true → lookup x (removal x m) ≡ none
lookup_removed x [] ascending = refl
lookup_removed x (q ∷ more) ascending =
    let (below, rest) = (both_true _ _).0 ascending in
    go (compare_labels x q.label) refl below (lookup_removed x more rest)
  where
    go : (c : Comparison) → compare_labels x q.label ≡ c → below_first q.label (keys more) ≡ true
        → lookup x (removal x more) ≡ none → lookup x (removal_by c q more (removal x more)) ≡ none
    go (smaller i) finds below further = rw finds
    go (same i) finds below further = lookup_after x q more (alike_when_same finds) below
    go (larger i) finds below further = rw finds further

-- One pair less is held.
pub removal_shorter : (x : Label) (m : List Pair) (p : Pair) → lookup x m ≡ some p
    → suc (length (removal x m)) ≡ length m
removal_shorter x [] p held = clash cc
removal_shorter x (q ∷ more) p held = go (compare_labels x q.label) held (removal_shorter x more p)
  where
    go : (c : Comparison) → lookup_by c q (lookup x more) ≡ some p
        → (lookup x more ≡ some p → suc (length (removal x more)) ≡ length more)
        → suc (length (removal_by c q more (removal x more))) ≡ suc (length more)
    go (smaller i) held further = clash cc
    go (same i) held further = refl
    go (larger i) held further = ap suc (further held)

-- A label that is inserted is held, as it was spelled.
pub lookup_inserted : (new : Pair) (m : List Pair) → lookup new.label m ≡ none
    → lookup new.label (insertion new m) ≡ some new
lookup_inserted new [] missing = rw (compare_same (alike_refl new.label))
lookup_inserted new (q ∷ more) missing =
    go (compare_labels new.label q.label) refl missing (lookup_inserted new more)
  where
    go : (c : Comparison) → compare_labels new.label q.label ≡ c
        → lookup_by c q (lookup new.label more) ≡ none
        → (lookup new.label more ≡ none → lookup new.label (insertion new more) ≡ some new)
        → lookup new.label (insertion_by c new q more (insertion new more)) ≡ some new
    go (smaller i) finds missing further = rw (compare_same (alike_refl new.label))
    go (same i) finds missing further = clash cc
    go (larger i) finds missing further = rw finds (further missing)
