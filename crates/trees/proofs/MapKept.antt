-- What insert and delete keep of the labels: their order and their lengths.
-- Fits: each label has a length from 1 to width; fits_of_test, test_of_fits: that is the test.
-- labels_of_inserted, labels_of_deleted: the labels are those of the map with the pair set in, or taken out.
-- ascends_of_inserted, ascends_of_deleted: the labels still ascend.
-- fits_of_inserted, fits_of_deleted: the labels' lengths still fit.
use mathlib.Core.List.{List, [], ◌∷◌}
use mathlib.Core.Path.{◌≡◌, refl}
use mathlib.Core.Bool.{true, ◌&&◌}
use Prim.Native.Nat.{ℕ, ◌≤◌}
use lib.Dec.{leb}
use lib.ListN.{length}
use borrow.Author.Tests.{leb-true, le-leb}
use Rattle.labels.specs.Labels.{Label, Comparison, smaller, same, larger, compare_labels}
use Rattle.labels.specs.Labels.{Finds, is_smaller_lem, is_same, is_larger}
use Rattle.labels.specs.Neighbours.{Neighbour, held, none_below, none_above}
use Rattle.labels.proofs.Order.{below_of_smaller, none_below_held, held_none_above}
use Rattle.labels.proofs.Compare.{compares_by_places}
use Rattle.labels.proofs.Difference.{Before, below_is_before}
use Rattle.trees.specs.Trees.{Entry, Tree, labels}
use Rattle.trees.specs.Updates.{inserted, deleted}
use Rattle.trees.specs.Map.{Pair, insertion_by, insertion, removal_by, removal, pair_of, map_of}
use Rattle.trees.specs.Valid.{ascends, lengths_fit}
use Rattle.trees.proofs.Views.{both_true}
use Rattle.trees.proofs.Linked.{Linked, linked_end, linked_step, linked_lower}
use Rattle.trees.proofs.Linked.{linked_of_ascends, ascends_of_linked}
use Rattle.trees.proofs.MapLists.{keys}
use Rattle.trees.proofs.MapLaws.{keys_of_map, map_of_inserted, map_of_deleted}

-- each label has a length from 1 to width
pub data Fits (width : ℕ) : List Label → Type 0 where
  fits_none : Fits width []
  fits_more : {x : Label} {more : List Label}
      → 1 ≤ length x → length x ≤ width → Fits width more → Fits width (x ∷ more)

-- The test of the lengths says so.
pub fits_of_test : (width : ℕ) (list : List Label) → lengths_fit width list ≡ true → Fits width list
fits_of_test width [] passed = fits_none
fits_of_test width (x ∷ list) passed =
    let parts = (both_true (leb 1 (length x)) (leb (length x) width && lengths_fit width list)).0 passed in
    let others = (both_true (leb (length x) width) (lengths_fit width list)).0 parts.1 in
    fits_more (leb-true 1 (length x) parts.0) (leb-true (length x) width others.0)
    (fits_of_test width list others.1)

pub test_of_fits : {width : ℕ} {list : List Label} → Fits width list → lengths_fit width list ≡ true
test_of_fits fits_none = refl
test_of_fits {width} (fits_more {x} long short rest) =
    rw (le-leb 1 (length x) long, le-leb (length x) width short) (test_of_fits rest)

-- A pair set in between the ends of a linked list leaves it linked.
linked_of_insertion : {p s : Neighbour} (new : Pair) (list : List Pair)
    → Before p (held new.label) → Before (held new.label) s
    → Linked p (keys list) s → Linked p (keys (insertion new list)) s
linked_of_insertion new [] above below linked = linked_step above (linked_end below)
linked_of_insertion {p} {s} new (q ∷ list) above below (linked_step before rest) =
    go (compares_by_places new.label q.label) (λ higher. linked_of_insertion new list higher below rest)
  where
    go : {c : Comparison} → Finds new.label q.label c
        → (Before (held q.label) (held new.label) → Linked (held q.label) (keys (insertion new list)) s)
        → Linked p (keys (insertion_by c new q list (insertion new list))) s
    go (is_smaller_lem there) further = linked_step above (linked_step (below_is_before (below_of_smaller there)) rest)
    go (is_same alike end) further = linked_step before rest
    go (is_larger there) further = linked_step before (further (below_is_before (below_of_smaller there)))

-- A linked list stays linked where a pair is removed.
linked_of_removal : {p s : Neighbour} (x : Label) (list : List Pair)
    → Linked p (keys list) s → Linked p (keys (removal x list)) s
linked_of_removal x [] linked = linked
linked_of_removal {p} {s} x (q ∷ list) (linked_step before rest) =
    go (compare_labels x q.label) (linked_of_removal x list rest)
  where
    go : (c : Comparison) → Linked (held q.label) (keys (removal x list)) s
        → Linked p (keys (removal_by c q list (removal x list))) s
    go (smaller i) further = linked_step before rest
    go (same i) further = linked_lower before rest
    go (larger i) further = linked_step before further

-- A label that fits may be set in.
fits_of_insertion : {width : ℕ} (new : Pair) (list : List Pair) → 1 ≤ length new.label → length new.label ≤ width
    → Fits width (keys list) → Fits width (keys (insertion new list))
fits_of_insertion new [] long short fits = fits_more long short fits
fits_of_insertion {width} new (q ∷ list) long short (fits_more longQ shortQ rest) =
    go (compare_labels new.label q.label) (fits_of_insertion new list long short rest)
  where
    go : (c : Comparison) → Fits width (keys (insertion new list))
        → Fits width (keys (insertion_by c new q list (insertion new list)))
    go (smaller i) further = fits_more long short (fits_more longQ shortQ rest)
    go (same i) further = fits_more longQ shortQ rest
    go (larger i) further = fits_more longQ shortQ further

fits_of_removal : {width : ℕ} (x : Label) (list : List Pair)
    → Fits width (keys list) → Fits width (keys (removal x list))
fits_of_removal x [] fits = fits
fits_of_removal {width} x (q ∷ list) (fits_more long short rest) =
    go (compare_labels x q.label) (fits_of_removal x list rest)
  where
    go : (c : Comparison) → Fits width (keys (removal x list)) → Fits width (keys (removal_by c q list (removal x list)))
    go (smaller i) further = fits_more long short rest
    go (same i) further = rest
    go (larger i) further = fits_more long short further

module _ (t : Tree) (ascending : ascends (labels t) ≡ true) where
  -- Insert leaves the map's labels as insertion does, delete as removal does.
  pub labels_of_inserted : (new : Entry) → labels (inserted new t) ≡ keys (insertion (pair_of new) (map_of t))
  labels_of_inserted new = rw (← keys_of_map, map_of_inserted t ascending new)

  pub labels_of_deleted : (x : Label) → labels (deleted x t) ≡ keys (removal x (map_of t))
  labels_of_deleted x = rw (← keys_of_map, map_of_deleted t ascending x)

  -- The labels still ascend.
  pub ascends_of_inserted : (new : Entry) → ascends (labels (inserted new t)) ≡ true
  ascends_of_inserted new =
      rw (labels_of_inserted new) (ascends_of_linked (linked_of_insertion (pair_of new) (map_of t)
      (below_is_before (none_below_held new.label)) (below_is_before (held_none_above new.label))
      (rw keys_of_map (linked_of_ascends (labels t) ascending))))

  pub ascends_of_deleted : (x : Label) → ascends (labels (deleted x t)) ≡ true
  ascends_of_deleted x =
      rw (labels_of_deleted x) (ascends_of_linked (linked_of_removal {p = none_below} {s = none_above} x (map_of t)
      (rw keys_of_map (linked_of_ascends (labels t) ascending))))

  module _ (width : ℕ) (fitting : lengths_fit width (labels t) ≡ true) where
    map_fits : Fits width (keys (map_of t))
    map_fits = rw keys_of_map (fits_of_test width (labels t) fitting)

    -- The labels' lengths still fit.
    pub fits_of_inserted : (new : Entry) → 1 ≤ length new.label → length new.label ≤ width
        → lengths_fit width (labels (inserted new t)) ≡ true
    fits_of_inserted new long short =
        rw (labels_of_inserted new) (test_of_fits (fits_of_insertion (pair_of new) (map_of t) long short map_fits))

    pub fits_of_deleted : (x : Label) → lengths_fit width (labels (deleted x t)) ≡ true
    fits_of_deleted x = rw (labels_of_deleted x) (test_of_fits (fits_of_removal x (map_of t) map_fits))
