-- A tree with ascending labels holds a plain ordered map; its search, insert and delete, and a charge set in it, are
-- those of the map.
-- lookup_of_search: the full search finds what the map holds.
-- map_of_inserted, map_of_deleted, map_of_charged: insert and delete on the tree, and a charge set, are those on the
-- map.
-- keys_of_map: the map has the tree's labels.
use mathlib.Core.List.{◌∷◌, ◌++◌, map-append, map-map}
use mathlib.Core.Option.{Option, none, some}
use mathlib.Core.Path.{◌≡◌, refl, sym, ap, ◌∙◌}
use mathlib.Core.Bool.{true}
use Prim.Native.Nat.{ℕ}
use Rattle.labels.specs.Labels.{Label, Comparison, smaller, same, larger, compare_labels}
use Rattle.labels.specs.Neighbours.{Neighbour, held, none_below, none_above}
use Rattle.trees.specs.Trees.{Entry, Tree, empty, node, entries, labels}
use Rattle.trees.specs.Charges.{charged_by, charged}
use Rattle.trees.specs.Searches.{Held, absent, found, Search, search_by, full_search}
use Rattle.trees.specs.Updates.{inserted_by, inserted, deleted_by, deleted}
use Rattle.trees.specs.Map.{Pair, lookup, insertion, removal, charging, pair_of, map_of}
use Rattle.trees.specs.Valid.{is_smaller, ascends}
use Rattle.trees.proofs.Entries.{mapped_node, mapped_rebalanced, mapped_joined}
use Rattle.trees.proofs.Linked.{Linked, linked_split, linked_past, linked_of_ascends}
use Rattle.trees.proofs.MapLists.{keys, lookup_past, lookup_before, insertion_past, insertion_before}
use Rattle.trees.proofs.MapLists.{removal_past, removal_before, charging_past, charging_before}

-- the pair held
abbrev pub pair_in : Held → Option Pair
pair_in absent = none
pair_in (found e) = some (pair_of e)

-- The map has the tree's labels.
pub keys_of_map : (t : Tree) → keys (map_of t) ≡ labels t
keys_of_map t = map-map (λ p. p.label) pair_of (entries t)

-- at a node whose left son's labels are below its own, what the comparison finds says where the map goes on
module _ (l : Tree) (e : Entry) (r : Tree) {p : Neighbour} (linked : Linked p (keys (map_of l)) (held e.label)) where
  lookup_at_node : (x : Label) (on_left on_right : Search) (c : Comparison) → compare_labels x e.label ≡ c
      → pair_in on_left.result ≡ lookup x (map_of l) → pair_in on_right.result ≡ lookup x (map_of r)
      → pair_in (search_by c e on_left on_right).result ≡ lookup x (map_of l ++ (pair_of e ∷ map_of r))
  lookup_at_node x on_left on_right (smaller i) finds there elsewhere =
      there ∙ sym (lookup_before (pair_of e) (map_of r) x (map_of l) finds)
  lookup_at_node x on_left on_right (same i) finds elsewhere further =
      rw (lookup_past x (map_of l) (pair_of e ∷ map_of r) (linked_past (ap is_smaller finds) linked), finds)
  lookup_at_node x on_left on_right (larger i) finds elsewhere there =
      rw (lookup_past x (map_of l) (pair_of e ∷ map_of r) (linked_past (ap is_smaller finds) linked), finds) there

  inserted_at_node : (new : Entry) (l' r' : Tree) (c : Comparison) → compare_labels new.label e.label ≡ c
      → map_of l' ≡ insertion (pair_of new) (map_of l) → map_of r' ≡ insertion (pair_of new) (map_of r)
      → map_of (inserted_by c l e r l' r') ≡ insertion (pair_of new) (map_of l ++ (pair_of e ∷ map_of r))
  inserted_at_node new l' r' (smaller i) finds there elsewhere =
      rw (mapped_rebalanced pair_of, there) (sym (insertion_before (pair_of e) (map_of r) (pair_of new) (map_of l) finds))
  inserted_at_node new l' r' (same i) finds elsewhere further =
      rw (insertion_past (pair_of new) (map_of l) (pair_of e ∷ map_of r) (linked_past (ap is_smaller finds) linked), finds)
      (mapped_node pair_of l e r)
  inserted_at_node new l' r' (larger i) finds elsewhere there =
      rw (insertion_past (pair_of new) (map_of l) (pair_of e ∷ map_of r) (linked_past (ap is_smaller finds) linked), finds)
      (rw (mapped_rebalanced pair_of, there))

  deleted_at_node : (x : Label) (l' r' : Tree) (c : Comparison) → compare_labels x e.label ≡ c
      → map_of l' ≡ removal x (map_of l) → map_of r' ≡ removal x (map_of r)
      → map_of (deleted_by c l e r l' r') ≡ removal x (map_of l ++ (pair_of e ∷ map_of r))
  deleted_at_node x l' r' (smaller i) finds there elsewhere =
      rw (mapped_rebalanced pair_of, there) (sym (removal_before (pair_of e) (map_of r) x (map_of l) finds))
  deleted_at_node x l' r' (same i) finds elsewhere further =
      rw (removal_past x (map_of l) (pair_of e ∷ map_of r) (linked_past (ap is_smaller finds) linked), finds)
      (mapped_joined pair_of l r)
  deleted_at_node x l' r' (larger i) finds elsewhere there =
      rw (removal_past x (map_of l) (pair_of e ∷ map_of r) (linked_past (ap is_smaller finds) linked), finds)
      (rw (mapped_rebalanced pair_of, there))

  charged_at_node : (x : Label) (n : ℕ) (l' r' : Tree) (c : Comparison) → compare_labels x e.label ≡ c
      → map_of l' ≡ charging x n (map_of l) → map_of r' ≡ charging x n (map_of r)
      → map_of (charged_by c n l e r l' r') ≡ charging x n (map_of l ++ (pair_of e ∷ map_of r))
  charged_at_node x n l' r' (smaller i) finds there elsewhere =
      rw (mapped_node pair_of, there) (sym (charging_before (pair_of e) (map_of r) x n (map_of l) finds))
  charged_at_node x n l' r' (same i) finds elsewhere further =
      rw (charging_past x n (map_of l) (pair_of e ∷ map_of r) (linked_past (ap is_smaller finds) linked), finds)
      (mapped_node pair_of l _ r)
  charged_at_node x n l' r' (larger i) finds elsewhere there =
      rw (charging_past x n (map_of l) (pair_of e ∷ map_of r) (linked_past (ap is_smaller finds) linked), finds)
      (rw (mapped_node pair_of, there))

-- the map of a tree is linked from one neighbour to another
abbrev LinkedMap : Neighbour → Tree → Neighbour → Type 0
LinkedMap p t s = Linked p (keys (map_of t)) s

-- The maps of a node's sons are linked up to the node's label and from it on.
parts_of_node : {p s : Neighbour} (l : Tree) (e : Entry) (r : Tree) → LinkedMap p (node l e r) s
    → LinkedMap p l (held e.label) × LinkedMap (held e.label) r s
parts_of_node l e r linked = linked_split (keys (map_of l)) (simp map-append at linked)

lookup_of_linked : {p s : Neighbour} (x : Label) (t : Tree) → LinkedMap p t s
    → pair_in (full_search x t).result ≡ lookup x (map_of t)
lookup_of_linked x empty linked = refl
lookup_of_linked x (node l e r) linked =
    let parts = parts_of_node l e r linked in
    rw map-append (lookup_at_node l e r parts.0 x (full_search x l) (full_search x r) (compare_labels x e.label) refl
    (lookup_of_linked x l parts.0) (lookup_of_linked x r parts.1))

inserted_of_linked : {p s : Neighbour} (new : Entry) (t : Tree) → LinkedMap p t s
    → map_of (inserted new t) ≡ insertion (pair_of new) (map_of t)
inserted_of_linked new empty linked = refl
inserted_of_linked new (node l e r) linked =
    let parts = parts_of_node l e r linked in
    rw (mapped_node pair_of l e r) (inserted_at_node l e r parts.0 new (inserted new l) (inserted new r)
    (compare_labels new.label e.label) refl
    (inserted_of_linked new l parts.0) (inserted_of_linked new r parts.1))

deleted_of_linked : {p s : Neighbour} (x : Label) (t : Tree) → LinkedMap p t s
    → map_of (deleted x t) ≡ removal x (map_of t)
deleted_of_linked x empty linked = refl
deleted_of_linked x (node l e r) linked =
    let parts = parts_of_node l e r linked in
    rw (mapped_node pair_of l e r) (deleted_at_node l e r parts.0 x (deleted x l) (deleted x r)
    (compare_labels x e.label) refl (deleted_of_linked x l parts.0) (deleted_of_linked x r parts.1))

charged_of_linked : {p s : Neighbour} (x : Label) (n : ℕ) (t : Tree) → LinkedMap p t s
    → map_of (charged x n t) ≡ charging x n (map_of t)
charged_of_linked x n empty linked = refl
charged_of_linked x n (node l e r) linked =
    let parts = parts_of_node l e r linked in
    rw (mapped_node pair_of l e r) (charged_at_node l e r parts.0 x n (charged x n l) (charged x n r)
    (compare_labels x e.label) refl (charged_of_linked x n l parts.0) (charged_of_linked x n r parts.1))

module _ (t : Tree) (ascending : ascends (labels t) ≡ true) where
  map_linked : LinkedMap none_below t none_above
  map_linked = rw keys_of_map (linked_of_ascends (labels t) ascending)

  -- The full search finds what the map holds.
  pub lookup_of_search : (x : Label) → pair_in (full_search x t).result ≡ lookup x (map_of t)
  lookup_of_search x = lookup_of_linked x t map_linked

  -- Insert on the tree is insertion on the map.
  pub map_of_inserted : (new : Entry) → map_of (inserted new t) ≡ insertion (pair_of new) (map_of t)
  map_of_inserted new = inserted_of_linked new t map_linked

  -- Delete on the tree is removal on the map.
  pub map_of_deleted : (x : Label) → map_of (deleted x t) ≡ removal x (map_of t)
  map_of_deleted x = deleted_of_linked x t map_linked

  -- A charge set in the tree is set in the map.
  pub map_of_charged : (x : Label) (n : ℕ) → map_of (charged x n t) ≡ charging x n (map_of t)
  map_of_charged x n = charged_of_linked x n t map_linked
