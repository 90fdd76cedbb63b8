-- The charge of a label set: what stays of the tree, and that charges stay charges.
-- mapped_charged, labels_of_charged, slots_of_charged, size_of_charged: what a node gives besides its charge stays.
-- height_of_charged, balanced_charged: so do the height and the height rule.
-- charges_of_node: a tree has charges exactly where its root and its sons have. charge_of_node: so each node has.
-- charges_of_inserted, charges_of_deleted, charges_of_charged: the nodes have charges of 0 to 100 or 255 still.
use mathlib.Core.Bool.{true, ◌&&◌, and_assoc}
use mathlib.Core.List.{List, [], ◌∷◌, ◌++◌, map, map-append}
use mathlib.Core.Path.{◌≡◌, refl, sym, ◌∙◌}
use Prim.Native.Nat.{ℕ, suc, max}
use Rattle.labels.specs.Labels.{Label, Comparison, smaller, same, larger, compare_labels}
use Rattle.trees.specs.Trees.{Entry, Tree, empty, node, NodeOf, at_root, on_left_lem, on_right_lem, entries, labels}
use Rattle.trees.specs.Trees.{slots, charges, size}
use Rattle.trees.specs.Charges.{is_charge, all_charges, with_charge, charged_by, charged}
use Rattle.trees.specs.Heights.{height, is_balanced}
use Rattle.trees.specs.Searches.{absent, found, full_search}
use Rattle.trees.specs.Updates.{inserted, deleted}
use Rattle.trees.proofs.Views.{both_true}
use Rattle.trees.proofs.SetIn.{SetIn, inserted_sets_in, found_is_set_in}

module _ (x : Label) (n : ℕ) where
  module _ {A : Type 0} (f : Entry → A) (besides : (e : Entry) → f (with_charge n e) ≡ f e) where
    -- What a node gives besides its charge stays.
    pub mapped_charged : (t : Tree) → map f (entries (charged x n t)) ≡ map f (entries t)
    mapped_charged empty = refl
    mapped_charged (node l e r) = go (compare_labels x e.label) (mapped_charged l) (mapped_charged r)
      where
        go : (c : Comparison) → map f (entries (charged x n l)) ≡ map f (entries l)
            → map f (entries (charged x n r)) ≡ map f (entries r)
            → map f (entries (charged_by c n l e r (charged x n l) (charged x n r))) ≡ map f (entries (node l e r))
        go (smaller i) of_l of_r = simp map-append (rw of_l)
        go (same i) of_l of_r = simp map-append (rw (besides e))
        go (larger i) of_l of_r = simp map-append (rw of_r)

  pub labels_of_charged : (t : Tree) → labels (charged x n t) ≡ labels t
  labels_of_charged = mapped_charged (λ e. e.label) (λ e. refl)

  pub slots_of_charged : (t : Tree) → slots (charged x n t) ≡ slots t
  slots_of_charged = mapped_charged (λ e. e.slot) (λ e. refl)

  -- So do the height,
  pub height_of_charged : (t : Tree) → height (charged x n t) ≡ height t
  height_of_charged empty = refl
  height_of_charged (node l e r) = go (compare_labels x e.label) (height_of_charged l) (height_of_charged r)
    where
      go : (c : Comparison) → height (charged x n l) ≡ height l → height (charged x n r) ≡ height r
          → height (charged_by c n l e r (charged x n l) (charged x n r)) ≡ suc (max (height l) (height r))
      go (smaller i) of_l of_r = rw of_l
      go (same i) of_l of_r = refl
      go (larger i) of_l of_r = rw of_r

  -- the size,
  pub size_of_charged : (t : Tree) → size (charged x n t) ≡ size t
  size_of_charged empty = refl
  size_of_charged (node l e r) = go (compare_labels x e.label) (size_of_charged l) (size_of_charged r)
    where
      go : (c : Comparison) → size (charged x n l) ≡ size l → size (charged x n r) ≡ size r
          → size (charged_by c n l e r (charged x n l) (charged x n r)) ≡ size (node l e r)
      go (smaller i) of_l of_r = rw of_l
      go (same i) of_l of_r = refl
      go (larger i) of_l of_r = rw of_r

  -- and the height rule.
  pub balanced_charged : (t : Tree) → is_balanced (charged x n t) ≡ is_balanced t
  balanced_charged empty = refl
  balanced_charged (node l e r) = go (compare_labels x e.label) (balanced_charged l) (balanced_charged r)
    where
      go : (c : Comparison) → is_balanced (charged x n l) ≡ is_balanced l → is_balanced (charged x n r) ≡ is_balanced r
          → is_balanced (charged_by c n l e r (charged x n l) (charged x n r)) ≡ is_balanced (node l e r)
      go (smaller i) of_l of_r = rw (height_of_charged l, of_l)
      go (same i) of_l of_r = refl
      go (larger i) of_l of_r = rw (height_of_charged r, of_r)

-- ---- charges stay charges

-- the charges of a list of nodes
abbrev charges_of : List Entry → List ℕ
charges_of list = map (λ e. e.charge) list

-- The nodes of two lists have charges where those of each list do.
charges_append : (a b : List Entry)
    → all_charges (charges_of (a ++ b)) ≡ (all_charges (charges_of a) && all_charges (charges_of b))
charges_append [] b = refl
charges_append (e ∷ a) b = rw (charges_append a b) (sym (and_assoc (is_charge e.charge) _ _))

charges_split : (a b : List Entry) → all_charges (charges_of (a ++ b)) ≡ true
    → (all_charges (charges_of a) ≡ true) × (all_charges (charges_of b) ≡ true)
charges_split a b fit =
    (both_true (all_charges (charges_of a)) (all_charges (charges_of b))).0 (sym (charges_append a b) ∙ fit)

-- A tree has charges exactly where its root and its sons have.
pub charges_of_node : (l : Tree) (e : Entry) (r : Tree)
    → all_charges (charges (node l e r))
    ≡ (all_charges (charges l) && (is_charge e.charge && all_charges (charges r)))
charges_of_node l e r = charges_append (entries l) (e ∷ entries r)

-- So each node of a tree with charges has one.
pub charge_of_node : {e : Entry} {t : Tree} → NodeOf e t → all_charges (charges t) ≡ true → is_charge e.charge ≡ true
charge_of_node {e = e} (at_root {l} {r}) fit =
    ((both_true (is_charge e.charge) _).0 (charges_split (entries l) (e ∷ entries r) fit).1).0
charge_of_node (on_left_lem {l} {r} {d} there) fit = charge_of_node there (charges_split (entries l) (d ∷ entries r) fit).0
charge_of_node (on_right_lem {l} {r} {d} there) fit =
    charge_of_node there ((both_true (is_charge d.charge) _).0 (charges_split (entries l) (d ∷ entries r) fit).1).1

module _ {e : Entry} {without with : List Entry} (s : SetIn e without with) where
  -- A node set in brings its charge,
  charges_with : all_charges (charges_of without) ≡ true → is_charge e.charge ≡ true
      → all_charges (charges_of with) ≡ true
  charges_with fit own =
      let parts = charges_split s.first s.last (rw s.lacking at fit) in
      rw (s.having, charges_append s.first (e ∷ s.last), parts.0, own, parts.1)

  -- and the others have theirs where it is taken out.
  charges_without : all_charges (charges_of with) ≡ true → all_charges (charges_of without) ≡ true
  charges_without fit =
      let parts = charges_split s.first (e ∷ s.last) (rw s.having at fit) in
      let later = (both_true (is_charge e.charge) _).0 parts.1 in
      rw (s.lacking, charges_append s.first s.last, parts.0, later.1)

-- Insert of a label that is not held,
pub charges_of_inserted : (new : Entry) (t : Tree) → (full_search new.label t).result ≡ absent
    → is_charge new.charge ≡ true → all_charges (charges t) ≡ true → all_charges (charges (inserted new t)) ≡ true
charges_of_inserted new t none own fit = charges_with (inserted_sets_in new t none) fit own

-- delete of one that is,
pub charges_of_deleted : (x : Label) (t : Tree) {e : Entry} → (full_search x t).result ≡ found e
    → all_charges (charges t) ≡ true → all_charges (charges (deleted x t)) ≡ true
charges_of_deleted x t held fit = charges_without (found_is_set_in x t held) fit

-- and a charge set leave charges.
pub charges_of_charged : (x : Label) (n : ℕ) → is_charge n ≡ true → (t : Tree) → all_charges (charges t) ≡ true
    → all_charges (charges (charged x n t)) ≡ true
charges_of_charged x n own empty fit = refl
charges_of_charged x n own (node l e r) fit =
    let parts = charges_split (entries l) (e ∷ entries r) fit in
    let later = (both_true (is_charge e.charge) _).0 parts.1 in
    go (compare_labels x e.label) parts.0 later.0 later.1
    (charges_of_charged x n own l parts.0) (charges_of_charged x n own r later.1)
  where
    go : (c : Comparison) → all_charges (charges l) ≡ true → is_charge e.charge ≡ true → all_charges (charges r) ≡ true
        → all_charges (charges (charged x n l)) ≡ true → all_charges (charges (charged x n r)) ≡ true
        → all_charges (charges (charged_by c n l e r (charged x n l) (charged x n r))) ≡ true
    go (smaller i) before here after of_l of_r =
        rw (charges_append (entries (charged x n l)) (e ∷ entries r), of_l, here, after)
    go (same i) before here after of_l of_r =
        rw (charges_append (entries l) (with_charge n e ∷ entries r), before, own, after)
    go (larger i) before here after of_l of_r =
        rw (charges_append (entries l) (e ∷ entries (charged x n r)), before, here, of_r)
