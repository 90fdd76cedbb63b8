-- The labels of a represented tree are read back from its slots.
-- label_read, charge_read: so are the label and the charge of a node. labels_read: so are the labels of all
-- nodes, from left to right.
-- of_node: what is so of a node that is held in its slot is so of each node.
-- found_in_slot: the label and the charge of the node that a search finds are read back from its slot.
use mathlib.Core.List.{◌∷◌, ◌++◌, map, map-append}
use mathlib.Core.Path.{◌≡◌, refl, ap, ap₂}
use Rattle.types.specs.declared.Limits.{Limits}
use Rattle.types.specs.declared.Row.{Row}
use Rattle.labels.specs.Labels.{Label}
use Rattle.labels.specs.Neighbours.{Neighbour, held}
use Rattle.trees.specs.Trees.{Entry, Tree, empty, node, NodeOf, at_root, on_left_lem, on_right_lem, labels, slots}
use Rattle.trees.specs.Searches.{found, full_search}
use Rattle.trees.proofs.Searched.{found_node}
use Rattle.tables.specs.Written.{Memory}
use Rattle.tables.specs.MapClaims.{label_in, charge_in}
use Rattle.tables.proofs.Represents.{NodeHeld, Represents}

module _ (limits : Limits) (m : Memory) where
  -- The label of a node is read back from its slot.
  pub label_read : {p s : Neighbour} {l r : Tree} {e : Entry} → NodeHeld limits m.table m.store p l e r s
      → label_in limits m e.slot ≡ e.label
  label_read own = rw own.row own.label

  -- The labels of a represented tree are read back from its slots.
  pub labels_read : (p s : Neighbour) (t : Tree) → Represents limits m.table m.store p s t
      → map (label_in limits m) (slots t) ≡ labels t
  labels_read p s empty there = refl
  labels_read p s (node l e r) (own, of_l, of_r) =
      simp map-append
      (ap₂ ◌++◌ (labels_read p (held e.label) l of_l)
      (ap₂ ◌∷◌ (label_read own) (labels_read (held e.label) s r of_r)))

  -- So is its charge.
  pub charge_read : {p s : Neighbour} {l r : Tree} {e : Entry} → NodeHeld limits m.table m.store p l e r s
      → charge_in m e.slot ≡ e.charge
  charge_read own = ap (λ (row : Row). row.charge) own.row

  -- What is so of a node that is held in its slot is so of each node of a represented tree.
  pub of_node : (P : Entry → Type 0)
      → ((p s : Neighbour) (l r : Tree) (e : Entry) → NodeHeld limits m.table m.store p l e r s → P e)
      → {e : Entry} (p s : Neighbour) {t : Tree} → NodeOf e t → Represents limits m.table m.store p s t → P e
  of_node P so p s at_root represented = so p s _ _ _ represented.0
  of_node P so p s (on_left_lem {d = d} there) represented = of_node P so p (held d.label) there represented.1
  of_node P so p s (on_right_lem {d = d} there) represented = of_node P so (held d.label) s there represented.2

  -- The node that a search finds has its label and its charge in its slot.
  pub found_in_slot : (x : Label) (p s : Neighbour) (t : Tree) → Represents limits m.table m.store p s t
      → (e : Entry) → (full_search x t).result ≡ found e
      → (label_in limits m e.slot ≡ e.label) × (charge_in m e.slot ≡ e.charge)
  found_in_slot x p s t represented e held_so =
      of_node (λ e. (label_in limits m e.slot ≡ e.label) × (charge_in m e.slot ≡ e.charge))
      (λ p s l r e own. (label_read own, charge_read own)) p s (found_node x t held_so) represented
