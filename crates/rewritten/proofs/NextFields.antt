-- Delete along a path, with the fields that were found for the node that takes the found one's place.
-- fields_along: it is delete with that node's fields, as they do not matter where the found node has no left son.
use mathlib.Core.List.{List, [], ◌∷◌}
use mathlib.Core.Path.{◌≡◌}
use Prim.Native.Nat.{ℕ}
use lib.ListN.{length}
use Rattle.labels.specs.Labels.{Label, Comparison, smaller, same, larger, compare_labels}
use Rattle.labels.specs.Neighbours.{Neighbour, held}
use Rattle.labels.proofs.Clashes.{clash}
use Rattle.trees.specs.Trees.{Entry, Tree, empty, node, Side, left, right}
use Rattle.trees.specs.Searches.{found, search_by, full_search}
use Rattle.tables.specs.Words.{row_at}
use Rattle.tables.specs.Written.{link_of}
use Rattle.sides.specs.Rows.{row_on}
use Rattle.paths.specs.Paths.{path_of, cut, delete_along}
use Rattle.rotations.proofs.Rep.{Stands, flip_on}
use Rattle.rotations.proofs.Along.{sides_by, sides_to, towards, RepWithout, place_of_next, side_of_next, right_of}
use Rattle.rotations.proofs.Bits.{flip_of_path, rest_of_path}
use Rattle.rotations.proofs.Levels.{near_link}
use Rattle.sides.specs.declared.Fields.{Fields}
use Rattle.rewritten.proofs.Around.{FieldsFor}
use Rattle.rewritten.proofs.Readied.{left_of, RepBy}

-- Along a path that starts with a side, the fields matter as they do on the rest of the path.
fields_on_side : (s : Side) (more : List Side) (height' : ℕ) (table : List ℕ) (c near place side place' side' : ℕ)
    → (row_on (flip_on s) table c).left ≡ near
    → delete_along (length more) (path_of more) height' table near place side
    ≡ delete_along (length more) (path_of more) height' table near place' side'
    → delete_along (length (s ∷ more)) (path_of (s ∷ more)) height' table c place side
    ≡ delete_along (length (s ∷ more)) (path_of (s ∷ more)) height' table c place' side'
unfolding delete_along
fields_on_side s more height' table c near place side place' side' link equal =
    rw (flip_of_path s more, rest_of_path s more, link, equal)

module _ (x : Label) (gone : Entry) (height' : ℕ) (table : List ℕ) (low high : Neighbour) (fields : Fields) where
  -- delete along a path with the fields is delete with those of the next node, before the tree next
  abbrev Equal : List Side → ℕ → Tree → Type 0
  Equal sides c next =
      delete_along (length sides) (path_of sides) height' table c fields.place fields.side
      ≡ delete_along (length sides) (path_of sides) height' table c (place_of_next low next high) (side_of_next low next high)

  -- At the path's end: without a left son the fields do not matter.
  fields_here : (l : Tree) (e : Entry) (r : Tree) (p q : Neighbour) → Stands table p l e r q
      → FieldsFor low l r high fields → Equal [] e.slot r
  unfolding delete_along cut
  fields_here empty e r p q stands next =
      let none : (row_at table e.slot).left ≡ 0 = λ i. (stands.row i).left in rw none
  fields_here (node a y a') e r p q stands next = rw next

  -- At a node: by the comparison with its label.
  fields_at_node : (l : Tree) (e : Entry) (r : Tree) (p q : Neighbour) (c : Comparison)
      → (search_by c e (full_search x l) (full_search x r)).result ≡ found gone → RepBy c table p q x l e r
      → FieldsFor low (towards c (left_of x l) l (left_of x r)) (towards c (right_of x l) r (right_of x r)) high fields
      → ((full_search x l).result ≡ found gone → RepWithout table p (held e.label) x l
      → FieldsFor low (left_of x l) (right_of x l) high fields → Equal (sides_to x l) (link_of l) (right_of x l))
      → ((full_search x r).result ≡ found gone → RepWithout table (held e.label) q x r
      → FieldsFor low (left_of x r) (right_of x r) high fields → Equal (sides_to x r) (link_of r) (right_of x r))
      → Equal (sides_by c (sides_to x l) (sides_to x r)) e.slot (towards c (right_of x l) r (right_of x r))
  fields_at_node l e r p q (smaller i) there rep next on_left on_right =
      fields_on_side left (sides_to x l) height' table e.slot (link_of l) _ _ _ _ (near_link left l r rep.0)
      (on_left there rep.1 next)
  fields_at_node l e r p q (same i) there rep next on_left on_right = fields_here l e r p q rep.0 next
  fields_at_node l e r p q (larger i) there rep next on_left on_right =
      fields_on_side right (sides_to x r) height' table e.slot (link_of r) _ _ _ _ (near_link right r l rep.0)
      (on_right there rep.2 next)

  -- Delete along the path of the search, with the fields or with those of the next node.
  pub fields_along : (t : Tree) (p q : Neighbour) → (full_search x t).result ≡ found gone → RepWithout table p q x t
      → FieldsFor low (left_of x t) (right_of x t) high fields → Equal (sides_to x t) (link_of t) (right_of x t)
  fields_along empty p q there rep next = clash cc
  fields_along (node l e r) p q there rep next =
      fields_at_node l e r p q (compare_labels x e.label) there rep next (fields_along l p (held e.label))
      (fields_along r (held e.label) q)
