-- Delete along a path.
-- delete_refines: it is the delete of the tree.
use mathlib.Core.List.{List, [], ◌∷◌}
use mathlib.Core.Path.{◌≡◌, refl}
use Prim.Native.Nat.{ℕ, ◌≤◌}
use native.Mathlib.Omega.{arith}
use lib.Dec.{leb}
use lib.ListN.{length}
use Rattle.labels.specs.Labels.{Label, Comparison, smaller, same, larger, compare_labels}
use Rattle.labels.specs.Neighbours.{Neighbour, held}
use Rattle.labels.proofs.Clashes.{clash}
use Rattle.trees.specs.Trees.{Entry, Tree, empty, node, slots, Side, left, right, other, from, on}
use Rattle.trees.specs.Heights.{height}
use Rattle.trees.specs.Searches.{found, search_by, full_search}
use Rattle.trees.specs.Updates.{deleted_by, deleted}
use Rattle.trees.proofs.Heights.{Kept}
use Rattle.trees.proofs.Sides.{sons_from}
use Rattle.trees.proofs.Balance.{shrunk_deleted}
use Rattle.trees.proofs.Sorted.{Between}
use Rattle.trees.proofs.SlotCounts.{occurrences_of_deleted, occurrences_of_node}
use Rattle.tables.specs.Written.{link_of}
use Rattle.sides.specs.Rows.{row_on}
use Rattle.turns.specs.Turns.{Turned, shrink}
use Rattle.paths.specs.Paths.{path_of, cut, delete_along}
use Rattle.rotations.proofs.Rep.{Stands, Rep, Once, Refines, flip_on, low_on, high_on, RepOn, top_on}
use Rattle.rotations.proofs.Along.{sides_by, sides_to, towards, low_to, high_to, RepHole, RepWithout}
use Rattle.rotations.proofs.Along.{place_of_next, side_of_next, right_of, DeleteRefines}
use Rattle.rotations.proofs.Bits.{flip_of_path, rest_of_path}
use Rattle.rotations.proofs.Nodes.{between_from, occurrences_from}
use Rattle.rotations.proofs.Orders.{low_by, high_by, between_with, between_deleted}
use Rattle.rotations.proofs.Levels.{near_link, shrunk_level}
use Rattle.rotations.proofs.Cuts.{cut_refines}

-- Along a path that starts with a side, the node is put in balance over that son's delete.
delete_step : (s : Side) (more : List Side) (height' : ℕ) (table : List ℕ) (c place side near : ℕ)
    → (row_on (flip_on s) table c).left ≡ near
    → let deeper = delete_along (length more) (path_of more) height' table near place side in
    delete_along (length (s ∷ more)) (path_of (s ∷ more)) height' table c place side
    ≡ shrink (flip_on s) deeper.table c deeper.top
unfolding delete_along
delete_step s more height' table c place side near link = rw (flip_of_path s more, rest_of_path s more, link)

-- At the path's end the node is taken out.
delete_here : (height' : ℕ) (table : List ℕ) (c place side : ℕ)
    → delete_along (length {A = Side} []) (path_of []) height' table c place side ≡ cut height' table c place side
unfolding delete_along
delete_here height' table c place side = refl

-- the claim of a tree in its window
abbrev Deletes : Tree → Neighbour → Neighbour → List ℕ → Label → Entry → ℕ → Type 0
Deletes t p q table x gone height' =
    (full_search x t).result ≡ found gone → Once (slots t) → RepWithout table p q x t → height t ≤ height'
    → Refines table p q (deleted x t) (leb (height t) (height (deleted x t))) (slots t)
    (delete_along (length (sides_to x t)) (path_of (sides_to x t)) height' table (link_of t)
    (place_of_next (low_to p x t) (right_of x t) (high_to q x t)) (side_of_next (low_to p x t) (right_of x t) (high_to q x t)))

-- a node from which one is to be taken out, by the comparison with its label
abbrev RepBy : Comparison → List ℕ → Neighbour → Neighbour → Label → Tree → Entry → Tree → Type 0
RepBy c table p q x l e r =
    towards c (Stands table p l e r q × RepWithout table p (held e.label) x l × Rep table (held e.label) q r)
    (Stands table p l e r q × RepHole table p q l r)
    (Stands table p l e r q × Rep table p (held e.label) l × RepWithout table (held e.label) q x r)

-- A node over its son's delete is the delete of the node.
delete_level : (s : Side) (near : Tree) (e : Entry) (far : Tree) (p q : Neighbour) (table : List ℕ) (x : Label)
    (gone : Entry) (o : Turned) → Kept (from s near e far) → Between p q (from s near e far)
    → (full_search x near).result ≡ found gone → Once (slots (from s near e far))
    → Stands table p (on s near far) e (on (other s) near far) q → RepOn (other s) table p e.label q far
    → Refines table (low_on s p e.label) (high_on s e.label q) (deleted x near)
    (leb (height near) (height (deleted x near))) (slots near) o
    → Refines table p q (top_on s (deleted x near) e far)
    (leb (height (from s near e far)) (height (top_on s (deleted x near) e far)))
    (slots (from s near e far)) (shrink (flip_on s) o.table e.slot o.top)
delete_level s near e far p q table x gone o kept order held_there once stands far_rep done =
    shrunk_level s table p q near e far (deleted x near) (slots near) (slots (from s near e far)) o
    (shrunk_deleted x near (sons_from s near e far kept).near_kept)
    (record {
      kept = kept;
      order = between_with s p q near e far (deleted x near) order
          (between_deleted x (low_on s p e.label) (high_on s e.label q) near
          (between_from s p q near e far order).near_order);
      stands = stands;
      far_rep = far_rep;
      done = done;
      once = once;
      within = λ k. omega (arith, occurrences_of_deleted x near held_there k);
      fits = λ k. omega (arith, occurrences_from s k near e far);
    })

-- At a node: by the comparison with its label, the delete goes on into one son or takes the node out.
delete_at_node : (l : Tree) (e : Entry) (r : Tree) (p q : Neighbour) (table : List ℕ) (x : Label) (gone : Entry)
    (height' : ℕ) (c : Comparison) → Kept (node l e r) → Between p q (node l e r)
    → (search_by c e (full_search x l) (full_search x r)).result ≡ found gone → Once (slots (node l e r))
    → RepBy c table p q x l e r → height (node l e r) ≤ height'
    → Deletes l p (held e.label) table x gone height' → Deletes r (held e.label) q table x gone height'
    → let sides = sides_by c (sides_to x l) (sides_to x r) in
    let after = deleted_by c l e r (deleted x l) (deleted x r) in
    let low = low_by c p (held e.label) x l r in
    let high = high_by c (held e.label) q x l r in
    let next = towards c (right_of x l) r (right_of x r) in
    Refines table p q after (leb (height (node l e r)) (height after)) (slots (node l e r))
    (delete_along (length sides) (path_of sides) height' table e.slot (place_of_next low next high)
    (side_of_next low next high))
delete_at_node l e r p q table x gone height' (smaller i) kept order there once rep fits on_left on_right =
    rw (delete_step left (sides_to x l) height' table e.slot _ _ (link_of l) (near_link left l r rep.0))
    (delete_level left l e r p q table x gone _ kept order there once rep.0 rep.2
    (on_left there (λ k. omega (arith, once k, occurrences_of_node k l e r)) rep.1 (omega arith)))
delete_at_node l e r p q table x gone height' (same i) kept order there once rep fits on_left on_right =
    rw (delete_here height' table e.slot _ _)
    (cut_refines l e r p q table height' kept order once rep.0 rep.1 (omega arith))
delete_at_node l e r p q table x gone height' (larger i) kept order there once rep fits on_left on_right =
    rw (delete_step right (sides_to x r) height' table e.slot _ _ (link_of r) (near_link right r l rep.0))
    (delete_level right r e l p q table x gone _ kept order there once rep.0 rep.1
    (on_right there (λ k. omega (arith, once k, occurrences_of_node k l e r)) rep.2 (omega arith)))

-- Delete along the path of the search is the delete of the tree.
pub delete_refines : DeleteRefines
delete_refines empty p q table x gone height' kept order there once rep fits = clash cc
delete_refines (node l e r) p q table x gone height' kept order there once rep fits =
    delete_at_node l e r p q table x gone height' (compare_labels x e.label) kept order there once rep fits
    (delete_refines l p (held e.label) table x gone height' kept.near_kept order.on_left_lem)
    (delete_refines r (held e.label) q table x gone height' kept.far_kept order.on_right_lem)
