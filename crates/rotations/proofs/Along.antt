-- The way of a full search through a tree, and what updates along it need of the table.
-- `sides_to`: the sides that the search takes. `low_to`, `high_to`: the window at its end.
-- `RepLeast`, `RepHole`, `RepWithout`: a tree in the rows whose fields are already those that hold once a node is out.
-- `InsertRefines`, `DeleteRefines`: updates along the path are the updates of the tree.
use mathlib.Core.List.{List, [], ◌∷◌}
use mathlib.Core.Path.{◌≡◌}
use Prim.Native.Nat.{ℕ, ◌≤◌}
use lib.Dec.{ltb, leb}
use lib.ListN.{length}
use Rattle.labels.specs.Labels.{Label, Comparison, smaller, same, larger, compare_labels}
use Rattle.labels.specs.Neighbours.{Neighbour, held}
use Rattle.labels.proofs.Difference.{Before}
use Rattle.trees.specs.Trees.{Entry, Tree, empty, node, slots, Side, left, right}
use Rattle.trees.specs.Heights.{height}
use Rattle.trees.specs.Searches.{absent, found, full_search}
use Rattle.trees.specs.Updates.{inserted, without_least, deleted}
use Rattle.trees.proofs.Heights.{Kept}
use Rattle.trees.proofs.Sorted.{Between}
use Rattle.tables.specs.Words.{row_at}
use Rattle.tables.specs.Prefix.{side_within}
use Rattle.tables.specs.Written.{link_of}
use Rattle.words.specs.Rows.{HasRow}
use Rattle.paths.specs.Paths.{path_of, insert_along, delete_along}
use Rattle.rotations.proofs.Rep.{bare_within, Stands, Rep, Once, Refines}

abbrev pub sides_by : Comparison → List Side → List Side → List Side
sides_by (smaller i) on_left on_right = left ∷ on_left
sides_by (same i) on_left on_right = []
sides_by (larger i) on_left on_right = right ∷ on_right

abbrev pub sides_to : Label → Tree → List Side
sides_to x empty = []
sides_to x (node l e r) = sides_by (compare_labels x e.label) (sides_to x l) (sides_to x r)

abbrev pub towards {ℓ} : {A : Type ℓ} → Comparison → (on_left here on_right : A) → A
towards (smaller i) on_left here on_right = on_left
towards (same i) on_left here on_right = here
towards (larger i) on_left here on_right = on_right

-- the nearest label below the search's end, starting from p
abbrev pub low_to : Neighbour → Label → Tree → Neighbour
low_to p x empty = p
low_to p x (node l e r) = towards (compare_labels x e.label) (low_to p x l) p (low_to (held e.label) x r)

-- the nearest label above it, starting from q
abbrev pub high_to : Neighbour → Label → Tree → Neighbour
high_to q x empty = q
high_to q x (node l e r) = towards (compare_labels x e.label) (high_to (held e.label) x l) q (high_to q x r)

-- ---- a tree whose smallest node m is to be taken out and put above it: every other node's fields are those with m as
-- its neighbour below

abbrev pub RepLeast : List ℕ → Neighbour → Neighbour → Tree → Type 0
RepLeast table m q empty = Unit {0}
RepLeast table m q (node empty e r) =
    HasRow table e.slot × ((row_at table e.slot).left ≡ 0) × ((row_at table e.slot).right ≡ link_of r)
    × ((row_at table e.slot).len ≡ length e.label) × ((row_at table e.slot).value ≡ e.value)
    × ((row_at table e.slot).charge ≡ e.charge) × Rep table (held e.label) q r
RepLeast table m q (node (node a d b) e r) =
    Stands table m (node a d b) e r q × RepLeast table m (held e.label) (node a d b)
    × Rep table (held e.label) q r

-- the subtrees of a node between p and q that is to be taken out
abbrev pub RepHole : List ℕ → Neighbour → Neighbour → Tree → Tree → Type 0
RepHole table p q l empty = Rep table p q l
RepHole table p q empty (node b d c) = Rep table p q (node b d c)
RepHole table p q (node a e a') (node b d c) =
    Rep table p (held (without_least b d c).least.label) (node a e a')
    × RepLeast table (held (without_least b d c).least.label) q (node b d c)

-- the tree between p and q from which the node found for x is to be taken out
abbrev pub RepWithout : List ℕ → Neighbour → Neighbour → Label → Tree → Type 0
RepWithout table p q x empty = Unit {0}
RepWithout table p q x (node l e r) =
    towards (compare_labels x e.label)
    (Stands table p l e r q × RepWithout table p (held e.label) x l × Rep table (held e.label) q r)
    (Stands table p l e r q × RepHole table p q l r)
    (Stands table p l e r q × Rep table p (held e.label) l × RepWithout table (held e.label) q x r)

-- The claim for `insert_along`: the new leaf's row stands already.
abbrev pub InsertRefines : Type 0
InsertRefines =
    (t : Tree) (p q : Neighbour) (table : List ℕ) (new : Entry) → Kept t → Between p q t
    → Before p (held new.label) → Before (held new.label) q → (full_search new.label t).result ≡ absent
    → Once (new.slot ∷ slots t) → Rep table p q t
    → Stands table (low_to p new.label t) empty new empty (high_to q new.label t)
    → Refines table p q (inserted new t) (ltb (height t) (height (inserted new t))) (new.slot ∷ slots t)
    (insert_along (length (sides_to new.label t)) (path_of (sides_to new.label t)) table (link_of t) new.slot)

-- The fields of the node that takes the place of a node with these sons, between p and q.
abbrev pub place_of_next : Neighbour → Tree → Neighbour → ℕ
place_of_next p empty q = 0
place_of_next p (node b d c) q = bare_within p (without_least b d c).least.label q

abbrev pub side_of_next : Neighbour → Tree → Neighbour → ℕ
side_of_next p empty q = 0
side_of_next p (node b d c) q = side_within p (without_least b d c).least.label q

-- the right subtree of the node found for x
abbrev pub right_of : Label → Tree → Tree
right_of x empty = empty
right_of x (node l e r) = towards (compare_labels x e.label) (right_of x l) r (right_of x r)

-- The claim for `delete_along`: the fields of the nodes that lose a neighbour are renewed already.
abbrev pub DeleteRefines : Type 0
DeleteRefines =
    (t : Tree) (p q : Neighbour) (table : List ℕ) (x : Label) (e : Entry) (height' : ℕ) → Kept t → Between p q t
    → (full_search x t).result ≡ found e → Once (slots t) → RepWithout table p q x t → height t ≤ height'
    → Refines table p q (deleted x t) (leb (height t) (height (deleted x t))) (slots t)
    (delete_along (length (sides_to x t)) (path_of (sides_to x t)) height' table (link_of t)
    (place_of_next (low_to p x t) (right_of x t) (high_to q x t)) (side_of_next (low_to p x t) (right_of x t) (high_to q x t)))
