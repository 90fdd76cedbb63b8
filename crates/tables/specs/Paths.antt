-- A node's neighbours by its path ('The prefix fields' of document 01, first sentence), beside the window that
-- `tree_row` and `true_prefixes` pass down a tree. Predecessor and successor are one definition, over the side.
use Rattle.std.specs.Prelude.{List, [], ◌∷◌, Bool, true, cond, ◌&&◌, ◌≡◌, ℕ, eqb}
use Rattle.types.specs.declared.Row.{Row}
use Rattle.labels.specs.Labels.{Label, compare_labels}
use Rattle.labels.specs.Neighbours.{Neighbour, none_below, held, none_above}
use Rattle.trees.specs.Trees.{Tree, empty, node, labels, Side, left, right}
use Rattle.trees.specs.Valid.{is_smaller, ascends}
use Rattle.tables.specs.Words.{row_at}
use Rattle.tables.specs.Prefix.{place_within, side_within}
use Rattle.tables.specs.Written.{node_row, tree_row}
use Rattle.tables.specs.Sound.{true_prefixes}

-- whether y is "smaller" than x (left), or "larger" (right)
abbrev pub is_beside : Side → (x y : Label) → Bool
is_beside left x y = is_smaller (compare_labels y x)
is_beside right x y = is_smaller (compare_labels x y)

-- the labels of a path that are smaller than x, or larger
abbrev pub beside : Side → Label → List Label → List Label
beside side x [] = []
beside side x (y ∷ path) = cond (is_beside side x y) (y ∷ beside side x path) (beside side x path)

-- no label on a side
abbrev pub none_on : Side → Neighbour
none_on left = none_below
none_on right = none_above

-- of two labels the larger (left), or the smaller (right)
abbrev pub nearer : Side → Label → Neighbour → Neighbour
nearer side y none_below = held y
nearer side y (held z) = cond (is_beside side y z) (held y) (held z)
nearer side y none_above = held y

-- "the largest" of some labels (left), or "the smallest" (right); none where there is none
abbrev pub nearest : Side → List Label → Neighbour
nearest side [] = none_on side
nearest side (y ∷ more) = nearer side y (nearest side more)

-- path: the labels above a node on its path, from its father to the root.
-- "A node's predecessor is the largest label above it on its path that is smaller than it;"
abbrev pub predecessor : (path : List Label) → Label → Neighbour
predecessor path x = nearest left (beside left x path)

-- "its successor is the smallest one above it that is larger."
abbrev pub successor : (path : List Label) → Label → Neighbour
successor path x = nearest right (beside right x path)

-- a node's window p, s is its predecessor and its successor, and so it is in both subtrees
pub record WindowIs (path : List Label) (p : Neighbour) (x : Label) (s : Neighbour) (OnLeft OnRight : Type 0)
    : Type 0 where
  pub below : p ≡ predecessor path x
  pub above : s ≡ successor path x
  pub on_left_lem : OnLeft
  pub on_right_lem : OnRight

-- at every node below a path, of a tree between p and s
abbrev pub WindowsAre : (path : List Label) → Neighbour → Neighbour → Tree → Type 0
WindowsAre path p s empty = Unit
WindowsAre path p s (node l e r) =
    WindowIs path p e.label s
    (WindowsAre (e.label ∷ path) p (held e.label) l) (WindowsAre (e.label ∷ path) (held e.label) s r)

-- `tree_row` with the neighbours of the path
abbrev pub path_row : (path : List Label) → Tree → ℕ → Row → Row
path_row path empty k otherwise = otherwise
path_row path (node l e r) k otherwise =
    cond (eqb k e.slot) (node_row (predecessor path e.label) l e r (successor path e.label))
    (path_row (e.label ∷ path) l k (path_row (e.label ∷ path) r k otherwise))

-- `true_prefixes` with the neighbours of the path
abbrev pub path_prefixes : (table : List ℕ) → (path : List Label) → Tree → Bool
path_prefixes table path empty = true
path_prefixes table path (node l e r) =
    eqb (row_at table e.slot).place
    (place_within (predecessor path e.label) e.label (successor path e.label))
    && (eqb (row_at table e.slot).side
    (side_within (predecessor path e.label) e.label (successor path e.label))
    && (path_prefixes table (e.label ∷ path) l && path_prefixes table (e.label ∷ path) r))

-- The claim: in a tree whose labels ascend, the window passed down from the root is at every node its predecessor and
-- its successor; so rows and soundness may as well be read by them.
pub record WindowIsNeighbour (t : Tree) : Type 0 where
  pub windows : WindowsAre [] none_below none_above t
  pub rows : (k : ℕ) (otherwise : Row) → tree_row none_below none_above t k otherwise ≡ path_row [] t k otherwise
  pub prefixes : (table : List ℕ) → true_prefixes table none_below none_above t ≡ path_prefixes table [] t

abbrev pub WindowsAreNeighbours : Type 0
WindowsAreNeighbours = (t : Tree) → ascends (labels t) ≡ true → WindowIsNeighbour t
