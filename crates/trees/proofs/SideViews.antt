-- Labels, the nodes of a tree, and the way of a full search, seen from a side.
-- stands_trans, stands_apart: to stand on a side is transitive, and never so both ways.
-- node_of_son: a node of a son is a node of the tree.
-- lies_on: a node is the root, or is in the son on a side, or is in the other son.
-- way_of_search: at each node the full search ends, or goes on to a side, or passes the node on that side of the label.
-- node_of_way: the node passed last is a node of the tree and stands on that side of the label.
use mathlib.Core.Option.{Option, none, some}
use mathlib.Core.Path.{◌≡◌}
use mathlib.Core.Bool.{true}
use Prim.Native.Nat.{ℕ}
use Rattle.labels.specs.Labels.{Label, SmallerAt, Comparison, compare_labels, Finds, is_smaller_lem, is_same, is_larger}
use Rattle.labels.proofs.Order.{below_asymmetric}
use Rattle.labels.proofs.Compare.{compares_by_places}
use Rattle.labels.proofs.Results.{compare_is}
use Rattle.labels.proofs.Difference.{before_trans}
use Rattle.trees.specs.Trees.{Entry, Tree, empty, node, NodeOf, at_root, on_left_lem, on_right_lem}
use Rattle.trees.specs.Trees.{Side, left, right, other, on}
use Rattle.trees.specs.Searches.{Held, absent, found, Search, search_by, full_search, last}
use Rattle.trees.specs.Map.{StandsOn}
use Rattle.trees.specs.Valid.{is_smaller}
use Rattle.trees.proofs.Linked.{before_of_smaller, smaller_of_before}

-- ---- labels

-- What is smaller than a label is smaller than all that the label is smaller than.
smaller_trans : (x y z : Label) → StandsOn left x y → StandsOn left y z → StandsOn left x z
smaller_trans x y z first second =
    smaller_of_before (before_trans (before_of_smaller x y first) (before_of_smaller y z second))

-- What stands on a side of a label stands on that side of all that the label does.
pub stands_trans : (side : Side) (x y z : Label) → StandsOn side x y → StandsOn side y z → StandsOn side x z
stands_trans left x y z first second = smaller_trans x y z first second
stands_trans right x y z first second = smaller_trans z y x second first

-- Of two labels at most one stands on a side of the other.
pub stands_apart : (side : Side) (x y : Label) → StandsOn side x y → StandsOn side y x → ⊥
stands_apart left x y there back = below_asymmetric (before_of_smaller x y there) (before_of_smaller y x back)
stands_apart right x y there back = below_asymmetric (before_of_smaller y x there) (before_of_smaller x y back)

-- ---- nodes

-- A node of a son is a node of the tree.
pub node_of_son : (side : Side) (l r : Tree) {e d : Entry} → NodeOf d (on side l r) → NodeOf d (node l e r)
node_of_son left l r there = on_left_lem there
node_of_son right l r there = on_right_lem there

-- a node is the root, or is in the son on a side, or is in the other son
pub data Lies (side : Side) (l : Tree) (e : Entry) (r : Tree) : Entry → Type 0 where
  here : Lies side l e r e
  near : {d : Entry} → NodeOf d (on side l r) → Lies side l e r d
  far : {d : Entry} → NodeOf d (on (other side) l r) → Lies side l e r d

-- So each node of a tree lies, whatever the side.
pub lies_on : (side : Side) {l r : Tree} {e d : Entry} → NodeOf d (node l e r) → Lies side l e r d
lies_on side at_root = here
lies_on left (on_left_lem there) = near there
lies_on left (on_right_lem there) = far there
lies_on right (on_left_lem there) = far there
lies_on right (on_right_lem there) = near there

-- ---- searches

-- the node that a search passes last on a side of the label sought
abbrev pub nearest_on : Side → Search → Option Entry
nearest_on left s = s.below
nearest_on right s = s.above

-- the way of a search for x, with what it finds and the node that it passes last on a side of x: at a node it ends, or
-- goes on to that side of the node, or passes the node, which is the last such one or not
pub data Way (side : Side) (x : Label) : Tree → Held → Option Entry → Type 0 where
  no_node : Way side x empty absent none
  ends : {l r : Tree} {e : Entry} → Way side x (node l e r) (found e) none
  nears : {l r : Tree} {e : Entry} {h : Held} {o : Option Entry} → StandsOn side x e.label
      → Way side x (on side l r) h o → Way side x (node l e r) h o
  passes_last : {l r : Tree} {e : Entry} {h : Held} → StandsOn side e.label x
      → Way side x (on (other side) l r) h none → Way side x (node l e r) h (some e)
  passes : {l r : Tree} {e later : Entry} {h : Held} → StandsOn side e.label x
      → Way side x (on (other side) l r) h (some later) → Way side x (node l e r) h (some later)

-- the way that gives a search's result and its nearest node
abbrev WayOf : Side → Label → Tree → Search → Type 0
WayOf side x t s = Way side x t s.result (nearest_on side s)

-- Past a node, the node passed last is that one or a later one.
passes_on : {side : Side} {x : Label} {l r : Tree} (e : Entry) {h : Held} (later : Option Entry)
    → StandsOn side e.label x → Way side x (on (other side) l r) h later → Way side x (node l e r) h (last e later)
passes_on e none stands way = passes_last stands way
passes_on e (some later) stands way = passes stands way

-- A label that is smaller by its places tests smaller.
smaller_of_places : {x y : Label} {i : ℕ} → SmallerAt x y i → is_smaller (compare_labels x y) ≡ true
smaller_of_places there = rw (compare_is (is_smaller_lem there))

-- The full search goes such a way.
pub way_of_search : (side : Side) (x : Label) (t : Tree) → WayOf side x t (full_search x t)
way_of_search left x empty = no_node
way_of_search right x empty = no_node
way_of_search side x (node l e r) =
    go side (compares_by_places x e.label) (way_of_search side x l) (way_of_search side x r)
  where
    go : (side : Side) {c : Comparison} → Finds x e.label c → WayOf side x l (full_search x l)
        → WayOf side x r (full_search x r) → WayOf side x (node l e r) (search_by c e (full_search x l) (full_search x r))
    go left (is_smaller_lem there) on_left on_right = nears (smaller_of_places there) on_left
    go left (is_same alike end) on_left on_right = ends
    go left (is_larger there) on_left on_right = passes_on e _ (smaller_of_places there) on_right
    go right (is_smaller_lem there) on_left on_right = passes_on e _ (smaller_of_places there) on_left
    go right (is_same alike end) on_left on_right = ends
    go right (is_larger there) on_left on_right = nears (smaller_of_places there) on_right

-- The node passed last is a node of the tree and stands on that side of the label sought.
pub node_of_way : {side : Side} {x : Label} {t : Tree} {h : Held} {e : Entry} → Way side x t h (some e)
    → NodeOf e t × StandsOn side e.label x
node_of_way {side} (nears {l} {r} stands way) =
    let within = node_of_way way in
    (node_of_son side l r within.0, within.1)
node_of_way (passes_last stands way) = (at_root, stands)
node_of_way {side} (passes {l} {r} stands way) =
    let within = node_of_way way in
    (node_of_son (other side) l r within.0, within.1)
