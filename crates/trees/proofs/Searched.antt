-- What a full search finds.
-- found_alike: the node that a search found has a label alike to the one sought.
-- found_node: it is a node of the tree.
-- node_between: a node of an ordered tree lies within the tree's window.
-- node_found: a search of an ordered tree for a label alike to that of one of its nodes finds that node.
use mathlib.Core.Path.{◌≡◌}
use Rattle.labels.specs.Labels.{Label, Alike, Comparison, smaller, same, larger, compare_labels}
use Rattle.labels.specs.Labels.{Finds, is_smaller_lem, is_same, is_larger}
use Rattle.labels.specs.Neighbours.{Neighbour, held}
use Rattle.labels.proofs.Compare.{compares_by_places}
use Rattle.labels.proofs.Alike.{below_alike, alike_below}
use Rattle.labels.proofs.Results.{compare_smaller, compare_same, compare_larger}
use Rattle.labels.proofs.Difference.{Before, before_trans}
use Rattle.labels.proofs.Clashes.{clash}
use Rattle.trees.specs.Trees.{Entry, Tree, empty, node, NodeOf, at_root, on_left_lem, on_right_lem}
use Rattle.trees.specs.Searches.{found, Search, search_by, full_search}
use Rattle.trees.proofs.Sorted.{Between}

found_at_node : (x : Label) (d : Entry) (on_left on_right : Search) {e : Entry} {c : Comparison} → Finds x d.label c
    → (search_by c d on_left on_right).result ≡ found e → (on_left.result ≡ found e → Alike x e.label)
    → (on_right.result ≡ found e → Alike x e.label) → Alike x e.label
found_at_node x d on_left on_right (is_smaller_lem there) finds left right = left finds
found_at_node x d on_left on_right {e} (is_same alike end) finds left right =
    let here : d ≡ e = cc in rw here at alike
found_at_node x d on_left on_right (is_larger there) finds left right = right finds

-- The node that a search found has a label alike to the one sought.
pub found_alike : (x : Label) (t : Tree) {e : Entry} → (full_search x t).result ≡ found e → Alike x e.label
found_alike x empty finds = clash cc
found_alike x (node l d r) finds =
    found_at_node x d (full_search x l) (full_search x r) (compares_by_places x d.label) finds
    (found_alike x l) (found_alike x r)

node_by : (l r : Tree) (d : Entry) (on_left on_right : Search) (c : Comparison) {e : Entry}
    → (search_by c d on_left on_right).result ≡ found e → (on_left.result ≡ found e → NodeOf e l)
    → (on_right.result ≡ found e → NodeOf e r) → NodeOf e (node l d r)
node_by l r d on_left on_right (smaller i) finds left right = on_left_lem (left finds)
node_by l r d on_left on_right (same i) {e} finds left right = let here : d ≡ e = cc in rw here at_root
node_by l r d on_left on_right (larger i) finds left right = on_right_lem (right finds)

-- The node that a search found is a node of the tree.
pub found_node : (x : Label) (t : Tree) {e : Entry} → (full_search x t).result ≡ found e → NodeOf e t
found_node x empty finds = clash cc
found_node x (node l d r) finds =
    node_by l r d (full_search x l) (full_search x r) (compare_labels x d.label) finds (found_node x l) (found_node x r)

-- A node of an ordered tree lies within the tree's window.
pub node_between : {e : Entry} {t : Tree} {p s : Neighbour} → Between p s t → NodeOf e t
    → Before p (held e.label) × Before (held e.label) s
node_between between at_root = (between.above, between.below)
node_between between (on_left_lem there) =
    let within = node_between between.on_left_lem there in
    (within.0, before_trans within.1 between.below)
node_between between (on_right_lem there) =
    let within = node_between between.on_right_lem there in
    (before_trans between.above within.0, within.1)

-- A search of an ordered tree for a label alike to that of one of its nodes finds that node.
pub node_found : {e : Entry} (p s : Neighbour) (x : Label) {t : Tree} → Between p s t → NodeOf e t → Alike x e.label
    → (full_search x t).result ≡ found e
node_found p s x between at_root alike = rw (compare_same alike)
node_found p s x between (on_left_lem {d = d} there) alike =
    rw (compare_smaller (alike_below (node_between between.on_left_lem there).1 alike))
    (node_found p (held d.label) x between.on_left_lem there alike)
node_found p s x between (on_right_lem {d = d} there) alike =
    rw (compare_larger (below_alike (node_between between.on_right_lem there).0 alike))
    (node_found (held d.label) s x between.on_right_lem there alike)
