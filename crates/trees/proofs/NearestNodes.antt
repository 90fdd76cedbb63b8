-- The nodes that a full search passes last on the two sides of the label sought are its neighbours in the tree's map.
-- nearest_node, below_node, above_node: each is a node of the tree, on a side or by its name.
-- nearest_of_search: if the labels ascend and the label sought is absent, their pairs are the nearest of the map.
use mathlib.Core.List.Memᴰ
use mathlib.Core.List.{Memᴰ}
use mathlib.Core.Logic.{◌⊎◌, inl, inr, ⊎_elim}
use mathlib.Core.Option.{Option, none, some, map}
use mathlib.Core.Path.{◌≡◌, refl, subst}
use mathlib.Core.Bool.{true}
use Rattle.labels.specs.Labels.{Label}
use Rattle.labels.specs.Neighbours.{Neighbour, held, none_below, none_above}
use Rattle.trees.specs.Trees.{Entry, Tree, empty, node, NodeOf, at_root, on_left_lem, on_right_lem, entries, labels}
use Rattle.trees.specs.Trees.{Side, left, right, other, on}
use Rattle.trees.specs.Searches.{absent, full_search}
use Rattle.trees.specs.Map.{Pair, pair_of, map_of, StandsOn, Nearest, no_pair, this_pair}
use Rattle.trees.specs.Valid.{ascends}
use Rattle.trees.proofs.Linked.{smaller_of_before}
use Rattle.trees.proofs.Sorted.{Between, between_of_ascends}
use Rattle.trees.proofs.Searched.{node_between}
use Rattle.trees.proofs.SideViews.{stands_trans, stands_apart, Lies, here, near, far, lies_on}
use Rattle.trees.proofs.SideViews.{nearest_on, Way, no_node, nears, passes_last, passes}
use Rattle.trees.proofs.SideViews.{way_of_search, node_of_way}

-- The node that a search passes last on a side is a node of the tree.
pub nearest_node : (side : Side) (x : Label) (t : Tree) {e : Entry} → nearest_on side (full_search x t) ≡ some e
    → NodeOf e t
nearest_node side x t passed = (node_of_way (rw passed at (way_of_search side x t))).0

-- The nearest smaller one is a node of the tree,
pub below_node : (x : Label) (t : Tree) {e : Entry} → (full_search x t).below ≡ some e → NodeOf e t
below_node = nearest_node left

-- and the nearest larger one is.
pub above_node : (x : Label) (t : Tree) {e : Entry} → (full_search x t).above ≡ some e → NodeOf e t
above_node = nearest_node right

-- ---- the nodes of an ordered tree, by a side of its root

-- each node lies within the window of the nearest labels on its path
abbrev Ordered : Tree → Type 0
Ordered t = (p : Neighbour) × (s : Neighbour) × Between p s t

-- a pair is that of the node passed last, or stands on that side of it; none does where no node is passed
abbrev AsFar : Side → Pair → (passed : Option Entry) → Type 0
AsFar side q none = ⊥
AsFar side q (some e) = (q ≡ pair_of e) ⊎ StandsOn side q.label e.label

module _ (l : Tree) (e : Entry) (r : Tree) (ordered : Ordered (node l e r)) where
  -- The sons of an ordered tree are ordered.
  son_ordered : (side : Side) → Ordered (on side l r)
  son_ordered left = (ordered.0, held e.label, ordered.2.on_left_lem)
  son_ordered right = (held e.label, ordered.1, ordered.2.on_right_lem)

  -- The nodes of a son stand on its side of the root.
  son_stands : (side : Side) {d : Entry} → NodeOf d (on side l r) → StandsOn side d.label e.label
  son_stands left there = smaller_of_before (node_between ordered.2.on_left_lem there).1
  son_stands right there = smaller_of_before (node_between ordered.2.on_right_lem there).0

  -- The root stands on a side of the nodes of the son on the other side.
  root_stands : (side : Side) {d : Entry} → NodeOf d (on (other side) l r) → StandsOn side e.label d.label
  root_stands left there = son_stands right there
  root_stands right there = son_stands left there

  module _ (side : Side) where
    -- A node on a side of the root is in the son on that side.
    near_node : {d : Entry} → StandsOn side d.label e.label → Lies side l e r d → NodeOf d (on side l r)
    near_node stands here = absurd (stands_apart side _ _ stands stands)
    near_node stands (near there) = there
    near_node stands (far there) = absurd (stands_apart side _ _ stands (root_stands side there))

    -- A node is as far as the root, unless it is in the far son.
    as_far_as_root : {d : Entry} → (NodeOf d (on (other side) l r) → ⊥) → Lies side l e r d
        → AsFar side (pair_of d) (some e)
    as_far_as_root not_far here = inl refl
    as_far_as_root not_far (near there) = inr (son_stands side there)
    as_far_as_root not_far (far there) = absurd (not_far there)

    -- A node is as far as one in the far son, if it is so where it is itself in the far son.
    as_far_as_later : {d later : Entry} → NodeOf later (on (other side) l r)
        → (NodeOf d (on (other side) l r) → AsFar side (pair_of d) (some later)) → Lies side l e r d
        → AsFar side (pair_of d) (some later)
    as_far_as_later further in_far here = inr (root_stands side further)
    as_far_as_later further in_far (near there) =
        inr (stands_trans side _ _ _ (son_stands side there) (root_stands side further))
    as_far_as_later further in_far (far there) = in_far there

-- Each node on a side of an absent label is as far as the node that the search passes last.
as_far_of_way : {side : Side} {x : Label} {t : Tree} {o : Option Entry} {d : Entry} → Way side x t absent o → Ordered t
    → NodeOf d t → StandsOn side d.label x → AsFar side (pair_of d) o
as_far_of_way no_node ordered there beside = elim there [ ]
as_far_of_way {side} (nears {l} {r} {e} stands way) ordered there beside =
    as_far_of_way way (son_ordered l e r ordered side)
    (near_node l e r ordered side (stands_trans side _ _ _ beside stands) (lies_on side there)) beside
as_far_of_way {side} (passes_last {l} {r} {e} stands way) ordered there beside =
    as_far_as_root l e r ordered side
    (λ in_far. as_far_of_way way (son_ordered l e r ordered (other side)) in_far beside) (lies_on side there)
as_far_of_way {side} (passes {l} {r} {e} stands way) ordered there beside =
    as_far_as_later l e r ordered side (node_of_way way).0
    (λ in_far. as_far_of_way way (son_ordered l e r ordered (other side)) in_far beside) (lies_on side there)

-- ---- the nodes of a tree and the pairs of its map

-- A node is one of the entries,
member_of_node : {d : Entry} {t : Tree} → NodeOf d t → Memᴰ d (entries t)
member_of_node (at_root {l}) = Memᴰ.append_right (entries l) (Memᴰ.head refl)
member_of_node (on_left_lem there) = Memᴰ.append_left _ (member_of_node there)
member_of_node (on_right_lem {l} there) = Memᴰ.append_right (entries l) (Memᴰ.tail (member_of_node there))

-- and each of the entries is a node.
node_of_member : (t : Tree) {d : Entry} → Memᴰ d (entries t) → NodeOf d t
node_of_member empty there = absurd (Memᴰ.not-nil there)
node_of_member (node l e r) there =
    ⊎_elim (λ in_left. on_left_lem (node_of_member l in_left)) (λ rest.
    ⊎_elim (λ same. rw same at_root) (λ in_right. on_right_lem (node_of_member r in_right)) (Memᴰ.cases_cons rest))
    (Memᴰ.append_cases (entries l) there)

-- What is so of the pair of each node is so of each pair of the map.
each_pair : (t : Tree) (P : Pair → Type 0) → ((d : Entry) → NodeOf d t → P (pair_of d))
    → (q : Pair) → Memᴰ q (map_of t) → P q
each_pair t P of_node q there =
    let member = Memᴰ.of_map pair_of (entries t) there in
    subst P member.2 (of_node member.0 (node_of_member t member.1))

-- The pair of the node passed last is the nearest, if each pair on that side is as far.
nearest_of_way : {side : Side} {x : Label} (t : Tree) (o : Option Entry) → Way side x t absent o
    → ((q : Pair) → Memᴰ q (map_of t) → StandsOn side q.label x → AsFar side q o)
    → Nearest side x (map_of t) (map pair_of o)
nearest_of_way t none way as_far = no_pair as_far
nearest_of_way t (some e) way as_far =
    let within = node_of_way way in
    this_pair (pair_of e) (Memᴰ.map pair_of (member_of_node within.0)) within.1 as_far

-- In a tree with ascending labels, the pairs of the nodes that a search for an absent label passes last on its two
-- sides are the nearest of the map.
pub nearest_of_search : (t : Tree) → ascends (labels t) ≡ true → (x : Label) → (full_search x t).result ≡ absent
    → (side : Side) → Nearest side x (map_of t) (map pair_of (nearest_on side (full_search x t)))
nearest_of_search t ascending x missing side =
    let o = nearest_on side (full_search x t) in
    let way : Way side x t absent o = rw missing at (way_of_search side x t) in
    let ordered : Ordered t = (none_below, none_above, between_of_ascends t ascending) in
    nearest_of_way t o way (each_pair t (λ q. StandsOn side q.label x → AsFar side q o)
    (λ d there. as_far_of_way way ordered there))
