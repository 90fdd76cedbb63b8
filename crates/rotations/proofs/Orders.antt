-- Updates of a tree keep its labels within the window.
-- low_by, high_by: the window at a search's end, at a node.
-- between_with: a son may become another tree that lies within its window.
-- between_rebalanced, between_inserted, between_joined, between_deleted: the updated tree lies within the window.
-- window_of_between: a tree with a node has a window in order.
-- Above, least_above: the smallest node lies within the window, and the rest between it and the window's end.
-- between_higher: a window may end higher.
use mathlib.Core.List.{List, ◌∷◌, ◌++◌, map}
use mathlib.Core.Path.{◌≡◌, ap}
use Rattle.labels.specs.Labels.{Label, Comparison, smaller, same, larger, compare_labels}
use Rattle.labels.specs.Labels.{Finds, is_smaller_lem, is_same, is_larger}
use Rattle.labels.specs.Neighbours.{Neighbour, held}
use Rattle.labels.proofs.Order.{below_of_smaller}
use Rattle.labels.proofs.Compare.{compares_by_places}
use Rattle.labels.proofs.Difference.{Before, below_is_before, before_trans}
use Rattle.trees.specs.Trees.{Entry, Tree, empty, node, labels, Side, left, right, from}
use Rattle.trees.specs.Turns.{rebalanced}
use Rattle.trees.specs.Updates.{inserted_by, inserted, without_least, joined, deleted_by, deleted}
use Rattle.trees.proofs.Entries.{entries_of_rebalanced, mapped_least, mapped_joined}
use Rattle.trees.proofs.Linked.{Linked, linked_end, linked_step, linked_window, linked_lower, linked_on}
use Rattle.trees.proofs.Sorted.{Between, between_of_linked, linked_of_between}
use Rattle.rotations.proofs.Rep.{low_on, high_on}
use Rattle.rotations.proofs.Along.{towards, low_to, high_to}

-- the window at the search's end, by the comparison with the label of a node with the sons l and r
abbrev pub low_by : Comparison → (p here : Neighbour) → Label → Tree → Tree → Neighbour
low_by c p here x l r = towards c (low_to p x l) p (low_to here x r)

abbrev pub high_by : Comparison → (here q : Neighbour) → Label → Tree → Tree → Neighbour
high_by c here q x l r = towards c (high_to here x l) q (high_to q x r)

-- A son may become another tree that lies within its window.
pub between_with : (s : Side) (p q : Neighbour) (near : Tree) (e : Entry) (far near' : Tree)
    → Between p q (from s near e far) → Between (low_on s p e.label) (high_on s e.label q) near'
    → Between p q (from s near' e far)
between_with left p q near e far near' order order' =
    record { above = order.above; below = order.below; on_left_lem = order'; on_right_lem = order.on_right_lem }
between_with right p q near e far near' order order' =
    record { above = order.above; below = order.below; on_left_lem = order.on_left_lem; on_right_lem = order' }

-- A node in a window shows the window's order.
pub window_of_between : (p q : Neighbour) (l : Tree) (e : Entry) (r : Tree) → Between p q (node l e r) → Before p q
window_of_between p q l e r between = before_trans between.above between.below

-- A tree with the same labels lies within the same window.
between_by_labels : (p q : Neighbour) (l : Tree) (e : Entry) (r t : Tree) → labels t ≡ labels (node l e r)
    → Between p q (node l e r) → Between p q t
between_by_labels p q l e r t equal between =
    between_of_linked t (rw equal (linked_of_between (node l e r) (window_of_between p q l e r between) between))

-- A node rebalanced lies within its window.
pub between_rebalanced : (p q : Neighbour) (l : Tree) (e : Entry) (r : Tree)
    → Between p q (node l e r) → Between p q (rebalanced l e r)
between_rebalanced p q l e r between =
    between_by_labels p q l e r (rebalanced l e r)
    (ap (map (λ (d : Entry). d.label)) (entries_of_rebalanced l e r)) between

-- With a label of the window set in, the tree lies within it.
pub between_inserted : (new : Entry) (p q : Neighbour) (t : Tree) → Before p (held new.label)
    → Before (held new.label) q → Between p q t → Between p q (inserted new t)
between_inserted new p q empty above below between =
    record { above = above; below = below; on_left_lem = tt; on_right_lem = tt }
between_inserted new p q (node l e r) above below between =
    go (compares_by_places new.label e.label)
    (λ low. between_inserted new p (held e.label) l above low between.on_left_lem)
    (λ high. between_inserted new (held e.label) q r high below between.on_right_lem)
  where
    go : {c : Comparison} → Finds new.label e.label c
        → (Before (held new.label) (held e.label) → Between p (held e.label) (inserted new l))
        → (Before (held e.label) (held new.label) → Between (held e.label) q (inserted new r))
        → Between p q (inserted_by c l e r (inserted new l) (inserted new r))
    go (is_smaller_lem there) on_left on_right = between_rebalanced p q (inserted new l) e r
        (between_with left p q l e r (inserted new l) between (on_left (below_is_before (below_of_smaller there))))
    go (is_same alike end) on_left on_right = between
    go (is_larger there) on_left on_right = between_rebalanced p q l e (inserted new r)
        (between_with right p q r e l (inserted new r) between (on_right (below_is_before (below_of_smaller there))))

-- A linked list around a label is linked without it.
linked_without : {p s : Neighbour} {first last : List Label} {x : Label}
    → Linked p first (held x) → Linked (held x) last s → Linked p (first ++ last) s
linked_without (linked_end before) after = linked_lower before after
linked_without (linked_step before rest) after = linked_step before (linked_without rest after)

-- Joined sons of a node lie within its window.
pub between_joined : (p q : Neighbour) (l : Tree) (e : Entry) (r : Tree)
    → Between p q (node l e r) → Between p q (joined l r)
between_joined p q l e r between =
    between_of_linked (joined l r) (rw (mapped_joined (λ (d : Entry). d.label) l r)
    (linked_without (linked_of_between l between.above between.on_left_lem)
    (linked_of_between r between.below between.on_right_lem)))

-- Without a label, the tree lies within its window.
pub between_deleted : (x : Label) (p q : Neighbour) (t : Tree) → Between p q t → Between p q (deleted x t)
between_deleted x p q empty between = tt
between_deleted x p q (node l e r) between =
    go (compare_labels x e.label) (between_deleted x p (held e.label) l between.on_left_lem)
    (between_deleted x (held e.label) q r between.on_right_lem)
  where
    go : (c : Comparison) → Between p (held e.label) (deleted x l) → Between (held e.label) q (deleted x r)
        → Between p q (deleted_by c l e r (deleted x l) (deleted x r))
    go (smaller i) on_left on_right = between_rebalanced p q (deleted x l) e r
        (between_with left p q l e r (deleted x l) between on_left)
    go (same i) on_left on_right = between_joined p q l e r between
    go (larger i) on_left on_right = between_rebalanced p q l e (deleted x r)
        (between_with right p q r e l (deleted x r) between on_right)

-- x, within the window, and a tree between x and the window's end
pub record Above (p : Neighbour) (x : Label) (q : Neighbour) (t : Tree) : Type 0 where
  pub above : Before p (held x)
  pub below : Before (held x) q
  pub rest : Between (held x) q t

above_of_linked : {p q : Neighbour} {x : Label} (t : Tree) → Linked p (x ∷ labels t) q → Above p x q t
above_of_linked t (linked_step before rest) =
    record { above = before; below = linked_window rest; rest = between_of_linked t rest }

-- The smallest node lies within the window, and the rest between it and the window's end.
pub least_above : (p q : Neighbour) (l : Tree) (e : Entry) (r : Tree) → Between p q (node l e r)
    → Above p (without_least l e r).least.label q (without_least l e r).rest
least_above p q l e r between =
    above_of_linked (without_least l e r).rest (rw (mapped_least (λ (d : Entry). d.label) l e r)
    (linked_of_between (node l e r) (window_of_between p q l e r between) between))

-- A window may end higher.
pub between_higher : (p q : Neighbour) (t : Tree) {s : Neighbour} → Before p q → Before q s
    → Between p q t → Between p s t
between_higher p q t before higher between =
    between_of_linked t (linked_on (λ low up. before_trans up higher) (linked_of_between t before between))
