-- Trees whose labels ascend: each node lies between the nearest labels on its path.
-- Between: each node lies within the window of the nearest labels on its path.
-- between_of_linked, linked_of_between: that is the order of the labels from left to right.
-- between_of_ascends, ascends_of_between: it is the test of the labels, from no label below to no label above.
use mathlib.Core.List.{map-append}
use mathlib.Core.Path.{◌≡◌}
use mathlib.Core.Bool.{true}
use Rattle.labels.specs.Labels.{Label}
use Rattle.labels.specs.Neighbours.{Neighbour, none_below, held, none_above}
use Rattle.labels.proofs.Order.{none_below_none_above}
use Rattle.labels.proofs.Difference.{Before, below_is_before}
use Rattle.trees.specs.Trees.{Tree, empty, node, labels}
use Rattle.trees.specs.Valid.{ascends}
use Rattle.trees.proofs.Linked.{Linked, linked_end, linked_window, linked_append, linked_split}
use Rattle.trees.proofs.Linked.{linked_of_ascends, ascends_of_linked}

-- a label within a window, with what is so of the two subtrees
pub record Parts (p : Neighbour) (x : Label) (s : Neighbour) (OnLeft OnRight : Type 0) : Type 0 where
  pub above : Before p (held x)
  pub below : Before (held x) s
  pub on_left_lem : OnLeft
  pub on_right_lem : OnRight

-- each node's label is above p and below s, and so within each node's own window
abbrev pub Between : Neighbour → Neighbour → Tree → Type 0
Between p s empty = Unit
Between p s (node l e r) =
    Parts p e.label s (Between p (held e.label) l) (Between (held e.label) s r)

-- A tree whose labels are linked from p to s is between them.
pub between_of_linked : (t : Tree) {p s : Neighbour} → Linked p (labels t) s → Between p s t
between_of_linked empty linked = tt
between_of_linked (node l e r) linked =
    let parts = linked_split (labels l) (rw map-append at linked) in
    record {
      above = linked_window parts.0;
      below = linked_window parts.1;
      on_left_lem = between_of_linked l parts.0;
      on_right_lem = between_of_linked r parts.1;
    }

-- The labels of a tree between p and s are linked from p to s.
pub linked_of_between : (t : Tree) {p s : Neighbour} → Before p s → Between p s t → Linked p (labels t) s
linked_of_between empty before between = linked_end before
linked_of_between (node l e r) before between =
    rw map-append
    (linked_append (linked_of_between l between.above between.on_left_lem)
    (linked_of_between r between.below between.on_right_lem))

-- A tree whose labels ascend lies between no label below and no label above.
pub between_of_ascends : (t : Tree) → ascends (labels t) ≡ true → Between none_below none_above t
between_of_ascends t ascending = between_of_linked t (linked_of_ascends (labels t) ascending)

-- The labels of a tree that lies between no label below and no label above ascend.
pub ascends_of_between : (t : Tree) → Between none_below none_above t → ascends (labels t) ≡ true
ascends_of_between t between =
    ascends_of_linked (linked_of_between t (below_is_before none_below_none_above) between)
