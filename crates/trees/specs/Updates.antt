-- Insert and delete on the plain tree ('Updates' of document 01): a node is hung or taken out, then nodes are turned
-- "from the lowest changed node to the root".
use Rattle.labels.specs.Labels.{Label, Comparison, smaller, same, larger, compare_labels}
use Rattle.trees.specs.Trees.{Entry, Tree, empty, node}
use Rattle.trees.specs.Turns.{rebalanced}

-- l' and r': the sons with the new entry in them
abbrev pub inserted_by : Comparison → Tree → Entry → Tree → Tree → Tree → Tree
inserted_by (smaller i) l e r l' r' = rebalanced l' e r
inserted_by (same i) l e r l' r' = node l e r
inserted_by (larger i) l e r l' r' = rebalanced l e r'

-- "Insert hangs the label at the empty link where its search ended."
abbrev pub inserted : Entry → Tree → Tree
inserted new empty = node empty new empty
inserted new (node l e r) = inserted_by (compare_labels new.label e.label) l e r (inserted new l) (inserted new r)

-- the smallest node of a tree, and the tree without it
pub record Least : Type 0 where
  pub least : Entry
  pub rest : Tree

-- "the smallest node .. and its own right son moves up into the spot it left"
abbrev pub without_least : Tree → Entry → Tree → Least
without_least empty e r = record { least = e; rest = r }
without_least (node a d b) e r =
    let deeper : Least = without_least a d b in
    record { least = deeper.least; rest = rebalanced deeper.rest e r }

-- "with two, the smallest node of the right subtree is relinked there, keeping its slot, its label and its value"
abbrev pub relinked : Tree → Least → Tree
relinked l m = rebalanced l m.least m.rest

-- what takes the place of a node with these sons: "with one son or none, the son's link replaces it"
abbrev pub joined : Tree → Tree → Tree
joined l empty = l
joined empty (node b d c) = node b d c
joined (node a e a') (node b d c) = relinked (node a e a') (without_least b d c)

-- l' and r': the sons without the label
abbrev pub deleted_by : Comparison → Tree → Entry → Tree → Tree → Tree → Tree
deleted_by (smaller i) l e r l' r' = rebalanced l' e r
deleted_by (same i) l e r l' r' = joined l r
deleted_by (larger i) l e r l' r' = rebalanced l e r'

abbrev pub deleted : Label → Tree → Tree
deleted x empty = empty
deleted x (node l e r) = deleted_by (compare_labels x e.label) l e r (deleted x l) (deleted x r)
