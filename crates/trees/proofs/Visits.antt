-- How many nodes a full comparison search visits.
-- height_of_visits: a search visits at most as many nodes as the tree is high.
-- least_of_visits: a balanced tree has at least as many nodes as the smallest tree as high as the visits of a search.
-- visits_within_depth: in a balanced tree of at most so many nodes a search visits at most as many as the depth.
use Prim.Native.Nat.{ℕ, suc, ◌≤◌, max}
use native.Mathlib.Omega.{arith}
use lib.ListN.{length}
use Rattle.labels.specs.Labels.{Label, Comparison, smaller, same, larger, compare_labels}
use Rattle.trees.specs.Trees.{Entry, Tree, empty, node, size}
use Rattle.trees.specs.Heights.{height, Balanced, least, Deepest}
use Rattle.trees.specs.Searches.{Search, search_by, full_search}
use Rattle.trees.proofs.Sizes.{least_below_height, deepest_is_depth}

-- A search visits its node, and then at most as many as the longer of the two searches below.
visits_by : (c : Comparison) (e : Entry) (l r : Search)
    → length (search_by c e l r).visited ≤ suc (max (length l.visited) (length r.visited))
visits_by (smaller i) e l r = omega arith
visits_by (same i) e l r = omega arith
visits_by (larger i) e l r = omega arith

-- A search visits at most as many nodes as the tree is high.
pub height_of_visits : (x : Label) (t : Tree) → length (full_search x t).visited ≤ height t
height_of_visits x empty = omega arith
height_of_visits x (node l e r) =
    omega (
      arith,
      height_of_visits x l,
      height_of_visits x r,
      visits_by (compare_labels x e.label) e (full_search x l) (full_search x r),
    )

-- A balanced tree has at least as many nodes as the smallest tree as high as the visits of a search.
pub least_of_visits : (x : Label) (t : Tree) → Balanced t → least (length (full_search x t).visited) ≤ size t
least_of_visits x t h = least_below_height t h (length (full_search x t).visited) (height_of_visits x t)

-- In a balanced tree of at most so many nodes, a search visits at most as many nodes as the depth.
pub visits_within_depth : (capacity depth : ℕ) → Deepest capacity depth → (x : Label) (t : Tree)
    → Balanced t → size t ≤ capacity → length (full_search x t).visited ≤ depth
visits_within_depth capacity depth deepest x t h fits =
    omega (arith, height_of_visits x t, (deepest_is_depth capacity depth deepest).bound t h fits)
