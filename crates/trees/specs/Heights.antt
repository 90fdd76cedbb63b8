-- Heights, the height rule, and the smallest height-balanced tree of a height (document 01, first section and 'The cost
-- rule').
use Rattle.std.specs.Prelude.{◌≡◌, Bool, true, ◌&&◌, leb, ℕ, zero, suc, ◌+◌, ◌≤◌, ◌<◌, max}
use Rattle.trees.specs.Trees.{Tree, empty, node, size}

-- "A height is counted in nodes: an empty tree has 0, a single node 1."
abbrev pub height : Tree → ℕ
height empty = 0
height (node l e r) = suc (max (height l) (height r))

-- "the heights of a node's two sons differ by at most one", at each node
abbrev pub is_balanced : Tree → Bool
is_balanced empty = true
is_balanced (node l e r) =
    leb (height l) (suc (height r)) && (leb (height r) (suc (height l)) && (is_balanced l && is_balanced r))

abbrev pub Balanced : Tree → Type 0
Balanced t = is_balanced t ≡ true

-- "The smallest height-balanced tree of height 0 has 0 nodes, of height 1 one, and of each further height the sum of
-- the two before plus 1"
abbrev pub least : ℕ → ℕ
least zero = 0
least (suc zero) = 1
least (suc (suc h)) = suc (least (suc h) + least h)

-- The claim: "Every other height-balanced tree of the same height has at least as many", and one has as many.
pub record LeastIsLeast : Type 0 where
  pub at_least : (t : Tree) → Balanced t → least (height t) ≤ size t
  pub reached : (h : ℕ) → (t : Tree) × Balanced t × (height t ≡ h) × (size t ≡ least h)

-- depth is the deepest height-balanced tree that so many nodes allow
pub record Deepest (capacity depth : ℕ) : Type 0 where
  pub some : least depth ≤ capacity
  pub none : capacity < least (suc depth)

-- The claim, over the capacity: no height-balanced tree of at most so many nodes is higher than the depth, and one is
-- as high.
pub record DepthIsDeepest (capacity depth : ℕ) : Type 0 where
  pub bound : (t : Tree) → Balanced t → size t ≤ capacity → height t ≤ depth
  pub attained : (t : Tree) × Balanced t × (size t ≤ capacity) × (height t ≡ depth)
