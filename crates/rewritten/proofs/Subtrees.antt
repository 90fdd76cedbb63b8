-- A subtree before its nodes are renewed, and the slots of its neighbours.
-- Subtree: a tree in the rows of a table, with its labels in a store. left_son, right_son: its sons are such trees.
-- Window: two slots hold the neighbours.
use mathlib.Core.List.{List}
use mathlib.Core.Path.{◌≡◌}
use Prim.Native.Nat.{ℕ, ◌≤◌}
use native.Mathlib.Omega.{arith}
use Rattle.types.specs.declared.Limits.{Limits}
use Rattle.labels.specs.Neighbours.{Neighbour, held}
use Rattle.trees.specs.Trees.{Entry, Tree, node, slots}
use Rattle.trees.specs.Heights.{height}
use Rattle.trees.proofs.SlotCounts.{occurrences_of_node}
use Rattle.gaps.specs.Windows.{below_in, above_in}
use Rattle.rotations.proofs.Rep.{Rep, Once}
use Rattle.rewritten.proofs.Naming.{LabelsStored}

module _ (limits : Limits) (table store : List ℕ) where
  -- the tree t between p and q, at most so high
  pub record Subtree (high : ℕ) (p q : Neighbour) (t : Tree) : Type 0 where
    pub fits : height t ≤ high
    pub rep : Rep table p q t
    pub once : Once (slots t)
    pub stored : LabelsStored limits store t

  -- the neighbour below is p, and the one above is q
  pub record Window (below above : ℕ) (p q : Neighbour) : Type 0 where
    pub lower : below_in limits table store below ≡ p
    pub upper : above_in limits table store above ≡ q

  module _ {high : ℕ} {p q : Neighbour} (l : Tree) (e : Entry) (r : Tree) (whole : Subtree high p q (node l e r)) where
    -- The left son of a node is such a tree.
    pub left_son : Subtree high p (held e.label) l
    left_son =
        record {
          fits = omega (arith, whole.fits);
          rep = whole.rep.1;
          once = λ k. omega (arith, whole.once k, occurrences_of_node k l e r);
          stored = whole.stored.1;
        }

    -- So is its right son.
    pub right_son : Subtree high (held e.label) q r
    right_son =
        record {
          fits = omega (arith, whole.fits);
          rep = whole.rep.2;
          once = λ k. omega (arith, whole.once k, occurrences_of_node k l e r);
          stored = whole.stored.2;
        }
