-- The walk at a node and at its sons.
-- `node_short`: the label of a node that passes lies in its part of the store.
-- `tree_outside`, `tree_wrong`: a link out of range, or a node that fails its test, makes the subtree unsound.
-- `window_left`, `window_right`: the walk may go on at the sons, with the node's slot in their windows.
-- `tree_left_unsound`, `tree_right_unsound`, `tree_over`: what the sons give.
-- `tree_sons_fit`: the nodes below can be counted.
use Prim.Native.Nat.{ℕ, ◌-◌, ◌≤◌, ◌<◌}
use mathlib.Core.Path.{◌≡◌, refl, sym, subst, ◌∙◌}
use mathlib.Core.List.{List}
use mathlib.Core.Bool.{Bool, true, false}
use native.Mathlib.Omega.{arith}
use borrow.Author.Tests.{lt-ltb, le-ltb}
use Rattle.std.specs.Prelude.{Option, Some, None}
use Rattle.types.specs.declared.Limits.{Limits}
use Rattle.types.specs.declared.Row.{Row}
use Rattle.labels.specs.Neighbours.{Neighbour, held, difference}
use Rattle.labels.proofs.Difference.{Before}
use Rattle.trees.proofs.Views.{both_true}
use Rattle.tables.specs.Words.{row_at, entry_at}
use Rattle.gaps.specs.Windows.{below_in, above_in, Window}
use Rattle.gaps.specs.Gapped.{both_when}
use Rattle.gaps.specs.declared.Gaps.{Gaps}
use Rattle.gaps.proofs.OrderTests.{test_of_before}
use Rattle.gaps.proofs.GapLaws.{beside_held}
use Rattle.nodechecks.specs.Nodes.{node_fine, used_row, fine_between, fine_gaps}
use Rattle.nodechecks.proofs.RowLaws.{used_short}
use Rattle.nodechecks.proofs.NodeTests.{NodeFine, node_passed}
use Rattle.heights.specs.declared.Subtree.{Subtree}
use Rattle.heights.specs.Over.{over}
use Rattle.heights.specs.Fits.{Small, SonsFit}
use Rattle.heights.proofs.OverLaws.{sons_fit}
use Rattle.checks.specs.Check.{check_tree}
use Rattle.checks.specs.Fits.{WalkFits}
use Rattle.checks.proofs.TreeLaws.{sons, small_tree, tree_node}

-- ---- the test of a node

-- no places are given where it fails
not_passed : (fine : Bool) (i j : ℕ) → both_when fine i j ≡ None → fine ≡ false
not_passed true i j e = cc
not_passed false i j e = refl

-- these are given where it passes
record Passed (fine : Bool) (i j : ℕ) (gaps : Gaps) : Type 0 where
  passed : fine ≡ true
  below : gaps.lower ≡ i
  above : gaps.upper ≡ j

places : (fine : Bool) (i j : ℕ) (gaps : Gaps) → both_when fine i j ≡ Some gaps → Passed fine i j gaps
places true i j gaps e = record { passed = refl; below = cc; above = cc }
places false i j gaps e = cc

-- a node that passes has a label that lies in its part of the store
pub node_short : (limits : Limits) (table store : List ℕ) (k : ℕ) (p s : Neighbour)
    → node_fine limits table store k p s ≡ true → (row_at table k).len ≤ limits.width
unfolding node_fine used_row
node_short limits table store k p s e =
    used_short limits store k (row_at table k) ((both_true (used_row limits store k (row_at table k)) _).0 e).0

-- ---- the walk

module _ (limits : Limits) (table store : List ℕ) (remaining link below above : ℕ)
    (some : link ≡ 0 → ⊥) (deep : remaining ≡ 0 → ⊥) where
  -- the link is out of range
  pub tree_outside : limits.slots < link → None ≡ check_tree limits table store remaining link below above
  tree_outside h =
      sym (tree_node limits table store remaining link below above some deep ∙ rw (lt-ltb limits.slots link h))

  module _ (inside : link ≤ limits.slots) (tested : Option Gaps)
      (test : tested ≡ fine_gaps limits table store link below above) where
    -- the node fails its test
    pub tree_wrong : tested ≡ None → None ≡ check_tree limits table store remaining link below above
    unfolding fine_gaps
    tree_wrong e =
        sym (tree_node limits table store remaining link below above some deep
        ∙ rw (le-ltb limits.slots link inside, not_passed (fine_between limits table store link below above) _ _ (sym test ∙ e)))

    -- the node passes
    module _ (row : Row) (read : row ≡ row_at table link) (gaps : Gaps) (is_fine : tested ≡ Some gaps) where
      known : Passed (fine_between limits table store link below above)
          (difference (below_in limits table store below) (held (entry_at limits table store link).label))
          (difference (held (entry_at limits table store link).label) (above_in limits table store above)) gaps
      unfolding fine_gaps
      known = places _ _ _ gaps (sym test ∙ is_fine)

      -- its slot, as one of a window
      window : Window limits table link
      window = record { within = inside; short = λ low. node_short limits table store link _ _ known.passed }

      -- it lies between the neighbours
      ordered : NodeFine limits table store link (entry_at limits table store link).label
          (below_in limits table store below) (above_in limits table store above)
      ordered = node_passed limits table store link _ _ known.passed

      module _ (apart : ℕ) (fits : WalkFits limits table store remaining below above apart) where
        -- the walk may go on in a window of neighbours in order
        walk_on : (low high place : ℕ) → Window limits table low → Window limits table high
            → Before (below_in limits table store low) (above_in limits table store high)
            → place ≡ difference (below_in limits table store low) (above_in limits table store high)
            → WalkFits limits table store (remaining - 1) low high place
        walk_on low high place lower upper before parts =
            record {
              deep = omega arith;
              between = record {
                sizes = fits.between.sizes;
                lower = lower;
                upper = upper;
                order = test_of_before _ _ before;
                parts = parts;
              };
            }

        -- its left son lies below it, its right son above it
        pub window_left : WalkFits limits table store (remaining - 1) below link gaps.lower
        window_left =
            let node = beside_held limits table store true link (omega arith) in
            walk_on below link gaps.lower fits.between.lower window (rw node ordered.above) (rw node known.below)

        pub window_right : WalkFits limits table store (remaining - 1) link above gaps.upper
        window_right =
            let node = beside_held limits table store false link (omega arith) in
            walk_on link above gaps.upper window fits.between.upper (rw node ordered.below) (rw node known.above)

      -- the subtree is what its sons give
      over_sons : check_tree limits table store remaining link below above
          ≡ over row.balance (check_tree limits table store (remaining - 1) row.left below link)
          (check_tree limits table store (remaining - 1) row.right link above)
      unfolding sons
      over_sons =
          tree_node limits table store remaining link below above some deep
          ∙ rw (le-ltb limits.slots link inside, known.passed, read)

      -- its left son is unsound
      pub tree_left_unsound : None ≡ check_tree limits table store (remaining - 1) row.left below link
          → None ≡ check_tree limits table store remaining link below above
      unfolding over
      tree_left_unsound e = sym (over_sons ∙ rw (← e))

      -- its left son is l
      module _ (l : Subtree) (left_son : Some l ≡ check_tree limits table store (remaining - 1) row.left below link) where
        -- its right son is unsound
        pub tree_right_unsound : None ≡ check_tree limits table store (remaining - 1) row.right link above
            → None ≡ check_tree limits table store remaining link below above
        unfolding over
        tree_right_unsound e = sym (over_sons ∙ rw (← left_son, ← e))

        -- its right son is r
        module _ (r : Subtree)
            (right_son : Some r ≡ check_tree limits table store (remaining - 1) row.right link above) where
          pub tree_over : (s : Option Subtree) → s ≡ over row.balance (Some l) (Some r)
              → s ≡ check_tree limits table store remaining link below above
          tree_over s e = e ∙ sym (over_sons ∙ rw (← left_son, ← right_son))

          -- their nodes can be counted
          pub tree_sons_fit : remaining ≤ 64 → SonsFit l r
          tree_sons_fit fits =
              sons_fit (remaining - 1) l r (omega arith)
              (subst (Small (remaining - 1)) (sym left_son) (small_tree limits table store (remaining - 1) row.left below link))
              (subst (Small (remaining - 1)) (sym right_son) (small_tree limits table store (remaining - 1) row.right link above))
