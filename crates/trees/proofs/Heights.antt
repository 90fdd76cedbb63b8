-- The height rule as facts on heights, for proofs; `Balanced` says the same by a test.
-- kept_of_balanced: in a balanced tree the rule is kept.
-- balanced_of_kept: a tree in which the rule is kept is balanced.
use mathlib.Core.Path.{refl}
use Prim.Native.Nat.{suc, ◌≤◌}
use Rattle.trees.specs.Trees.{Tree, empty, node}
use Rattle.trees.specs.Heights.{height, Balanced}
use Rattle.trees.proofs.Views.{both_true, leb_is_le}

-- two sons of a node, near and far in either order: neither is higher by more than one, and something holds of each
pub record Sons (near far : Tree) (Near Far : Type 0) : Type 0 where
  pub near_fits : height near ≤ suc (height far)
  pub far_fits : height far ≤ suc (height near)
  pub near_kept : Near
  pub far_kept : Far

-- the height rule is kept at each node
abbrev pub Kept : Tree → Type 0
Kept empty = Unit
Kept (node l e r) = Sons l r (Kept l) (Kept r)

-- two trees that may be the sons of a node
abbrev pub KeptSons : Tree → Tree → Type 0
KeptSons near far = Sons near far (Kept near) (Kept far)

-- In a balanced tree the rule is kept.
pub kept_of_balanced : (t : Tree) → Balanced t → Kept t
kept_of_balanced empty h = tt
kept_of_balanced (node l e r) h =
    let (near, past_near) = (both_true _ _).0 h in
    let (far, sons) = (both_true _ _).0 past_near in
    let (of_l, of_r) = (both_true _ _).0 sons in
    record {
      near_fits = (leb_is_le _ _).0 near;
      far_fits = (leb_is_le _ _).0 far;
      near_kept = kept_of_balanced l of_l;
      far_kept = kept_of_balanced r of_r;
    }

-- A tree in which the rule is kept is balanced.
pub balanced_of_kept : (t : Tree) → Kept t → Balanced t
balanced_of_kept empty h = refl
balanced_of_kept (node l e r) h =
    (both_true _ _).1 (
      (leb_is_le _ _).1 h.near_fits,
      (both_true _ _).1 (
        (leb_is_le _ _).1 h.far_fits,
        (both_true _ _).1 (balanced_of_kept l h.near_kept, balanced_of_kept r h.far_kept),
      ),
    )
