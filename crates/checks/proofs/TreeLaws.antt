-- One step of the walk over the tree, and the size of what it finds.
-- `tree_step`, `tree_node`: at a node, the walk finds it wrong or goes on with its sons.
-- `small_tree`: a subtree at most n nodes deep is small at n.
-- `tree_none`, `tree_deep`: the walk ends at link 0, and at any other link where no height remains.
use Prim.Native.Nat.{ℕ, zero, suc, ◌-◌}
use mathlib.Core.Path.{◌≡◌, refl, ◌∙◌}
use mathlib.Core.List.{List}
use mathlib.Core.Bool.{Bool, true, false}
use native.Mathlib.Omega.{arith}
use native.Mathlib.Nat.{one-le-pow}
use lib.Dec.{ltb}
use Rattle.std.specs.Prelude.{Option, Some, None}
use Rattle.types.specs.declared.Limits.{Limits}
use Rattle.tables.specs.Words.{row_at}
use Rattle.nodechecks.specs.Nodes.{fine_between}
use Rattle.heights.specs.declared.Subtree.{Subtree}
use Rattle.heights.specs.declared.TheConstants.{EMPTY}
use Rattle.heights.specs.Over.{over}
use Rattle.heights.specs.Fits.{Small}
use Rattle.heights.proofs.OverLaws.{small_over}
use Rattle.checks.specs.Check.{check_tree}

-- what is found at a link that is not 0: it is out of range, its node is not fine, or what both sons give
abbrev pub found : (outside fine : Bool) → Option Subtree → Option Subtree
found true fine s = None
found false true s = s
found false false s = None

small_found : (n : ℕ) (outside fine : Bool) (s : Option Subtree) → Small n s → Small n (found outside fine s)
small_found n true fine s p = tt
small_found n false true s p = p
small_found n false false s p = tt

module _ (limits : Limits) (table store : List ℕ) where
  -- what both sons of the node in slot k give
  unfoldable pub sons : (n k below above : ℕ) → Option Subtree
  sons n k below above =
      over (row_at table k).balance (check_tree limits table store n (row_at table k).left below k)
      (check_tree limits table store n (row_at table k).right k above)

  -- one step of the walk
  pub tree_step : (n k below above : ℕ)
      → check_tree limits table store (suc n) (suc k) below above
      ≡ found (ltb limits.slots (suc k)) (fine_between limits table store (suc k) below above)
      (sons n (suc k) below above)
  unfolding check_tree sons
  tree_step n k below above =
      go (ltb limits.slots (suc k)) (fine_between limits table store (suc k) below above) (sons n (suc k) below above)
    where
      go : (outside fine : Bool) (s : Option Subtree)
          → ◌≡◌ {A = Option Subtree} (elim outside [ true ↦ None | false ↦ elim fine [ true ↦ s | false ↦ None ] ])
          (found outside fine s)
      go true fine s = refl
      go false true s = refl
      go false false s = refl

  small_sons : (n k below above : ℕ) → Small n (check_tree limits table store n (row_at table k).left below k)
      → Small n (check_tree limits table store n (row_at table k).right k above)
      → Small (suc n) (sons n k below above)
  unfolding sons
  small_sons n k below above p q =
      small_over n (row_at table k).balance (check_tree limits table store n (row_at table k).left below k)
      (check_tree limits table store n (row_at table k).right k above) p q

  -- a subtree at most n nodes deep is small at n
  pub small_tree : (n link below above : ℕ) → Small n (check_tree limits table store n link below above)
  unfolding check_tree
  small_tree zero zero below above = (omega arith, omega arith)
  small_tree zero (suc k) below above = tt
  small_tree (suc n) zero below above = (omega arith, one-le-pow (suc n) 2 (omega arith))
  small_tree (suc n) (suc k) below above =
      let left = small_tree n (row_at table (suc k)).left below (suc k) in
      let right = small_tree n (row_at table (suc k)).right (suc k) above in
      rw (tree_step n k below above)
      (small_found (suc n) (ltb limits.slots (suc k)) (fine_between limits table store (suc k) below above)
      (sons n (suc k) below above) (small_sons n (suc k) below above left right))

-- the same at a link that is not 0, where some height remains
pub tree_node : (limits : Limits) (table store : List ℕ) (remaining link below above : ℕ)
    → (link ≡ 0 → ⊥) → (remaining ≡ 0 → ⊥)
    → check_tree limits table store remaining link below above
    ≡ found (ltb limits.slots link) (fine_between limits table store link below above)
    (sons limits table store (remaining - 1) link below above)
tree_node limits table store remaining zero below above some deep = absurd (some refl)
tree_node limits table store zero (suc k) below above some deep = absurd (deep refl)
tree_node limits table store (suc n) (suc k) below above some deep =
    let less : suc n - 1 ≡ n = omega arith in
    tree_step limits table store n k below above ∙ rw less

module _ (limits : Limits) (table store : List ℕ) (remaining link below above : ℕ) where
  -- at link 0 the walk finds the empty tree
  pub tree_none : link ≡ 0 → Some EMPTY ≡ check_tree limits table store remaining link below above
  unfolding check_tree
  tree_none e = rw e (go remaining)
    where
      go : (n : ℕ) → Some EMPTY ≡ check_tree limits table store n 0 below above
      go zero = refl
      go (suc n) = refl

  -- with no height left the walk finds no node
  pub tree_deep : (link ≡ 0 → ⊥) → remaining ≡ 0 → None ≡ check_tree limits table store remaining link below above
  unfolding check_tree
  tree_deep n e = rw e (go link n)
    where
      go : (k : ℕ) → (k ≡ 0 → ⊥) → None ≡ check_tree limits table store 0 k below above
      go zero n = absurd (n refl)
      go (suc k) n = refl
