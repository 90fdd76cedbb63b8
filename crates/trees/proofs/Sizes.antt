-- The smallest height-balanced trees, and the depth that a number of nodes allows.
-- least_monotone: a greater height takes at least as many nodes.
-- least_is_least: `least` is the least number of nodes of a height-balanced tree of a height.
-- least_below_height: a balanced tree has at least as many nodes as the smallest tree of any height up to its own.
-- deepest_is_depth: the depth that `Deepest` names is the greatest height of a balanced tree with so many nodes.
use mathlib.Core.Path.{◌≡◌, refl}
use mathlib.Core.List.{[]}
use Prim.Native.Nat.{ℕ, zero, suc, ◌+◌, ◌≤◌, max}
use native.Mathlib.Omega.{arith}
use mathlib.Core.Bool.{Bool}
use Rattle.labels.proofs.Numbers.{Ltb, lt_yes, lt_no, ltb_view}
use Rattle.trees.specs.Trees.{Entry, Tree, empty, node, size}
use Rattle.trees.specs.Heights.{height, Balanced, least, LeastIsLeast, Deepest, DepthIsDeepest}
use Rattle.trees.proofs.Heights.{Kept, kept_of_balanced, balanced_of_kept}

-- an entry for trees in which no entry matters
abbrev blank : Entry
blank = record { label = []; value = 0; slot = 0; charge = 0 }

-- One height more takes at least as many nodes.
least_grows : (h : ℕ) → least h ≤ least (suc h)
least_grows zero = omega arith
least_grows (suc h) = omega arith

-- A greater height takes at least as many nodes.
pub least_monotone : (low high : ℕ) → low ≤ high → least low ≤ least high
least_monotone low zero h = let same : low ≡ 0 = omega arith in rw same (omega arith)
least_monotone low (suc high) h = by_test (ltb_view high low) (least_monotone low high)
  where
    by_test : {b : Bool} → Ltb high low b → (low ≤ high → least low ≤ least high) → least low ≤ least (suc high)
    by_test (lt_yes p) lower = let same : low ≡ suc high = omega arith in rw same (omega arith)
    by_test (lt_no p) lower = omega (arith, lower p, least_grows high)

-- A node over a son of height `high` and another at most one lower takes at least the least number of nodes.
least_over : (low high : ℕ) → high ≤ suc low → least (suc high) ≤ suc (least low + least high)
least_over low zero h = omega arith
least_over low (suc high) h = omega (arith, least_monotone high low (omega arith))

-- So it is whichever of the two is higher.
least_over_both : (m n : ℕ) → m ≤ suc n → n ≤ suc m → least (suc (max m n)) ≤ suc (least m + least n)
least_over_both m n p q = by_test (ltb_view m n)
  where
    by_test : {b : Bool} → Ltb m n b → least (suc (max m n)) ≤ suc (least m + least n)
    by_test (lt_yes below) = let top : max m n ≡ n = omega arith in rw top (omega (arith, least_over m n q))
    by_test (lt_no within) = let top : max m n ≡ m = omega arith in rw top (omega (arith, least_over n m p))

-- A tree that keeps the height rule has at least the least number of nodes of its height.
size_of_kept : (t : Tree) → Kept t → least (height t) ≤ size t
size_of_kept empty h = omega arith
size_of_kept (node l e r) h =
    omega (
      arith,
      size_of_kept l h.near_kept,
      size_of_kept r h.far_kept,
      least_over_both (height l) (height r) h.near_fits h.far_fits,
    )

-- the smallest tree of each height, with any entry at its nodes
abbrev smallest : ℕ → Tree
smallest zero = empty
smallest (suc zero) = node empty blank empty
smallest (suc (suc h)) = node (smallest (suc h)) blank (smallest h)

-- The smallest tree of a height has that height.
height_of_smallest : (h : ℕ) → height (smallest h) ≡ h
height_of_smallest zero = refl
height_of_smallest (suc zero) = refl
height_of_smallest (suc (suc h)) = omega (arith, height_of_smallest (suc h), height_of_smallest h)

-- It has the least number of nodes.
size_of_smallest : (h : ℕ) → size (smallest h) ≡ least h
size_of_smallest zero = refl
size_of_smallest (suc zero) = refl
size_of_smallest (suc (suc h)) = omega (arith, size_of_smallest (suc h), size_of_smallest h)

-- It keeps the height rule.
kept_smallest : (h : ℕ) → Kept (smallest h)
kept_smallest zero = tt
kept_smallest (suc zero) = record { near_fits = omega arith; far_fits = omega arith; near_kept = tt; far_kept = tt }
kept_smallest (suc (suc h)) =
    let higher = height_of_smallest (suc h) in
    let lower = height_of_smallest h in
    record {
      near_fits = omega arith;
      far_fits = omega arith;
      near_kept = kept_smallest (suc h);
      far_kept = kept_smallest h;
    }

-- `least` is the least number of nodes of a height-balanced tree of a height, and is reached.
pub least_is_least : LeastIsLeast
least_is_least = record {
  at_least = λ t h. size_of_kept t (kept_of_balanced t h);
  reached = λ h. let t : Tree = smallest h in
      (t, balanced_of_kept t (kept_smallest h), height_of_smallest h, size_of_smallest h);
}

-- A balanced tree has at least as many nodes as the smallest tree of any height up to its own.
pub least_below_height : (t : Tree) → Balanced t → (v : ℕ) → v ≤ height t → least v ≤ size t
least_below_height t h v p = omega (arith, least_monotone v (height t) p, size_of_kept t (kept_of_balanced t h))

-- The depth that `Deepest` names is the greatest height of a balanced tree with so many nodes.
pub deepest_is_depth : (capacity depth : ℕ) → Deepest capacity depth → DepthIsDeepest capacity depth
deepest_is_depth capacity depth deepest =
    let (t, balanced, as_high, as_many) = least_is_least.reached depth in
    record {
      bound = λ u h fits. by_test u h fits (ltb_view depth (height u));
      attained = (t, balanced, omega arith, as_high);
    }
  where
    by_test : (t : Tree) → Balanced t → size t ≤ capacity → {b : Bool} → Ltb depth (height t) b → height t ≤ depth
    by_test t h fits (lt_yes p) = absurd (omega (arith, least_below_height t h (suc depth) p))
    by_test t h fits (lt_no p) = p
