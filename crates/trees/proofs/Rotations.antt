-- Rotations keep the height rule, argued once for both sides.
-- settled_rebalanced: `rebalanced` settles a node whose sons' heights differ by at most two.
-- settled_on: so it does whichever of the sons is on the left.
-- balanced_rebalanced: `rebalanced` of two balanced trees whose heights differ by at most two is balanced.
use mathlib.Core.Path.{◌≡◌}
use mathlib.Core.Bool.{Bool}
use Prim.Native.Nat.{ℕ, suc, ◌≤◌, min, max}
use native.Mathlib.Omega.{arith}
use Rattle.labels.proofs.Numbers.{Ltb, lt_yes, lt_no, ltb_view}
use Rattle.trees.specs.Trees.{Entry, Tree, empty, node, Side, left, right, other, from, on}
use Rattle.trees.specs.Heights.{height, Balanced}
use Rattle.trees.specs.Turns.{rotated, turned, rebalanced_by, rebalanced}
use Rattle.trees.proofs.Heights.{Kept, KeptSons, kept_of_balanced, balanced_of_kept}
use Rattle.trees.proofs.Sides.{height_from, kept_from, height_on, sons_on}

-- a node over sons of heights m and n, where the height rule is kept
record Built (m n : ℕ) (t : Tree) : Type 0 where
  kept : Kept t
  tall : height t ≡ suc (max m n)

-- Two trees that keep the height rule, neither higher by more than one, are built into such a node from either side.
built_from : (s : Side) (near : Tree) (e : Entry) (far : Tree) → Kept near → Kept far
    → height near ≤ suc (height far) → height far ≤ suc (height near)
    → Built (height near) (height far) (from s near e far)
built_from s near e far near_kept far_kept near_fits far_fits =
    let sons : KeptSons near far =
    record { near_fits = near_fits; far_fits = far_fits; near_kept = near_kept; far_kept = far_kept } in
    record { kept = kept_from s near e far sons; tall = height_from s near e far }

-- what takes the place of a node over sons of heights m and n: it keeps the height rule, and has the node's height
-- where they differ by at most one; where one is higher by two it is as high as that one or one higher
pub record Settled (m n : ℕ) (t : Tree) : Type 0 where
  pub kept : Kept t
  pub over_near : min (suc m) (suc (suc n)) ≤ height t
  pub over_far : min (suc n) (suc (suc m)) ≤ height t
  pub within : height t ≤ suc (max m n)

-- The two sons may change places.
settled_swapped : (m n : ℕ) (t : Tree) → Settled m n t → Settled n m t
settled_swapped m n t h =
    record { kept = h.kept; over_near = h.over_far; over_far = h.over_near; within = omega arith }

-- A rotation takes the higher son of a node apart: its height is tall, its entry y, its subtrees are outer and inner.
-- The node has the entry e and the other son short.
module _ (s : Side) (outer : Tree) (y : Entry) (e : Entry) (short : Tree) (tall : ℕ)
    (outer_kept : Kept outer) (short_kept : Kept short) (by_two : tall ≡ suc (suc (height short))) where
  -- One rotation settles a node whose higher son is even or leans outwards.
  settled_once : (inner : Tree) → Kept inner → height outer ≡ suc (height short)
      → height inner ≤ height outer → height outer ≤ suc (height inner)
      → Settled tall (height short) (from s outer y (from s inner e short))
  settled_once inner inner_kept higher lean fits =
      let low = built_from s inner e short inner_kept short_kept (omega arith) (omega arith) in
      let top = built_from s outer y (from s inner e short) outer_kept low.kept (omega arith) (omega arith) in
      record { kept = top.kept; over_near = omega arith; over_far = omega arith; within = omega arith }

  -- Two rotations settle a node whose higher son leans inwards; the inner son has the entry w and the sons near, far.
  settled_twice : (near : Tree) (w : Entry) (far : Tree) → KeptSons near far
      → height outer ≡ height short → max (height near) (height far) ≡ height short
      → Settled tall (height short) (from s (from s outer y near) w (from s far e short))
  settled_twice near w far inner outer_level inner_level =
      let high = built_from s outer y near outer_kept inner.near_kept (omega arith) (omega arith) in
      let low = built_from s far e short inner.far_kept short_kept (omega arith) (omega arith) in
      let top = built_from s (from s outer y near) w (from s far e short)
      high.kept low.kept (omega arith) (omega arith) in
      record { kept = top.kept; over_near = omega arith; over_far = omega arith; within = omega arith }

  -- The rotation that the lean of the higher son asks for settles the node.
  settled_rotated : (inner : Tree) {lean : Bool} → Ltb (height outer) (height inner) lean → KeptSons outer inner
      → tall ≡ suc (max (height outer) (height inner))
      → Settled tall (height short) (rotated s lean outer y inner e short)
  settled_rotated inner (lt_no p) higher tall_height =
      settled_once inner higher.far_kept (omega arith) p (omega arith)
  settled_rotated empty (lt_yes p) higher tall_height = absurd (omega arith)
  settled_rotated (node i w j) (lt_yes p) higher tall_height =
      let inner_height = height_on s i w j in
      settled_twice (on s i j) w (on (other s) i j) (sons_on s i w j higher.far_kept) (omega arith) (omega arith)

-- A node whose son on a side is higher by two is settled by its turn.
settled_turned : (s : Side) (tall : Tree) (e : Entry) (short : Tree) → Kept tall → Kept short
    → height tall ≡ suc (suc (height short)) → Settled (height tall) (height short) (turned s tall e short)
settled_turned s empty e short tall_kept short_kept by_two = absurd (omega arith)
settled_turned s (node l y r) e short tall_kept short_kept by_two =
    let higher = sons_on s l y r tall_kept in
    settled_rotated s (on s l r) y e short (height (node l y r)) higher.near_kept short_kept by_two
    (on (other s) l r) (ltb_view (height (on s l r)) (height (on (other s) l r))) higher (height_on s l y r)

-- `rebalanced` settles a node whose sons' heights differ by at most two.
module _ (l : Tree) (e : Entry) (r : Tree) (l_kept : Kept l) (r_kept : Kept r)
    (l_fits : height l ≤ suc (suc (height r))) (r_fits : height r ≤ suc (suc (height l))) where
  settled_by_lem : {tall_left tall_right : Bool}
      → Ltb (suc (height r)) (height l) tall_left → Ltb (suc (height l)) (height r) tall_right
      → Settled (height l) (height r) (rebalanced_by tall_left tall_right l e r)
  settled_by_lem (lt_yes p) q = settled_turned left l e r l_kept r_kept (omega arith)
  settled_by_lem (lt_no p) (lt_yes q) =
      settled_swapped (height r) (height l) (turned right r e l)
      (settled_turned right r e l r_kept l_kept (omega arith))
  settled_by_lem (lt_no p) (lt_no q) =
      let top = built_from left l e r l_kept r_kept p q in
      record { kept = top.kept; over_near = omega arith; over_far = omega arith; within = omega arith }

  pub settled_rebalanced : Settled (height l) (height r) (rebalanced l e r)
  settled_rebalanced = settled_by_lem (ltb_view (suc (height r)) (height l)) (ltb_view (suc (height l)) (height r))

-- So it does whichever son is on the left.
pub settled_on : (s : Side) (near : Tree) (e : Entry) (far : Tree) → Kept near → Kept far
    → height near ≤ suc (suc (height far)) → height far ≤ suc (suc (height near))
    → Settled (height near) (height far) (rebalanced (on s near far) e (on (other s) near far))
settled_on left near e far near_kept far_kept p q = settled_rebalanced near e far near_kept far_kept p q
settled_on right near e far near_kept far_kept p q =
    settled_swapped (height far) (height near) (rebalanced far e near)
    (settled_rebalanced far e near far_kept near_kept q p)

-- `rebalanced` of two balanced trees whose heights differ by at most two is balanced.
pub balanced_rebalanced : (l : Tree) (e : Entry) (r : Tree) → Balanced l → Balanced r
    → height l ≤ suc (suc (height r)) → height r ≤ suc (suc (height l)) → Balanced (rebalanced l e r)
balanced_rebalanced l e r l_balanced r_balanced p q =
    let settled = settled_rebalanced l e r (kept_of_balanced l l_balanced) (kept_of_balanced r r_balanced) p q in
    balanced_of_kept (rebalanced l e r) settled.kept
