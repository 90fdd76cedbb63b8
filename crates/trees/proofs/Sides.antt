-- The side laws: what is observed of a node does not depend on the side it is built from. Later lemmas cite them,
-- and only settled-on of Rotations splits on the side again.
-- height_from, size_from, balanced_from: height, size and balance of a node built from a side.
-- kept_from, sons_from: the height rule is kept at a node built from a side exactly where its two subtrees may be sons.
-- node_from: a node is built from any side by its subtrees on that side and on the other.
-- height_on, sons_on: height and height rule of a node, by its subtrees on a side and on the other.
use mathlib.Core.Path.{◌≡◌, refl, ap, subst, ◌∙◌}
use mathlib.Core.Bool.{Bool, true, false, ◌&&◌, and_comm}
use Prim.Native.Nat.{suc, ◌+◌, max}
use native.Mathlib.Omega.{arith}
use lib.Dec.{leb}
use Rattle.trees.specs.Trees.{Entry, Tree, node, size, Side, left, right, other, from, on}
use Rattle.trees.specs.Heights.{height, is_balanced}
use Rattle.trees.proofs.Heights.{Sons, Kept, KeptSons}

-- Sons may change places.
sons_swapped : {a b : Tree} {A B : Type 0} → Sons a b A B → Sons b a B A
sons_swapped h =
    record { near_fits = h.far_fits; far_fits = h.near_fits; near_kept = h.far_kept; far_kept = h.near_kept }

-- A node is one higher than the higher of its subtrees, from either side.
pub height_from : (s : Side) (near : Tree) (e : Entry) (far : Tree)
    → height (from s near e far) ≡ suc (max (height near) (height far))
height_from left near e far = refl
height_from right near e far = omega arith

-- A node has one node more than its subtrees together, from either side.
pub size_from : (s : Side) (near : Tree) (e : Entry) (far : Tree)
    → size (from s near e far) ≡ suc (size near + size far)
size_from left near e far = refl
size_from right near e far = omega arith

-- Two tests and what they guard may change places.
and_swapped : (p q a b : Bool) → (p && (q && (a && b))) ≡ (q && (p && (b && a)))
and_swapped true true a b = and_comm a b
and_swapped true false a b = refl
and_swapped false true a b = refl
and_swapped false false a b = refl

-- A node built from a side is balanced where the node with the subtrees in reading order is.
pub balanced_from : (s : Side) (near : Tree) (e : Entry) (far : Tree)
    → is_balanced (from s near e far) ≡ is_balanced (node near e far)
balanced_from left near e far = refl
balanced_from right near e far =
    and_swapped (leb (height far) (suc (height near))) (leb (height near) (suc (height far)))
    (is_balanced far) (is_balanced near)

-- A node keeps the height rule where its subtrees do and neither is higher by more than one, from either side.
pub kept_from : (s : Side) (near : Tree) (e : Entry) (far : Tree) → KeptSons near far → Kept (from s near e far)
kept_from left near e far h = h
kept_from right near e far h = sons_swapped h

-- Where a node keeps the height rule, its subtrees are such sons, from either side.
pub sons_from : (s : Side) (near : Tree) (e : Entry) (far : Tree) → Kept (from s near e far) → KeptSons near far
sons_from left near e far h = h
sons_from right near e far h = sons_swapped h

-- A node is built from any side by its subtrees on that side and on the other.
pub node_from : (s : Side) (l : Tree) (e : Entry) (r : Tree) → node l e r ≡ from s (on s l r) e (on (other s) l r)
node_from left l e r = refl
node_from right l e r = refl

-- The height of a node, by its subtrees on a side and on the other.
pub height_on : (s : Side) (l : Tree) (e : Entry) (r : Tree)
    → height (node l e r) ≡ suc (max (height (on s l r)) (height (on (other s) l r)))
height_on s l e r = ap height (node_from s l e r) ∙ height_from s (on s l r) e (on (other s) l r)

-- The sons of a node that keeps the height rule, on a side and on the other.
pub sons_on : (s : Side) (l : Tree) (e : Entry) (r : Tree) → Kept (node l e r) → KeptSons (on s l r) (on (other s) l r)
sons_on s l e r h = sons_from s (on s l r) e (on (other s) l r) (subst Kept (node_from s l e r) h)
