-- Rotations ('Updates' of document 01), each written once for both sides.
use Rattle.std.specs.Prelude.{Bool, true, false, suc, ltb}
use Rattle.trees.specs.Trees.{Entry, Tree, empty, node, Side, left, right, other, from, on}
use Rattle.trees.specs.Heights.{height}

-- "one rotation if the taller son is even or leans the same way (false), a double one if it leans the other way
-- (true)".
-- The taller son has the entry y, and the subtrees outer, away from the node, and inner, towards it; e and short are
-- the node's entry and its other son.
abbrev pub rotated : Side → Bool → Tree → Entry → Tree → Entry → Tree → Tree
rotated s false outer y inner e short = from s outer y (from s inner e short)
rotated s true outer y empty e short = from s outer y (from s empty e short)
rotated s true outer y (node i w j) e short = from s (from s outer y (on s i j)) w (from s (on (other s) i j) e short)

-- a node whose son on side s is taller by two is turned
abbrev pub turned : Side → Tree → Entry → Tree → Tree
turned s empty e short = from s empty e short
turned s (node l y r) e short =
    rotated s (ltb (height (on s l r)) (height (on (other s) l r))) (on s l r) y (on (other s) l r) e short

abbrev pub rebalanced_by : Bool → Bool → Tree → Entry → Tree → Tree
rebalanced_by true tall_right l e r = turned left l e r
rebalanced_by false true l e r = turned right r e l
rebalanced_by false false l e r = node l e r

-- "a node out of balance by two is turned", "heights counted afresh"
abbrev pub rebalanced : Tree → Entry → Tree → Tree
rebalanced l e r = rebalanced_by (ltb (suc (height r)) (height l)) (ltb (suc (height l)) (height r)) l e r
