-- The nodes from left to right: rotations keep them, and the smallest node is the first of them.
-- entries_of_rebalanced: rebalancing keeps the nodes in order.
-- least_then_rest: the smallest node, then the nodes without it.
-- entries_of_joined: joined sons hold the nodes of both, in order.
-- mapped_node, mapped_rebalanced, mapped_least, mapped_joined: so for what each node gives, as its label or its slot.
-- length_of_entries: there are as many nodes in the list as in the tree.
use mathlib.Core.List.{List, ◌∷◌, ◌++◌, map, map-append, append_assoc, append-nil}
use mathlib.Core.Bool.{Bool, true, false}
use mathlib.Core.Path.{◌≡◌, refl, sym, ap, ◌∙◌}
use Prim.Native.Nat.{suc}
use native.Mathlib.Omega.{arith}
use lib.Dec.{ltb}
use lib.ListN.{length, length-append}
use Rattle.trees.specs.Trees.{Entry, Tree, empty, node, Side, left, right, other, from, on, entries, size}
use Rattle.trees.specs.Heights.{height}
use Rattle.trees.specs.Turns.{rotated, turned, rebalanced_by, rebalanced}
use Rattle.trees.specs.Updates.{without_least, joined}

-- two lists of nodes around an entry, the first on the side s
abbrev join_on : Side → List Entry → Entry → List Entry → List Entry
join_on left near e far = near ++ (e ∷ far)
join_on right near e far = far ++ (e ∷ near)

join_on_assoc : (s : Side) (a : List Entry) (y : Entry) (b : List Entry) (e : Entry) (c : List Entry)
    → join_on s a y (join_on s b e c) ≡ join_on s (join_on s a y b) e c
join_on_assoc left a y b e c = simp append_assoc
join_on_assoc right a y b e c = simp append_assoc

-- The nodes of a tree that is built from a side stand around its entry.
entries_of_from : (s : Side) (near : Tree) (e : Entry) (far : Tree)
    → entries (from s near e far) ≡ join_on s (entries near) e (entries far)
entries_of_from left near e far = refl
entries_of_from right near e far = refl

-- The nodes of two sons, each taken by its side, stand around the entry between them.
entries_on_sides : (s : Side) (l : Tree) (e : Entry) (r : Tree)
    → join_on s (entries (on s l r)) e (entries (on (other s) l r)) ≡ entries (node l e r)
entries_on_sides left l e r = refl
entries_on_sides right l e r = refl

-- One rotation or two keep the nodes in order.
entries_of_rotated : (s : Side) (twice : Bool) (outer : Tree) (y : Entry) (inner : Tree) (e : Entry) (short : Tree)
    → entries (rotated s twice outer y inner e short)
    ≡ join_on s (join_on s (entries outer) y (entries inner)) e (entries short)
entries_of_rotated s false outer y inner e short = simp (entries_of_from, join_on_assoc)
entries_of_rotated s true outer y empty e short = simp (entries_of_from, join_on_assoc)
entries_of_rotated s true outer y (node i w j) e short =
    rw (← entries_on_sides s i w j) (simp (entries_of_from, join_on_assoc))

-- Turning a node keeps the nodes in order.
entries_of_turned : (s : Side) (tall : Tree) (e : Entry) (short : Tree)
    → entries (turned s tall e short) ≡ join_on s (entries tall) e (entries short)
entries_of_turned s empty e short = entries_of_from s empty e short
entries_of_turned s (node l y r) e short =
    rw (← entries_on_sides s l y r)
    (entries_of_rotated s (ltb (height (on s l r)) (height (on (other s) l r))) (on s l r) y (on (other s) l r) e short)

entries_of_rebalanced_by : (tall_left tall_right : Bool) (l : Tree) (e : Entry) (r : Tree)
    → entries (rebalanced_by tall_left tall_right l e r) ≡ entries l ++ (e ∷ entries r)
entries_of_rebalanced_by true tall_right l e r = entries_of_turned left l e r
entries_of_rebalanced_by false true l e r = entries_of_turned right r e l
entries_of_rebalanced_by false false l e r = refl

-- Rebalancing keeps the nodes in order.
pub entries_of_rebalanced : (l : Tree) (e : Entry) (r : Tree)
    → entries (rebalanced l e r) ≡ entries l ++ (e ∷ entries r)
entries_of_rebalanced l e r =
    entries_of_rebalanced_by (ltb (suc (height r)) (height l)) (ltb (suc (height l)) (height r)) l e r

-- The smallest node comes first, then the nodes without it.
pub least_then_rest : (l : Tree) (e : Entry) (r : Tree)
    → (without_least l e r).least ∷ entries (without_least l e r).rest ≡ entries (node l e r)
least_then_rest empty e r = refl
least_then_rest (node a d b) e r =
    rw entries_of_rebalanced (ap (λ (first : List Entry). first ++ (e ∷ entries r)) (least_then_rest a d b))

-- Joined sons hold the nodes of both, in order.
pub entries_of_joined : (l r : Tree) → entries (joined l r) ≡ entries l ++ entries r
entries_of_joined l empty = sym (append-nil (entries l))
entries_of_joined empty (node b d c) = refl
entries_of_joined (node a e z) (node b d c) = rw (entries_of_rebalanced, least_then_rest)

module _ {A : Type 0} (f : Entry → A) where
  -- What each node of a tree gives (its label, its slot, its pair) stands in the order of the nodes.
  pub mapped_node : (l : Tree) (e : Entry) (r : Tree)
      → map f (entries (node l e r)) ≡ map f (entries l) ++ (f e ∷ map f (entries r))
  mapped_node l e r = map-append f (entries l) (e ∷ entries r)

  pub mapped_rebalanced : (l : Tree) (e : Entry) (r : Tree)
      → map f (entries (rebalanced l e r)) ≡ map f (entries l) ++ (f e ∷ map f (entries r))
  mapped_rebalanced l e r = ap (map f) (entries_of_rebalanced l e r) ∙ mapped_node l e r

  pub mapped_least : (l : Tree) (e : Entry) (r : Tree)
      → f (without_least l e r).least ∷ map f (entries (without_least l e r).rest) ≡ map f (entries (node l e r))
  mapped_least l e r = ap (map f) (least_then_rest l e r)

  pub mapped_joined : (l r : Tree) → map f (entries (joined l r)) ≡ map f (entries l) ++ map f (entries r)
  mapped_joined l r = ap (map f) (entries_of_joined l r) ∙ map-append f (entries l) (entries r)

-- There are as many nodes in the list as in the tree.
pub length_of_entries : (t : Tree) → length (entries t) ≡ size t
length_of_entries empty = refl
length_of_entries (node l e r) =
    omega (arith, length-append (entries l) (e ∷ entries r), length_of_entries l, length_of_entries r)
