-- The windows of the subtrees that a rotation moves, and the order of the nodes that it turns.
-- `rep_outwards`, `rep_inwards`: a subtree beyond a son stands in the same window with or without the node above it.
-- `rep_crossed`: the subtree between a node and its son stands in the same window under either.
-- `rep_parted_near`, `rep_parted_far`: so do the two subtrees of the node that a double rotation raises.
-- `rising_inner`, `rising_twice`: the order of the nodes that a double rotation turns.
-- `turns_inner`: the rows of the first of its two rotations.
-- `row_bare`: a node's row, from its links and the way it leans.
use mathlib.Core.Path.{◌≡◌}
use mathlib.Core.List.{List}
use mathlib.Core.Bool.{not}
use Prim.Native.Nat.{ℕ}
use Rattle.labels.specs.Labels.{Label}
use Rattle.labels.specs.Neighbours.{Neighbour}
use Rattle.labels.proofs.Difference.{before_trans}
use Rattle.trees.specs.Trees.{Entry, Tree, Side, left, right, other, from}
use Rattle.trees.specs.Heights.{height}
use Rattle.trees.proofs.Sorted.{Between}
use Rattle.tables.specs.Written.{link_of}
use Rattle.rotations.proofs.Rep.{bare_row, flip_on, low_on, high_on, RepOn}
use Rattle.rotations.proofs.Fields.{Turns}
use Rattle.rotations.proofs.Flips.{Leans, balance_is}
use Rattle.rotations.proofs.Prefix.{row_of, RisingOn, turns_row}

module _ (table : List ℕ) (p q : Neighbour) (x y : Label) (t : Tree) where
  -- A subtree beyond y, on the side s of it, stands in the same window under x and y as under y alone.
  pub rep_outwards : (s : Side) → RepOn s table (low_on s p x) y (high_on s x q) t → RepOn s table p y q t
  rep_outwards left rep = rep
  rep_outwards right rep = rep

  pub rep_inwards : (s : Side) → RepOn s table p y q t → RepOn s table (low_on s p x) y (high_on s x q) t
  rep_inwards left rep = rep
  rep_inwards right rep = rep

  -- The subtree between x and its son y stands in the same window where x is y's son.
  pub rep_crossed : (s : Side) → RepOn (other s) table (low_on s p x) y (high_on s x q) t
      → RepOn s table (low_on (other s) p y) x (high_on (other s) y q) t
  rep_crossed left rep = rep
  rep_crossed right rep = rep

-- A double rotation raises z, the inner son of y, which is a son of x on the side s.
module _ (table : List ℕ) (p q : Neighbour) (x y z : Label) (t : Tree) where
  -- The subtree of z on the side of y comes under y.
  pub rep_parted_near : (s : Side)
      → RepOn s table (low_on (other s) (low_on s p x) y) z (high_on (other s) y (high_on s x q)) t
      → RepOn (other s) table (low_on s p z) y (high_on s z q) t
  rep_parted_near left rep = rep
  rep_parted_near right rep = rep

  -- The subtree of z on the side of x comes under x.
  pub rep_parted_far : (s : Side)
      → RepOn (other s) table (low_on (other s) (low_on s p x) y) z (high_on (other s) y (high_on s x q)) t
      → RepOn s table (low_on (other s) p z) x (high_on (other s) z q) t
  rep_parted_far left rep = rep
  rep_parted_far right rep = rep

module _ (p q : Neighbour) (outer : Tree) (y : Entry) (i : Tree) (w : Entry) (j : Tree) (e : Entry) (short : Tree) where
  -- The inner son and its parent are in order.
  pub rising_inner : (s : Side) → Between p q (from s (from s outer y (from s i w j)) e short)
      → RisingOn (other s) (low_on s p e.label) w.label y.label (high_on s e.label q)
  rising_inner left order =
      let son = order.on_left_lem in
      record { first = son.above; second = son.on_right_lem.above; third = son.on_right_lem.below }
  rising_inner right order =
      let son = order.on_right_lem in
      record { first = son.on_left_lem.above; second = son.on_left_lem.below; third = son.below }

  -- The inner son and the node are in order.
  pub rising_twice : (s : Side) → Between p q (from s (from s outer y (from s i w j)) e short)
      → RisingOn s p w.label e.label q
  rising_twice left order =
      let son = order.on_left_lem in
      let first = before_trans son.above son.on_right_lem.above in
      record { first = first; second = son.on_right_lem.below; third = order.below }
  rising_twice right order =
      let son = order.on_right_lem in
      let third = before_trans son.on_left_lem.below son.below in
      record { first = order.above; second = son.on_left_lem.above; third = third }

-- The rows of the first of two rotations: w rises over y, and y has the window that it keeps.
pub turns_inner : (s : Side) (p q : Neighbour) (e y w : Entry)
    → RisingOn (other s) (low_on s p e.label) w.label y.label (high_on s e.label q)
    → (l r b l' r' b' : ℕ)
    → Turns (not (flip_on s)) (row_of (low_on s p e.label) l r b y (high_on s e.label q))
    (row_of (low_on (other s) (low_on s p e.label) y.label) l' r' b' w
    (high_on (other s) y.label (high_on s e.label q)))
    (row_of (low_on s p e.label) l' r' b' w (high_on s e.label q))
    (row_of (low_on s p w.label) l r b y (high_on s w.label q))
turns_inner left p q e y w rising = turns_row right (low_on left p e.label) (high_on left e.label q) y w rising
turns_inner right p q e y w rising = turns_row left (low_on right p e.label) (high_on right e.label q) y w rising

-- A node's row, from its links and the way it leans.
pub row_bare : (p q : Neighbour) (near : Tree) (e : Entry) (far : Tree) {l r b : ℕ} → l ≡ link_of near → r ≡ link_of far
    → Leans (height near) (height far) b → row_of p l r b e q ≡ bare_row p near e far q
row_bare p q near e far on_near on_far lean = let balance = balance_is lean in cc
