-- The plain tree ('The cost rule' of document 01): "Its nodes carry a label, a value and a slot." "In the cost rule
-- nodes carry the charge" too (M-109 of document 02).
use Rattle.std.specs.Prelude.{List, [], ◌∷◌, ◌++◌, map, ℕ, suc, ◌+◌}
use Rattle.labels.specs.Labels.{Label}

pub record Entry : Type 0 where
  pub label : Label
  pub value : ℕ
  pub slot : ℕ
  pub charge : ℕ

pub data Tree : Type 0 where
  empty : Tree
  node : Tree → Entry → Tree → Tree

-- an entry is one of a tree's nodes
pub data NodeOf (e : Entry) : Tree → Type 0 where
  at_root : {l r : Tree} → NodeOf e (node l e r)
  on_left_lem : {l r : Tree} {d : Entry} → NodeOf e l → NodeOf e (node l d r)
  on_right_lem : {l r : Tree} {d : Entry} → NodeOf e r → NodeOf e (node l d r)

-- the nodes from left to right
abbrev pub entries : Tree → List Entry
entries empty = []
entries (node l e r) = entries l ++ (e ∷ entries r)

abbrev pub labels : Tree → List Label
labels t = map (λ e. e.label) (entries t)

abbrev pub slots : Tree → List ℕ
slots t = map (λ e. e.slot) (entries t)

abbrev pub charges : Tree → List ℕ
charges t = map (λ e. e.charge) (entries t)

-- the number of nodes
abbrev pub size : Tree → ℕ
size empty = 0
size (node l e r) = suc (size l + size r)

-- the two sides of a node; what is said of a side is said of both
pub data Side : Type 0 where
  left : Side
  right : Side

abbrev pub other : Side → Side
other left = right
other right = left

-- a node by the subtree on a side, its entry, and the subtree on the other side
abbrev pub from : Side → Tree → Entry → Tree → Tree
from left near e far = node near e far
from right near e far = node far e near

-- of a left and a right subtree, the one on a side
abbrev pub on : Side → Tree → Tree → Tree
on left l r = l
on right l r = r
