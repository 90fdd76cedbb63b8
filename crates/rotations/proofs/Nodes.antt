-- A node built from a side: its row, its order, its slots.
-- `Standing`, `from_row`, `rep_from`, `from_rep`: a node in the rows of a table, from a side.
-- `Placed`, `between_from`: a node in order, from a side. `rising_from`: a node and its son on a side.
-- `occurrences_from`: the slots of a node, from a side. `link_from`: its link.
-- `Seen`, `seen`: a tree is empty or a node built from a side.
use mathlib.Core.Path.{◌≡◌, refl, sym, ap, ◌∙◌}
use mathlib.Core.List.{List}
use Prim.Native.Nat.{ℕ, ◌+◌}
use native.Mathlib.Omega.{arith}
use lib.Dec.{eqb}
use Rattle.labels.specs.Labels.{Label}
use Rattle.labels.specs.Neighbours.{Neighbour, held}
use Rattle.labels.proofs.Difference.{Before}
use Rattle.trees.specs.Trees.{Entry, Tree, empty, node, slots, Side, left, right, other, from, on}
use Rattle.trees.specs.Valid.{one_if, occurrences}
use Rattle.trees.proofs.Sorted.{Between}
use Rattle.trees.proofs.SlotCounts.{occurrences_of_node}
use Rattle.tables.specs.Words.{row_at}
use Rattle.tables.specs.Written.{link_of}
use Rattle.words.specs.Rows.{HasRow}
use Rattle.sides.specs.Rows.{flipped, row_on}
use Rattle.rotations.proofs.Rep.{bare_row, Rep, flip_on, low_on, high_on, RepOn}
use Rattle.rotations.proofs.Flips.{flipped_twice, flipped_bare}
use Rattle.rotations.proofs.Prefix.{RisingOn}

-- a node in the rows of a table, seen from a side
pub record Standing (s : Side) (table : List ℕ) (p q : Neighbour) (near : Tree) (e : Entry) (far : Tree) : Type 0 where
  pub has : HasRow table e.slot
  pub row : row_on (flip_on s) table e.slot ≡ bare_row p near e far q
  pub near_rep : RepOn s table p e.label q near
  pub far_rep : RepOn (other s) table p e.label q far

module _ (table : List ℕ) (p q : Neighbour) (near : Tree) (e : Entry) (far : Tree) where
  -- The row of a node's slot, from the row seen from a side.
  row_from : (s : Side) → row_on (flip_on s) table e.slot ≡ bare_row p near e far q
      → row_at table e.slot ≡ bare_row p (on s near far) e (on (other s) near far) q
  row_from s row =
      sym (flipped_twice (flip_on s) (row_at table e.slot))
      ∙ ap (flipped (flip_on s)) (row ∙ sym (flipped_bare s p q near e far))
      ∙ flipped_twice (flip_on s) (bare_row p (on s near far) e (on (other s) near far) q)

  -- The row seen from a side, from the row of a node's slot.
  pub from_row : (s : Side) → row_at table e.slot ≡ bare_row p (on s near far) e (on (other s) near far) q
      → row_on (flip_on s) table e.slot ≡ bare_row p near e far q
  from_row s row = ap (flipped (flip_on s)) row ∙ flipped_bare s p q near e far

  -- A node that stands in the rows, from either side, is represented.
  pub rep_from : (s : Side) → Standing s table p q near e far → Rep table p q (from s near e far)
  rep_from left here = (record { has = here.has; row = row_from left here.row }, here.near_rep, here.far_rep)
  rep_from right here = (record { has = here.has; row = row_from right here.row }, here.far_rep, here.near_rep)

  -- A node that is represented stands in the rows, from either side.
  pub from_rep : (s : Side) → Rep table p q (from s near e far) → Standing s table p q near e far
  from_rep left rep =
      record { has = rep.0.has; row = from_row left rep.0.row; near_rep = rep.1; far_rep = rep.2 }
  from_rep right rep =
      record { has = rep.0.has; row = from_row right rep.0.row; near_rep = rep.2; far_rep = rep.1 }

-- a node in order, seen from a side
pub record Placed (s : Side) (p q : Neighbour) (near : Tree) (x : Label) (far : Tree) : Type 0 where
  pub above : Before p (held x)
  pub below : Before (held x) q
  pub near_order : Between (low_on s p x) (high_on s x q) near
  pub far_order : Between (low_on (other s) p x) (high_on (other s) x q) far

-- The order of a node built from a side.
pub between_from : (s : Side) (p q : Neighbour) (near : Tree) (e : Entry) (far : Tree) → Between p q (from s near e far)
    → Placed s p q near e.label far
between_from left p q near e far order =
    record { above = order.above; below = order.below; near_order = order.on_left_lem; far_order = order.on_right_lem }
between_from right p q near e far order =
    record { above = order.above; below = order.below; near_order = order.on_right_lem; far_order = order.on_left_lem }

-- A node and its son on a side are in order.
pub rising_from : (s : Side) (p q : Neighbour) (outer : Tree) (y : Entry) (inner : Tree) (e : Entry) (short : Tree)
    → Between p q (from s (from s outer y inner) e short) → RisingOn s p y.label e.label q
rising_from left p q outer y inner e short order =
    record { first = order.on_left_lem.above; second = order.on_left_lem.below; third = order.below }
rising_from right p q outer y inner e short order =
    record { first = order.above; second = order.on_right_lem.above; third = order.on_right_lem.below }

-- The slots of a node built from a side.
pub occurrences_from : (s : Side) (k : ℕ) (near : Tree) (e : Entry) (far : Tree)
    → occurrences k (slots (from s near e far))
    ≡ occurrences k (slots near) + (one_if (eqb k e.slot) + occurrences k (slots far))
occurrences_from left k near e far = occurrences_of_node k near e far
occurrences_from right k near e far = omega (arith, occurrences_of_node k far e near)

-- The link of a node built from a side.
pub link_from : (s : Side) (near : Tree) (e : Entry) (far : Tree) → link_of (from s near e far) ≡ e.slot
link_from left near e far = refl
link_from right near e far = refl

-- a tree seen from a side
pub data Seen (s : Side) : Tree → Type 0 where
  none : Seen s empty
  some : (near : Tree) (e : Entry) (far : Tree) → Seen s (from s near e far)

-- A tree is empty or a node built from a side.
pub seen : (s : Side) (t : Tree) → Seen s t
seen s empty = none
seen left (node l e r) = some l e r
seen right (node l e r) = some r e l
