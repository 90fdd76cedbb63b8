-- A tree in the rows of a table, with the root's place counted as 0, and what an update of a subtree has to leave.
-- `bare_row`, `Rep`: the tree in the rows. `Frame`: the words that stay. `Refines`: an update of the words is the update
-- of the tree.
-- `GrowRefines`, `ShrinkRefines`: so of a node over its near son that was inserted into or deleted from.
use mathlib.Core.List.{List}
use mathlib.Core.Path.{◌≡◌}
use mathlib.Core.Bool.{Bool, true, false}
use Prim.Native.Nat.{ℕ, ◌≤◌, ◌<◌, max}
use lib.Dec.{ltb, leb}
use lib.ListN.{length, get_or}
use Rattle.types.specs.declared.Row.{Row}
use Rattle.labels.specs.Labels.{Label}
use Rattle.labels.specs.Neighbours.{Neighbour, held, difference}
use Rattle.trees.specs.Trees.{Entry, Tree, empty, node, slots, Side, left, right, other, from, on}
use Rattle.trees.specs.Heights.{height}
use Rattle.trees.specs.Turns.{rebalanced}
use Rattle.trees.specs.Valid.{occurrences}
use Rattle.trees.proofs.Heights.{Kept}
use Rattle.trees.proofs.Balance.{Grown, Shrunk}
use Rattle.trees.proofs.Sorted.{Between}
use Rattle.tables.specs.Words.{row_at}
use Rattle.tables.specs.Prefix.{side_within, balance_of}
use Rattle.tables.specs.Written.{link_of}
use Rattle.words.specs.Rows.{HasRow}
use Rattle.turns.specs.declared.Rebuilt.{Rebuilt}
use Rattle.turns.specs.Turns.{Turned, grow, shrink}

-- the larger of the difference places with the neighbours: the node's place, but 0 at the root
abbrev pub bare_within : Neighbour → Label → Neighbour → ℕ
bare_within p x q = max (difference p (held x)) (difference (held x) q)

-- the row of a node between p and q
abbrev pub bare_row : Neighbour → Tree → Entry → Tree → Neighbour → Row
bare_row p l e r q =
    record {
      left = link_of l;
      right = link_of r;
      place = bare_within p e.label q;
      side = side_within p e.label q;
      balance = balance_of (height l) (height r);
      len = length e.label;
      value = e.value;
      charge = e.charge;
    }

pub record Stands (table : List ℕ) (p : Neighbour) (l : Tree) (e : Entry) (r : Tree) (q : Neighbour) : Type 0 where
  pub has : HasRow table e.slot
  pub row : row_at table e.slot ≡ bare_row p l e r q

abbrev pub Rep : List ℕ → Neighbour → Neighbour → Tree → Type 0
Rep table p q empty = Unit {0}
Rep table p q (node l e r) =
    Stands table p l e r q × Rep table p (held e.label) l × Rep table (held e.label) q r

-- the words that an update which touches only these slots leaves
pub record Frame (touched before after : List ℕ) : Type 0 where
  pub words : length after ≡ length before
  pub header : (i : ℕ) → i < 4 → get_or after i 0 ≡ get_or before i 0
  pub rows : (k : ℕ) → 1 ≤ k → occurrences k touched ≡ 0 → row_at after k ≡ row_at before k

-- no slot twice
abbrev pub Once : List ℕ → Type 0
Once list = (k : ℕ) → occurrences k list ≤ 1

-- the outcome is the tree t between p and q, so tall, and only these slots were touched
pub record Refines (before : List ℕ) (p q : Neighbour) (t : Tree) (tall : Bool)
    (touched : List ℕ) (o : Turned) : Type 0 where
  pub link : o.top.link ≡ link_of t
  pub height : o.top.tall ≡ tall
  pub rep : Rep o.table p q t
  pub frame : Frame touched before o.table

-- ---- a side of a node

abbrev pub flip_on : Side → Bool
flip_on left = false
flip_on right = true

-- the window of the subtree on a side of a node with label x between p and q
abbrev pub low_on : Side → Neighbour → Label → Neighbour
low_on left p x = p
low_on right p x = held x

abbrev pub high_on : Side → Label → Neighbour → Neighbour
high_on left x q = held x
high_on right x q = q

abbrev pub RepOn : Side → List ℕ → Neighbour → Label → Neighbour → Tree → Type 0
RepOn s table p x q t = Rep table (low_on s p x) (high_on s x q) t

-- the node e between p and q, whose son on side s was near and is near' now; its own row is still the old one
pub record Over (s : Side) (table : List ℕ) (p q : Neighbour) (near : Tree) (e : Entry)
    (far near' : Tree) (son : Rebuilt) : Type 0 where
  pub kept : Kept (from s near e far)
  pub order : Between p q (from s near' e far)
  pub once : Once (slots (from s near' e far))
  pub stands : Stands table p (on s near far) e (on (other s) near far) q
  pub near_rep : RepOn s table p e.label q near'
  pub far_rep : RepOn (other s) table p e.label q far
  pub link : son.link ≡ link_of near'

abbrev pub top_on : Side → Tree → Entry → Tree → Tree
top_on s near e far = rebalanced (on s near far) e (on (other s) near far)

-- The claim for `grow`.
abbrev pub GrowRefines : Type 0
GrowRefines =
    (s : Side) (table : List ℕ) (p q : Neighbour) (near : Tree) (e : Entry) (far near' : Tree) (son : Rebuilt)
    → Over s table p q near e far near' son → Grown near near' → son.tall ≡ ltb (height near) (height near')
    → Refines table p q (top_on s near' e far) (ltb (height (from s near e far)) (height (top_on s near' e far)))
    (slots (from s near' e far)) (grow (flip_on s) table e.slot son)

-- The claim for `shrink`.
abbrev pub ShrinkRefines : Type 0
ShrinkRefines =
    (s : Side) (table : List ℕ) (p q : Neighbour) (near : Tree) (e : Entry) (far near' : Tree) (son : Rebuilt)
    → Over s table p q near e far near' son → Shrunk near near' → son.tall ≡ leb (height near) (height near')
    → Refines table p q (top_on s near' e far) (leb (height (from s near e far)) (height (top_on s near' e far)))
    (slots (from s near' e far)) (shrink (flip_on s) table e.slot son)
