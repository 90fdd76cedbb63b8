-- A plain tree and its freed slots, written out ('Words and bytes lent' and 'The prefix fields' of document 01).
use Rattle.std.specs.Prelude.{List, [], ◌∷◌, cond, ℕ, zero, suc, eqb, length}
use Rattle.types.specs.declared.Limits.{Limits}
use Rattle.types.specs.declared.Row.{Row}
use Rattle.labels.specs.Labels.{Label}
use Rattle.labels.specs.Neighbours.{Neighbour, none_below, held, none_above}
use Rattle.trees.specs.Trees.{Entry, Tree, empty, node, size}
use Rattle.trees.specs.Heights.{height}
use Rattle.trees.specs.Plain.{State}
use Rattle.tables.specs.Prefix.{place_within, side_within, balance_of}

-- the table and the store lent to a call
pub record Memory : Type 0 where
  pub table : List ℕ
  pub store : List ℕ

abbrev pub lent : (table store : List ℕ) → Memory
lent table store = record { table = table; store = store }

-- "A link is a slot number 1 to 512, or 0 for none."
abbrev pub link_of : Tree → ℕ
link_of empty = 0
link_of (node l e r) = e.slot

abbrev pub first_of : List ℕ → ℕ
first_of [] = 0
first_of (k ∷ more) = k

-- the row of a node between its predecessor p and its successor s
abbrev pub node_row : Neighbour → Tree → Entry → Tree → Neighbour → Row
node_row p l e r s =
    record {
      left = link_of l;
      right = link_of r;
      place = place_within p e.label s;
      side = side_within p e.label s;
      balance = balance_of (height l) (height r);
      len = length e.label;
      value = e.value;
      charge = e.charge;
    }

-- "A freed slot has all words 0 but word 0, the next free link"; "a free slot keeps 0 there", in word 7 (M-109 of
-- document 02)
abbrev pub free_row : ℕ → Row
free_row next = record { left = next; right = 0; place = 0; side = 0; balance = 0; len = 0; value = 0; charge = 0 }

-- the row of slot k in a tree between p and s; otherwise where the tree does not have the slot.
-- The window p, s that is passed down is each node's predecessor and successor: `WindowIsNeighbour` (Paths).
abbrev pub tree_row : Neighbour → Neighbour → Tree → ℕ → Row → Row
tree_row p s empty k otherwise = otherwise
tree_row p s (node l e r) k otherwise =
    cond (eqb k e.slot) (node_row p l e r s)
    (tree_row p (held e.label) l k (tree_row (held e.label) s r k otherwise))

-- "Slots above the high mark are all zero."
abbrev pub chain_row : List ℕ → ℕ → Row
chain_row [] k = free_row 0
chain_row (free ∷ more) k = cond (eqb k free) (free_row (first_of more)) (chain_row more k)

abbrev pub slot_row : State → ℕ → Row
slot_row s k = tree_row none_below none_above s.tree k (chain_row s.freed k)

-- the label in slot k, none where the tree does not have the slot
abbrev pub tree_label : Tree → ℕ → Label → Label
tree_label empty k otherwise = otherwise
tree_label (node l e r) k otherwise = cond (eqb k e.slot) e.label (tree_label l k (tree_label r k otherwise))

abbrev pub slot_label : State → ℕ → Label
slot_label s k = tree_label s.tree k []

-- a row's words, in front of more
abbrev pub row_before : Row → List ℕ → List ℕ
row_before r more =
    r.left ∷ r.right ∷ r.place ∷ r.side ∷ r.balance ∷ r.len ∷ r.value ∷ r.charge ∷ more

-- n rows, of slot k and on
abbrev pub rows_from : (ℕ → Row) → ℕ → ℕ → List ℕ
rows_from row k zero = []
rows_from row k (suc n) = row_before (row k) (rows_from row (suc k) n)

-- a label's part of the store, in front of more: its bytes, "zeros after the label's end"
abbrev pub part_before : ℕ → Label → List ℕ → List ℕ
part_before zero x more = more
part_before (suc width) [] more = 0 ∷ part_before width [] more
part_before (suc width) (byte ∷ x) more = byte ∷ part_before width x more

abbrev pub parts_from : ℕ → (ℕ → Label) → ℕ → ℕ → List ℕ
parts_from width label k zero = []
parts_from width label k (suc n) = part_before width (label k) (parts_from width label (suc k) n)

unfoldable pub written_table : Limits → State → List ℕ
written_table limits s =
    link_of s.tree ∷ size s.tree ∷ first_of s.freed ∷ s.high ∷ rows_from (slot_row s) 1 limits.slots

unfoldable pub written_store : Limits → State → List ℕ
written_store limits s = parts_from limits.width (slot_label s) 1 limits.slots

abbrev pub written : Limits → State → Memory
written limits s = record { table = written_table limits s; store = written_store limits s }
