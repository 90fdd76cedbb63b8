-- A tree whose nodes stand in the rows of a table and the parts of a store.
-- `NodeHeld`: the row and the label of a node's slot are the node's. `Represents`: so at every node.
use mathlib.Core.List.{List}
use mathlib.Core.Path.{◌≡◌}
use Prim.Native.Nat.{ℕ, ◌≤◌}
use lib.ListN.{length}
use Rattle.types.specs.declared.Limits.{Limits}
use Rattle.labels.specs.Neighbours.{Neighbour, held}
use Rattle.trees.specs.Trees.{Entry, Tree, empty, node}
use Rattle.tables.specs.Words.{row_at, label_at}
use Rattle.tables.specs.Written.{node_row}

-- the slot of a node between p and s, with sons l and r
pub record NodeHeld (limits : Limits) (table store : List ℕ) (p : Neighbour)
    (l : Tree) (e : Entry) (r : Tree) (s : Neighbour) : Type 0 where
  pub low : 1 ≤ e.slot
  pub high : e.slot ≤ limits.slots
  pub some : 1 ≤ length e.label
  pub short : length e.label ≤ limits.width
  pub row : row_at table e.slot ≡ node_row p l e r s
  pub label : label_at limits store e.slot (length e.label) ≡ e.label

abbrev pub Represents : Limits → (table store : List ℕ) → Neighbour → Neighbour → Tree → Type 0
Represents limits table store p s empty = Unit {0}
Represents limits table store p s (node l e r) =
    NodeHeld limits table store p l e r s
    × Represents limits table store p (held e.label) l
    × Represents limits table store (held e.label) s r
