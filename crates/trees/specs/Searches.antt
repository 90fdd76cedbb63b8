-- The full comparison search ('The cost rule' of document 01), and the neighbours of the sought label (M-107 of
-- document 02).
use Rattle.std.specs.Prelude.{List, [], ◌∷◌, ℕ}
use Rattle.std.proofs.Math.Option.{Option, none, some}
use Rattle.labels.specs.Labels.{Label, Comparison, smaller, same, larger, compare_labels}
use Rattle.trees.specs.Trees.{Entry, Tree, empty, node, Side, left, right}

-- what is held under a label
pub data Held : Type 0 where
  absent : Held
  found : Entry → Held

-- a search: the labels visited, in order, what it found, and the last nodes where it went right and left: the nearest
-- smaller and the nearest larger one
pub record Search : Type 0 where
  pub visited : List Label
  pub result : Held
  pub below : Option Entry
  pub above : Option Entry

-- a search that visits no node
abbrev pub nothing_visited : Search
nothing_visited = record { visited = []; result = absent; below = none; above = none }

-- the last of two nodes: the later one, if there is one
abbrev pub last : Entry → (later : Option Entry) → Option Entry
last e none = some e
last e (some later) = some later

-- right of a node it is the nearest smaller one, unless a later node is
abbrev pub below_past : Side → Entry → (later : Option Entry) → Option Entry
below_past left e later = later
below_past right e later = last e later

-- left of a node it is the nearest larger one, unless a later node is
abbrev pub above_past : Side → Entry → (later : Option Entry) → Option Entry
above_past left e later = last e later
above_past right e later = later

-- a search that visits the node e first, and goes on to a side of it
abbrev pub visit : Side → Entry → Search → Search
visit side e s =
    record {
      visited = e.label ∷ s.visited;
      result = s.result;
      below = below_past side e s.below;
      above = above_past side e s.above;
    }

-- a search that ends at the node e
abbrev pub stop_at : Entry → Search
stop_at e = record { visited = e.label ∷ []; result = found e; below = none; above = none }

-- "sought smaller, go left; larger, go right; the same, found"
abbrev pub search_by : Comparison → Entry → Search → Search → Search
search_by (smaller i) e l r = visit left e l
search_by (same i) e l r = stop_at e
search_by (larger i) e l r = visit right e r

-- "A full comparison search starts at its root and at each node visited compares the whole labels .. A missing son
-- means absent."
abbrev pub full_search : Label → Tree → Search
full_search x empty = nothing_visited
full_search x (node l e r) = search_by (compare_labels x e.label) e (full_search x l) (full_search x r)

-- "the slots of the nearest smaller and nearest larger held labels, 0 for none"
abbrev pub slot_of : Option Entry → ℕ
slot_of none = 0
slot_of (some e) = e.slot
