-- A node's neighbours, and the difference place with each ('The prefix fields' of document 01).
use Rattle.std.specs.Prelude.{ℕ}
use Rattle.labels.specs.Labels.{Label, difference_place}

-- a neighbour on a node's path: no label below, a label, or no label above
pub data Neighbour : Type 0 where
  none_below : Neighbour
  held : Label → Neighbour
  none_above : Neighbour

-- "Take the difference place with each, 0 where that neighbour is missing."
abbrev pub difference : Neighbour → Neighbour → ℕ
difference none_below b = 0
difference (held x) none_below = 0
difference (held x) (held y) = difference_place x y
difference (held x) none_above = 0
difference none_above b = 0
