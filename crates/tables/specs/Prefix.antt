-- 'The prefix fields' of document 01, and the balance word. Place and side are the document's own terms.
use Rattle.std.specs.Prelude.{cond, leb}
use Prim.Native.Nat.{ℕ, max, compare, Ordering}
use Rattle.labels.specs.Labels.{Label}
use Rattle.labels.specs.Neighbours.{Neighbour, held, difference}

-- "The node's place is the larger of the two." "The root has neither neighbour; its place is set to 1": a difference
-- place is at least 1, so the 1 shows at the root alone.
-- below and above: the difference places with predecessor and successor
abbrev pub place_by : (below above : ℕ) → ℕ
place_by below above = max 1 (max below above)

-- "Its side is predecessor (0) when the predecessor's is at least as large, else successor (1)."
abbrev pub side_by : (below above : ℕ) → ℕ
side_by below above = cond (leb above below) 0 1

-- of a label between its predecessor and its successor
abbrev pub place_within : Neighbour → Label → Neighbour → ℕ
place_within predecessor x successor = place_by (difference predecessor (held x)) (difference (held x) successor)

abbrev pub side_within : Neighbour → Label → Neighbour → ℕ
side_within predecessor x successor = side_by (difference predecessor (held x)) (difference (held x) successor)

abbrev pub balance_by : Ordering → ℕ
balance_by Ordering.gt = 0
balance_by Ordering.eq = 1
balance_by Ordering.lt = 2

-- "balance: 0 left taller, 1 even, 2 right taller", of the heights of the two sons
abbrev pub balance_of : (left right : ℕ) → ℕ
balance_of left right = balance_by (compare left right)
