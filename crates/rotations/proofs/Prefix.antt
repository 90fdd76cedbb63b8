-- The rows of two nodes under one rotation, by the windows that they stand in.
-- `row_of`: a node's row by its links and its balance. `RisingOn`: a node and its son on a side are in order.
-- `turns_row`: a rotation leaves the prefix fields of the windows after it.
use mathlib.Core.Bool.{true, false}
use mathlib.Core.Path.{◌≡◌}
use Prim.Native.Nat.{ℕ, min}
use lib.ListN.{length}
use Rattle.types.specs.declared.Row.{Row}
use Rattle.labels.specs.Labels.{Label}
use Rattle.labels.specs.Neighbours.{Neighbour, held, difference}
use Rattle.labels.proofs.Difference.{Before, difference_of_outer}
use Rattle.trees.specs.Trees.{Entry, Side, left, right, other}
use Rattle.tables.specs.Prefix.{side_within}
use Rattle.rotations.proofs.Rep.{bare_within, flip_on, low_on, high_on}
use Rattle.rotations.proofs.Fields.{placed, Turns, turns_left, turns_right}

-- the row of a node between p and q with these links and this balance
abbrev pub row_of : Neighbour → (l r b : ℕ) → Entry → Neighbour → Row
row_of p l r b e q =
    record {
      left = l;
      right = r;
      place = bare_within p e.label q;
      side = side_within p e.label q;
      balance = b;
      len = length e.label;
      value = e.value;
      charge = e.charge;
    }

-- two labels in order between two neighbours
pub record Rising (p : Neighbour) (low high : Label) (q : Neighbour) : Type 0 where
  pub first : Before p (held low)
  pub second : Before (held low) (held high)
  pub third : Before (held high) q

-- a son's label and its parent's, the son on a side
abbrev pub RisingOn : Side → Neighbour → (son parent : Label) → Neighbour → Type 0
RisingOn left p x y q = Rising p x y q
RisingOn right p x y q = Rising p y x q

-- The same laws, with the difference places of the outer labels named by themselves.
left_by : (A B C outer inner : ℕ) (parent son : Row) → outer ≡ min A B → inner ≡ min B C
    → Turns false (placed parent outer C) (placed son A B) (placed son A inner) (placed parent B C)
left_by A B C outer inner parent son p q = rw (p, q) (turns_left A B C parent son)

right_by : (A B C outer inner : ℕ) (parent son : Row) → outer ≡ min A B → inner ≡ min B C
    → Turns true (placed parent A inner) (placed son B C) (placed son outer C) (placed parent A B)
right_by A B C outer inner parent son p q = rw (p, q) (turns_right A B C parent son)

-- A rotation of y, on side s, over e leaves to each the prefix fields of its new window.
pub turns_row : (s : Side) (p q : Neighbour) (e y : Entry) → RisingOn s p y.label e.label q
    → (l r b l' r' b' : ℕ)
    → Turns (flip_on s) (row_of p l r b e q) (row_of (low_on s p e.label) l' r' b' y (high_on s e.label q))
    (row_of p l' r' b' y q) (row_of (low_on (other s) p y.label) l r b e (high_on (other s) y.label q))
turns_row left p q e y rising l r b l' r' b' =
    left_by (difference p (held y.label)) (difference (held y.label) (held e.label))
    (difference (held e.label) q) (difference p (held e.label)) (difference (held y.label) q)
    (row_of p l r b e q) (row_of p l' r' b' y q)
    (difference_of_outer rising.first rising.second) (difference_of_outer rising.second rising.third)
turns_row right p q e y rising l r b l' r' b' =
    right_by (difference p (held e.label)) (difference (held e.label) (held y.label))
    (difference (held y.label) q) (difference p (held y.label)) (difference (held e.label) q)
    (row_of p l r b e q) (row_of p l' r' b' y q)
    (difference_of_outer rising.first rising.second) (difference_of_outer rising.second rising.third)
