-- What the words of an update compute, from the rows that they read.
-- `once_is`, `twice_is`, `turn_is`: one rotation, a double one, and the one that the near son's balance asks for.
-- `lean_is`: the near side has become taller. `with_son_is`: the near son has a new link.
-- `grow_is`, `shrink_is`: a node over a son that was inserted into or deleted from.
use mathlib.Core.Path.{◌≡◌}
use mathlib.Core.List.{List}
use mathlib.Core.Bool.{Bool, true, false, not, cond}
use Prim.Native.Nat.{ℕ}
use lib.Dec.{eqb}
use Rattle.types.specs.declared.Row.{Row}
use Rattle.turns.specs.declared.Rebuilt.{Rebuilt}
use Rattle.sides.specs.Rows.{row_on, put_on, linked_row}
use Rattle.sides.specs.Doubles.{double_turn}
use Rattle.sides.proofs.Mirrors.{double_turn_mirrored}
use Rattle.turns.specs.Turns.{outcome, with_son, turn_once, turn_twice, turn, lean, grow, shrink}
use Rattle.rotations.proofs.Fields.{Turns}

-- What one rotation of the words computes, from the two rows read and the fields that they leave.
pub once_is : (flip : Bool) (table : List ℕ) (c : ℕ) {parent son up down : Row} → row_on flip table c ≡ parent
    → row_on flip table parent.left ≡ son → Turns flip parent son up down
    → turn_once flip table c ≡ outcome
    (put_on flip (put_on flip table c (linked_row down son.right parent.right (cond (eqb son.balance 1) 0 1)))
    parent.left (linked_row up son.left c (cond (eqb son.balance 1) 2 1)))
    parent.left (eqb son.balance 1)
unfolding turn_once
once_is flip table c of_parent of_son turns = simp (of_parent, of_son, turns.rise, turns.sink)

-- What a double rotation of the words computes, from the three rows read and the fields that its two rotations leave.
pub twice_is : (flip : Bool) (table : List ℕ) (c : ℕ) {parent son middle once below up down : Row}
    → row_on flip table c ≡ parent → row_on flip table parent.left ≡ son → row_on flip table son.right ≡ middle
    → Turns (not flip) son middle once below → Turns flip parent once up down
    → turn_twice flip table c ≡ outcome
    (put_on flip (put_on flip (put_on flip table parent.left
    (linked_row below son.left middle.left (double_turn middle.balance).lower))
    c (linked_row down middle.right parent.right (double_turn middle.balance).upper))
    son.right (linked_row up parent.left c (double_turn middle.balance).middle)) son.right false
unfolding turn_twice
twice_is flip table c {middle = middle} of_parent of_son of_middle inner outer =
    simp (
      of_parent,
      of_son,
      of_middle,
      inner.rise,
      inner.sink,
      outer.rise,
      outer.sink,
      double_turn_mirrored flip middle.balance,
    )

-- What `turn` computes, from the two rows read.
pub turn_is : (flip : Bool) (table : List ℕ) (c : ℕ) {parent son : Row} → row_on flip table c ≡ parent
    → row_on flip table parent.left ≡ son
    → turn flip table c ≡ cond (eqb son.balance 2) (turn_twice flip table c) (turn_once flip table c)
unfolding turn
turn_is flip table c of_parent of_son = simp (of_parent, of_son)

-- What `lean` computes, from the row read.
pub lean_is : (flip : Bool) (table : List ℕ) (c : ℕ) {row : Row} → row_on flip table c ≡ row
    → lean flip table c
    ≡ cond (eqb row.balance 2) (outcome (put_on flip table c (linked_row row row.left row.right 1)) c false)
    (cond (eqb row.balance 1) (outcome (put_on flip table c (linked_row row row.left row.right 0)) c true)
    (turn flip table c))
unfolding lean
lean_is flip table c of_row = simp of_row

-- What `with_son` computes, from the row read.
pub with_son_is : (flip : Bool) (table : List ℕ) (c son : ℕ) {row : Row} → row_on flip table c ≡ row
    → with_son flip table c son ≡ put_on flip table c (linked_row row son row.right row.balance)
unfolding with_son
with_son_is flip table c son of_row = simp of_row

-- What `grow` and `shrink` compute, from the flag and the table with the new link.
pub grow_is : (flip : Bool) (table : List ℕ) (c : ℕ) (son : Rebuilt) {tall : Bool} {linked : List ℕ}
    → son.tall ≡ tall → with_son flip table c son.link ≡ linked
    → grow flip table c son ≡ cond tall (lean flip linked c) (outcome linked c false)
unfolding grow
grow_is flip table c son of_tall of_link = simp (of_tall, of_link)

pub shrink_is : (flip : Bool) (table : List ℕ) (c : ℕ) (son : Rebuilt) {tall : Bool} {linked : List ℕ}
    → son.tall ≡ tall → with_son flip table c son.link ≡ linked
    → shrink flip table c son ≡ cond tall (outcome linked c true) (lean (not flip) linked c)
unfolding shrink
shrink_is flip table c son of_tall of_link = simp (of_tall, of_link)
