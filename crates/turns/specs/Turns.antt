-- Turns of a tree in a table's words. In every row read here the near son is on the left; c is the subtree's root.
use Rattle.std.specs.Prelude.{◌≡◌, List, Bool, true, false, not, cond, ℕ, eqb}
use Rattle.types.specs.declared.Row.{Row}
use Rattle.turns.specs.declared.Rebuilt.{Rebuilt}
use Rattle.sides.specs.Rows.{row_on, put_on, linked_row}
use Rattle.sides.specs.Rotated.{low_once, high_once, outer_twice, inner_twice, top_twice}

-- an update's outcome: the table, and the subtree
pub record Turned : Type 0 where
  pub table : List ℕ
  pub top : Rebuilt

abbrev pub outcome : List ℕ → ℕ → Bool → Turned
outcome table link tall = record { table = table; top = record { link = link; tall = tall } }

-- a table and a subtree that an update leaves
pub record Yields (turned : Turned) (after : List ℕ) (rebuilt : Rebuilt) : Type 0 where
  pub stored : after ≡ turned.table
  pub handed : rebuilt ≡ turned.top

-- the near son of c has a new link
unfoldable pub with_son : Bool → List ℕ → (c son : ℕ) → List ℕ
with_son flip table c son =
    let row = row_on flip table c in
    put_on flip table c (linked_row row son row.right row.balance)

-- "one rotation": the near son rises over c. Where that son was even, the subtree stays as tall and both nodes lean.
unfoldable pub turn_once : Bool → List ℕ → ℕ → Turned
turn_once flip table c =
    let parent = row_on flip table c in
    let son = row_on flip table parent.left in
    outcome (put_on flip (put_on flip table c (low_once flip parent son)) parent.left (high_once flip c parent son))
    parent.left (eqb son.balance 1)

-- the three rows of a double rotation stored
abbrev pub put_twice : Bool → List ℕ → ℕ → (parent son middle : Row) → List ℕ
put_twice flip table c parent son middle =
    let outer = put_on flip table parent.left (outer_twice flip son middle) in
    put_on flip (put_on flip outer c (inner_twice flip parent son middle)) son.right (top_twice flip c parent son middle)

-- "a double one": the far son of the near son rises over both
unfoldable pub turn_twice : Bool → List ℕ → ℕ → Turned
turn_twice flip table c =
    let parent = row_on flip table c in
    let son = row_on flip table parent.left in
    let middle = row_on flip table son.right in
    outcome (put_twice flip table c parent son middle) son.right false

-- c is out of balance by two on the near side
unfoldable pub turn : Bool → List ℕ → ℕ → Turned
turn flip table c =
    let parent = row_on flip table c in
    let son = row_on flip table parent.left in
    cond (eqb son.balance 2) (turn_twice flip table c) (turn_once flip table c)

-- the near side of c has become taller by one against the far side
unfoldable pub lean : Bool → List ℕ → ℕ → Turned
lean flip table c =
    let row = row_on flip table c in
    cond (eqb row.balance 2) (outcome (put_on flip table c (linked_row row row.left row.right 1)) c false)
    (cond (eqb row.balance 1) (outcome (put_on flip table c (linked_row row row.left row.right 0)) c true)
    (turn flip table c))

-- c over its near son, which was inserted into
unfoldable pub grow : Bool → List ℕ → ℕ → Rebuilt → Turned
grow flip table c son =
    cond son.tall (lean flip (with_son flip table c son.link) c)
    (outcome (with_son flip table c son.link) c false)

-- c over its near son, which was deleted from
unfoldable pub shrink : Bool → List ℕ → ℕ → Rebuilt → Turned
shrink flip table c son =
    cond son.tall (outcome (with_son flip table c son.link) c true)
    (lean (not flip) (with_son flip table c son.link) c)
