-- Insert and delete along a path of sides from the root, and the root set, in a table's words.
-- A path is a number: its lowest bit is the first side, 1 for right.
use Rattle.std.specs.Prelude.{◌≡◌, List, [], ◌∷◌, Bool, true, false, cond, ℕ, zero, suc, ◌+◌, ◌*◌, ◌/◌, ◌%◌, eqb, set}
use Rattle.trees.specs.Trees.{Side, left, right}
use Rattle.tables.specs.Words.{row_at}
use Rattle.words.specs.Rows.{put_row}
use Rattle.paths.specs.declared.Popped.{Popped}
use Rattle.sides.specs.Rows.{row_on, linked_row, prefixed}
use Rattle.turns.specs.Turns.{Turned, Yields, outcome, grow, shrink}
use Rattle.slots.specs.Slots.{with_root_place}

abbrev pub bit_of : Side → ℕ
bit_of left = 0
bit_of right = 1

abbrev pub path_of : List Side → ℕ
path_of [] = 0
path_of (s ∷ more) = bit_of s + 2 * path_of more

-- whether the first side of a path is the right one
abbrev pub flip_of : ℕ → Bool
flip_of path = eqb (path % 2) 1

-- the leaf in a slot hung at the end of a path from c, so many sides long, and the nodes above it put in balance
unfoldable pub insert_along : (length path : ℕ) → List ℕ → (c slot : ℕ) → Turned
insert_along zero path table c slot = outcome table slot true
insert_along (suc length) path table c slot =
    let deeper = insert_along length (path / 2) table (row_on (flip_of path) table c).left slot in
    grow (flip_of path) deeper.table c deeper.top

pub record Taken : Type 0 where
  pub rest : Turned
  pub least : ℕ

-- a table and a subtree without its smallest node that an update leaves
pub record Pops (taken : Taken) (after : List ℕ) (popped : Popped) : Type 0 where
  pub yields : Yields taken.rest after popped.rest
  pub lowest : popped.least ≡ taken.least

-- the subtree at c, at most so high, without its smallest node
unfoldable pub pop_least : (height : ℕ) → List ℕ → ℕ → Taken
pop_least zero table c = record { rest = outcome table 0 true; least = 0 }
pop_least (suc height) table c =
    let row = row_at table c in
    let deeper = pop_least height table row.left in
    let rest = shrink false deeper.rest.table c deeper.rest.top in
    cond (eqb row.left 0) (record { rest = outcome table row.right false; least = c })
    (record { rest = rest; least = deeper.least })

-- the smallest node of the right subtree put in the place of c, with its fields there
unfoldable pub put_least : List ℕ → (c least place side : ℕ) → List ℕ
put_least table c least place side =
    let row = row_at table c in
    put_row table least (prefixed (linked_row (row_at table least) row.left row.right row.balance) place side)

-- the subtree at c without c. The fields: those of the node that takes its place, where it has two sons.
unfoldable pub cut : (height : ℕ) → List ℕ → (c place side : ℕ) → Turned
cut height table c place side =
    let row = row_at table c in
    let popped = pop_least height table row.right in
    let put = put_least popped.rest.table c popped.least place side in
    let moved = shrink true put popped.least popped.rest.top in
    cond (eqb row.left 0) (outcome table row.right false)
    (cond (eqb row.right 0) (outcome table row.left false) moved)

-- the node at the end of a path from c taken out, and the nodes above it put in balance
unfoldable pub delete_along : (length path height : ℕ) → List ℕ → (c place side : ℕ) → Turned
delete_along zero path height table c place side = cut height table c place side
delete_along (suc length) path height table c place side =
    let deeper = delete_along length (path / 2) height table (row_on (flip_of path) table c).left place side in
    shrink (flip_of path) deeper.table c deeper.top

-- the tree's root set, and its place
unfoldable pub rooted : Turned → List ℕ
rooted o = with_root_place (set o.table 0 o.top.link) 1
