-- The updates along a path, one step down, in the form in which the code takes the step.
-- `inserted_below`, `popped_below`, `deleted_below`: a node over its son that was updated.
-- `popped_here`: no node is smaller.
-- `cut_moved`: the smallest node of the right subtree takes the place of a node with two sons.
use mathlib.Core.Path.{◌≡◌, refl, ap, ◌∙◌}
use mathlib.Core.Logic.{◌≢◌}
use mathlib.Core.List.{List}
use mathlib.Core.Bool.{Bool, true, false}
use Prim.Native.Nat.{ℕ, zero, suc, ◌-◌, ◌/◌}
use native.Mathlib.Numerals.{sub-one}
use borrow.Author.Tests.{eq-eqb, ne_eqb}
use Rattle.types.specs.declared.Row.{Row}
use Rattle.tables.specs.Words.{row_at}
use Rattle.turns.specs.declared.Rebuilt.{Rebuilt}
use Rattle.paths.specs.declared.Popped.{Popped}
use Rattle.sides.specs.Rows.{row_on}
use Rattle.turns.specs.Turns.{Yields, outcome, grow, shrink}
use Rattle.paths.specs.Paths.{flip_of, insert_along, Pops, pop_least, put_least, cut, delete_along}

-- An insert along a path that is not empty goes on below the first node.
insert_step : (length path : ℕ) (table : List ℕ) (c slot : ℕ) → length ≢ 0 → insert_along length path table c slot
    ≡ (let deeper = insert_along (length - 1) (path / 2) table (row_on (flip_of path) table c).left slot in
    grow (flip_of path) deeper.table c deeper.top)
unfolding insert_along
insert_step zero path table c slot some = absurd (some refl)
insert_step (suc length) path table c slot some = simp sub-one

-- So does a delete.
delete_step : (length path height : ℕ) (table : List ℕ) (c place side : ℕ) → length ≢ 0
    → delete_along length path height table c place side
    ≡ (let deeper = delete_along (length - 1) (path / 2) height table (row_on (flip_of path) table c).left place side in
    shrink (flip_of path) deeper.table c deeper.top)
unfolding delete_along
delete_step zero path height table c place side some = absurd (some refl)
delete_step (suc length) path height table c place side some = simp sub-one

-- The node c over its near son, into which the leaf was inserted.
pub inserted_below : (length path : ℕ) (table : List ℕ) (c slot : ℕ) → length ≢ 0 → {flip : Bool} {row : Row}
    {deeper rebuilt : Rebuilt} {below after : List ℕ} → flip ≡ flip_of path → row ≡ row_on flip table c
    → Yields (insert_along (length - 1) (path / 2) table row.left slot) below deeper
    → Yields (grow flip below c deeper) after rebuilt → Yields (insert_along length path table c slot) after rebuilt
inserted_below length path table c slot some of_path of_row lower upper =
    let step = insert_step length path table c slot some in
    record { stored = cc step; handed = cc step }

-- The node c over its near son, out of which the node was taken.
pub deleted_below : (length path height : ℕ) (table : List ℕ) (c place side : ℕ) → length ≢ 0
    → {flip : Bool} {row : Row} {deeper rebuilt : Rebuilt} {below after : List ℕ} → flip ≡ flip_of path
    → row ≡ row_on flip table c
    → Yields (delete_along (length - 1) (path / 2) height table row.left place side) below deeper
    → Yields (shrink flip below c deeper) after rebuilt
    → Yields (delete_along length path height table c place side) after rebuilt
deleted_below length path height table c place side some of_path of_row lower upper =
    let step = delete_step length path height table c place side some in
    record { stored = cc step; handed = cc step }

-- The smallest node is c where it has no left son.
pub popped_here : (height : ℕ) (table : List ℕ) (c : ℕ) → height ≢ 0 → {row : Row} → row ≡ row_at table c → row.left ≡ 0
    → pop_least height table c ≡ record { rest = outcome table row.right false; least = c }
unfolding pop_least
popped_here zero table c some of_row none = absurd (some refl)
popped_here (suc height) table c some {row} of_row none = simp (← of_row, eq-eqb row.left 0 none)

-- The smallest node is below c where c has a left son.
pop_step : (height : ℕ) (table : List ℕ) (c : ℕ) → height ≢ 0 → (row_at table c).left ≢ 0 → pop_least height table c
    ≡ (let deeper = pop_least (height - 1) table (row_at table c).left in
    record { rest = shrink false deeper.rest.table c deeper.rest.top; least = deeper.least })
unfolding pop_least
pop_step zero table c some more = absurd (some refl)
pop_step (suc height) table c some more = simp (ne_eqb (row_at table c).left 0 more, sub-one)

-- The smallest node is below c, and c stands over what is left of its left son.
pub popped_below : (height : ℕ) (table : List ℕ) (c : ℕ) → height ≢ 0
    → {row : Row} {deeper : Popped} {rebuilt : Rebuilt} {below after : List ℕ} → row ≡ row_at table c → row.left ≢ 0
    → Pops (pop_least (height - 1) table row.left) below deeper
    → Yields (shrink false below c deeper.rest) after rebuilt
    → Pops (pop_least height table c) after (record { rest = rebuilt; least = deeper.least })
popped_below height table c some of_row more lower upper =
    let step = pop_step height table c some (λ none. more (ap (λ row. row.left) of_row ∙ none)) in
    record { yields = record { stored = cc step; handed = cc step }; lowest = cc step }

-- A node with two sons gives its place to the smallest node of the right subtree.
cut_step : (height : ℕ) (table : List ℕ) (c place side : ℕ) → (row_at table c).left ≢ 0 → (row_at table c).right ≢ 0
    → cut height table c place side
    ≡ (let popped = pop_least height table (row_at table c).right in
    shrink true (put_least popped.rest.table c popped.least place side) popped.least popped.rest.top)
unfolding cut
cut_step height table c place side lower upper =
    simp (ne_eqb (row_at table c).left 0 lower, ne_eqb (row_at table c).right 0 upper)

-- The smallest node of the right subtree stands in the place of c, over what is left of that subtree.
pub cut_moved : (height : ℕ) (table : List ℕ) (c place side : ℕ) {row : Row} {popped : Popped} {rebuilt : Rebuilt}
    {below moved after : List ℕ} → row ≡ row_at table c → row.left ≢ 0 → row.right ≢ 0
    → Pops (pop_least height table row.right) below popped → moved ≡ put_least below c popped.least place side
    → Yields (shrink true moved popped.least popped.rest) after rebuilt
    → Yields (cut height table c place side) after rebuilt
cut_moved height table c place side of_row lower upper pops put yields =
    let step =
    cut_step height table c place side (λ none. lower (ap (λ row. row.left) of_row ∙ none))
    (λ none. upper (ap (λ row. row.right) of_row ∙ none)) in
    record { stored = cc step; handed = cc step }
