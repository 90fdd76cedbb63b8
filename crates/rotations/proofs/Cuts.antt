-- A node taken out of the rows.
-- cut_refines: `cut` leaves the joined sons.
use mathlib.Core.List.{List}
use mathlib.Core.Path.{◌≡◌}
use mathlib.Core.Bool.{true, false}
use Prim.Native.Nat.{ℕ, ◌≤◌}
use native.Mathlib.Omega.{arith}
use lib.Dec.{leb}
use borrow.Author.Tests.{ne_eqb}
use Rattle.labels.specs.Neighbours.{Neighbour, held}
use Rattle.trees.specs.Trees.{Entry, Tree, empty, node, slots}
use Rattle.trees.specs.Heights.{height}
use Rattle.trees.specs.Updates.{Least, without_least, joined}
use Rattle.trees.proofs.Heights.{Kept}
use Rattle.trees.proofs.Balance.{shrunk_without_least}
use Rattle.trees.proofs.Sorted.{Between}
use Rattle.trees.proofs.SlotCounts.{occurrences_of_node}
use Rattle.tables.specs.Words.{row_at}
use Rattle.turns.specs.Turns.{outcome, shrink}
use Rattle.paths.specs.Paths.{pop_least, put_least, cut}
use Rattle.rotations.proofs.Rep.{Stands, Once, Refines}
use Rattle.rotations.proofs.Along.{RepHole, place_of_next, side_of_next}
use Rattle.rotations.proofs.Orders.{least_above}
use Rattle.rotations.proofs.Levels.{refines_of_son}
use Rattle.rotations.proofs.Pops.{root_has_row, occurrences_of_rest, pop_refines}
use Rattle.rotations.proofs.Nexts.{next_table, next_refines}

module _ (height c place side : ℕ) (table : List ℕ) where
  -- A node without a left son gives its place to the right one.
  cut_without_left : (row_at table c).left ≡ 0
      → cut height table c place side ≡ outcome table (row_at table c).right false
  unfolding cut
  cut_without_left none = rw none

  -- A node with a left son alone gives its place to it.
  cut_without_right : ((row_at table c).left ≡ 0 → ⊥) → (row_at table c).right ≡ 0
      → cut height table c place side ≡ outcome table (row_at table c).left false
  unfolding cut
  cut_without_right some none = rw (ne_eqb (row_at table c).left 0 some, none)

  -- A node with two sons gives its place to the smallest node of the right one.
  cut_between : ((row_at table c).left ≡ 0 → ⊥) → (far : ℕ) → (row_at table c).right ≡ far → (far ≡ 0 → ⊥)
      → (next : ℕ) → (pop_least height table far).least ≡ next
      → let popped = pop_least height table far in cut height table c place side
      ≡ shrink true (put_least popped.rest.table c next place side) next popped.rest.top
  unfolding cut
  cut_between some far link far_some next least =
      rw (ne_eqb (row_at table c).left 0 some, link, ne_eqb far 0 far_some, least)

-- A node taken out leaves its sons joined.
pub cut_refines : (l : Tree) (e : Entry) (r : Tree) (p q : Neighbour) (table : List ℕ) (height' : ℕ)
    → Kept (node l e r) → Between p q (node l e r) → Once (slots (node l e r)) → Stands table p l e r q
    → RepHole table p q l r → height r ≤ height'
    → Refines table p q (joined l r) (leb (height (node l e r)) (height (joined l r))) (slots (node l e r))
    (cut height' table e.slot (place_of_next p r q) (side_of_next p r q))
unfolding next_table
cut_refines empty e empty p q table height' kept order once stands rep fits =
    let row = stands.row in
    rw (cut_without_left height' e.slot 0 0 table (λ i. (row i).left))
    (refines_of_son empty p q table (slots (node empty e empty)) (row_at table e.slot).right 1
    (λ i. (row i).right) (omega arith) tt)
cut_refines (node a y a') e empty p q table height' kept order once stands rep fits =
    let row = stands.row in
    let link : (row_at table e.slot).left ≡ y.slot = λ i. (row i).left in
    rw (cut_without_right height' e.slot 0 0 table (λ none. omega (arith, rep.0.has.low)) (λ i. (row i).right))
    (refines_of_son (node a y a') p q table (slots (node (node a y a') e empty)) (row_at table e.slot).left
    (height (node (node a y a') e empty)) link (omega arith) rep)
cut_refines empty e (node b d c) p q table height' kept order once stands rep fits =
    let row = stands.row in
    rw (cut_without_left height' e.slot _ _ table (λ i. (row i).left))
    (refines_of_son (node b d c) p q table (slots (node empty e (node b d c))) (row_at table e.slot).right
    (height (node empty e (node b d c))) (λ i. (row i).right) (omega arith) rep)
cut_refines (node a y a') e (node b d c) p q table height' kept order once stands rep fits =
    let row = stands.row in
    let m : Least = without_least b d c in
    let within : Once (slots (node b d c)) =
    λ k. omega (arith, once k, occurrences_of_node k (node a y a') e (node b d c)) in
    let order' = order.on_right_lem in
    let popped = pop_refines b d c (held e.label) q table height' kept.far_kept order' within rep.1 fits in
    let link : (row_at table e.slot).left ≡ y.slot = λ i. (row i).left in
    let has = root_has_row b d c table (held m.least.label) q rep.1 in
    rw (cut_between height' e.slot _ _ table (λ none. omega (arith, rep.0.0.has.low)) d.slot
    (λ i. (row i).right) (λ none. omega arith) m.least.slot popped.least)
    (next_refines (record {
      kept = kept;
      order = order;
      above = least_above (held e.label) q b d c order.on_right_lem;
      once = once;
      counts = λ k. occurrences_of_rest k b d c;
      stands = stands;
      rep = rep.0;
      holds = popped.holds;
      done = popped.rest;
    }) (shrunk_without_least b d c kept.far_kept))
