-- The smallest node taken out of a tree in the rows.
-- occurrences_of_rest: the tree's slots are the smallest node's and those of the rest.
-- root_has_row: the root of a tree whose smallest node is to be taken out has a row.
-- Holds: what a node's row holds wherever the node stands in the tree.
-- Pops, pop_refines: `pop_least` gives the smallest node's slot and the tree without it, between that node's label and
-- the window's end, and touches the slots of the rest alone.
use mathlib.Core.List.{List, map}
use mathlib.Core.Path.{◌≡◌, refl, ap, ◌∙◌}
use mathlib.Core.Bool.{false}
use Prim.Native.Nat.{ℕ, zero, suc, ◌+◌, ◌≤◌}
use native.Mathlib.Omega.{arith}
use lib.Dec.{eqb, leb}
use lib.ListN.{length}
use borrow.Author.Tests.{ne_eqb}
use Rattle.labels.specs.Neighbours.{Neighbour, held}
use Rattle.trees.specs.Trees.{Entry, Tree, empty, node, slots, left}
use Rattle.trees.specs.Heights.{height}
use Rattle.trees.specs.Turns.{rebalanced}
use Rattle.trees.specs.Updates.{without_least}
use Rattle.trees.specs.Valid.{one_if, occurrences}
use Rattle.trees.proofs.Heights.{Kept}
use Rattle.trees.proofs.Balance.{shrunk_without_least}
use Rattle.trees.proofs.Entries.{entries_of_rebalanced, mapped_least}
use Rattle.trees.proofs.Sorted.{Between}
use Rattle.trees.proofs.SlotCounts.{occurrences_of_node}
use Rattle.tables.specs.Words.{row_at}
use Rattle.words.specs.Rows.{HasRow}
use Rattle.turns.specs.Turns.{outcome, shrink}
use Rattle.paths.specs.Paths.{Taken, pop_least}
use Rattle.rotations.proofs.Rep.{Once, Refines}
use Rattle.rotations.proofs.Along.{RepLeast}
use Rattle.rotations.proofs.Orders.{least_above}
use Rattle.rotations.proofs.Levels.{refines_of_son, shrunk_level}

-- A node without a left son is the smallest; its right son stays.
pop_at_end : (height c : ℕ) (table : List ℕ) → (row_at table c).left ≡ 0
    → pop_least (suc height) table c ≡ record { rest = outcome table (row_at table c).right false; least = c }
unfolding pop_least
pop_at_end height c table link = rw link

-- Otherwise the smallest is in the left son, and the node is put in balance over what is left there.
pop_below : (height c near : ℕ) (table : List ℕ) → (row_at table c).left ≡ near → (near ≡ 0 → ⊥)
    → let deeper = pop_least height table near in pop_least (suc height) table c
    ≡ record { rest = shrink false deeper.rest.table c deeper.rest.top; least = deeper.least }
unfolding pop_least
pop_below height c near table link some = rw (link, ne_eqb near 0 some)

-- The tree's slots are the smallest node's and those of the rest.
pub occurrences_of_rest : (k : ℕ) (l : Tree) (e : Entry) (r : Tree)
    → one_if (eqb k (without_least l e r).least.slot) + occurrences k (slots (without_least l e r).rest)
    ≡ occurrences k (slots (node l e r))
occurrences_of_rest k l e r = ap (occurrences k) (mapped_least (λ (d : Entry). d.slot) l e r)

-- Rebalancing keeps the slots.
occurrences_of_rebalanced : (k : ℕ) (l : Tree) (e : Entry) (r : Tree)
    → occurrences k (slots (rebalanced l e r))
    ≡ occurrences k (slots l) + (one_if (eqb k e.slot) + occurrences k (slots r))
occurrences_of_rebalanced k l e r =
    ap (λ list. occurrences k (map (λ (d : Entry). d.slot) list)) (entries_of_rebalanced l e r)
    ∙ occurrences_of_node k l e r

-- The root of a tree whose smallest node is to be taken out has a row.
pub root_has_row : (l : Tree) (e : Entry) (r : Tree) (table : List ℕ) (m q : Neighbour)
    → RepLeast table m q (node l e r) → HasRow table e.slot
root_has_row empty e r table m q rep = rep.0
root_has_row (node a d b) e r table m q rep = rep.0.has

-- what a node's row holds wherever the node stands in the tree
pub record Holds (table : List ℕ) (m : Entry) : Type 0 where
  pub has : HasRow table m.slot
  pub len : (row_at table m.slot).len ≡ length m.label
  pub value : (row_at table m.slot).value ≡ m.value
  pub charge : (row_at table m.slot).charge ≡ m.charge

-- the smallest node taken out of the tree: its slot, what its row holds, and the rest
pub record Pops (table : List ℕ) (l : Tree) (e : Entry) (r : Tree) (q : Neighbour) (o : Taken) : Type 0 where
  pub least : o.least ≡ (without_least l e r).least.slot
  pub holds : Holds table (without_least l e r).least
  pub rest : Refines table (held (without_least l e r).least.label) q (without_least l e r).rest
      (leb (height (node l e r)) (height (without_least l e r).rest)) (slots (without_least l e r).rest) o.rest

-- A node over its left son without that son's smallest node is the node without it.
pop_level : (a : Tree) (d : Entry) (b : Tree) (e : Entry) (r : Tree) (p q : Neighbour) (table : List ℕ) (o : Taken)
    → Kept (node (node a d b) e r) → Between p q (node (node a d b) e r) → Once (slots (node (node a d b) e r))
    → RepLeast table (held (without_least a d b).least.label) q (node (node a d b) e r)
    → Pops table a d b (held e.label) o
    → Refines table (held (without_least a d b).least.label) q (rebalanced (without_least a d b).rest e r)
    (leb (height (node (node a d b) e r)) (height (rebalanced (without_least a d b).rest e r)))
    (slots (rebalanced (without_least a d b).rest e r)) (shrink false o.rest.table e.slot o.rest.top)
pop_level a d b e r p q table o kept order once rep done =
    let m = (without_least a d b).least in
    let rest = (without_least a d b).rest in
    let above = least_above p (held e.label) a d b order.on_left_lem in
    shrunk_level left table (held m.label) q (node a d b) e r rest (slots rest) (slots (rebalanced rest e r))
    o.rest (shrunk_without_least a d b kept.near_kept)
    (record {
      kept = kept;
      order = record { above = above.below; below = order.below; on_left_lem = above.rest; on_right_lem = order.on_right_lem };
      stands = rep.0;
      far_rep = rep.2;
      done = done.rest;
      once = λ k. omega (arith, once k, occurrences_of_rest k (node a d b) e r);
      within = λ k. omega arith;
      fits = λ k. omega (arith, occurrences_of_rebalanced k rest e r);
    })

-- `pop_least` takes the smallest node out.
pub pop_refines : (l : Tree) (e : Entry) (r : Tree) (p q : Neighbour) (table : List ℕ) (height' : ℕ)
    → Kept (node l e r) → Between p q (node l e r) → Once (slots (node l e r))
    → RepLeast table (held (without_least l e r).least.label) q (node l e r) → height (node l e r) ≤ height'
    → Pops table l e r q (pop_least height' table e.slot)
pop_refines empty e r p q table zero kept order once rep fits = absurd (omega arith)
pop_refines empty e r p q table (suc height') kept order once rep fits =
    rw (pop_at_end height' e.slot table rep.1)
    (record {
      least = refl;
      holds = record { has = rep.0; len = rep.3; value = rep.4; charge = rep.5 };
      rest = refines_of_son r (held e.label) q table (slots r) (row_at table e.slot).right
          (height (node empty e r)) rep.2 (omega arith) rep.6;
    })
pop_refines (node a d b) e r p q table zero kept order once rep fits = absurd (omega arith)
pop_refines (node a d b) e r p q table (suc height') kept order once rep fits =
    let within : Once (slots (node a d b)) = λ k. omega (arith, once k, occurrences_of_node k (node a d b) e r) in
    let low = order.on_left_lem in
    let here = held e.label in
    let done = pop_refines a d b p here table height' kept.near_kept low within rep.1 (omega arith) in
    let has = root_has_row a d b table (held (without_least a d b).least.label) here rep.1 in
    rw (pop_below height' e.slot d.slot table (λ i. (rep.0.row i).left) (λ none. omega arith))
    (record {
      least = done.least;
      holds = done.holds;
      rest = pop_level a d b e r p q table (pop_least height' table d.slot) kept order once rep done;
    })
