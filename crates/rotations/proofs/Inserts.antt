-- Insert along a path.
-- insert_refines: it is the insert of the tree.
use mathlib.Core.List.{List, ◌∷◌}
use mathlib.Core.Path.{◌≡◌, refl}
use Prim.Native.Nat.{ℕ}
use native.Mathlib.Omega.{arith}
use lib.Dec.{ltb}
use lib.ListN.{length}
use Rattle.labels.specs.Labels.{Comparison, Finds, is_smaller_lem, is_same, is_larger}
use Rattle.labels.specs.Neighbours.{Neighbour, held}
use Rattle.labels.proofs.Order.{below_of_smaller}
use Rattle.labels.proofs.Compare.{compares_by_places}
use Rattle.labels.proofs.Difference.{Before, below_is_before}
use Rattle.labels.proofs.Clashes.{clash}
use Rattle.trees.specs.Trees.{Entry, Tree, empty, node, slots, Side, left, right, other, from, on}
use Rattle.trees.specs.Heights.{height}
use Rattle.trees.specs.Searches.{absent, search_by, full_search}
use Rattle.trees.specs.Updates.{inserted_by, inserted}
use Rattle.trees.proofs.Heights.{Kept}
use Rattle.trees.proofs.Sides.{sons_from}
use Rattle.trees.proofs.Balance.{grown_inserted}
use Rattle.trees.proofs.Sorted.{Between}
use Rattle.trees.proofs.SlotCounts.{occurrences_of_inserted, occurrences_of_node}
use Rattle.tables.specs.Written.{link_of}
use Rattle.sides.specs.Rows.{row_on}
use Rattle.turns.specs.Turns.{Turned, grow}
use Rattle.paths.specs.Paths.{path_of, insert_along}
use Rattle.rotations.proofs.Rep.{Stands, Rep, Once, Refines, flip_on, low_on, high_on, RepOn, top_on}
use Rattle.rotations.proofs.Along.{sides_by, sides_to, low_to, high_to, InsertRefines}
use Rattle.rotations.proofs.Bits.{flip_of_path, rest_of_path}
use Rattle.rotations.proofs.Frames.{frame_none}
use Rattle.rotations.proofs.Nodes.{occurrences_from}
use Rattle.rotations.proofs.Orders.{low_by, high_by, between_with, between_inserted}
use Rattle.rotations.proofs.Levels.{near_link, grown_level}

-- Along a path that starts with a side, the node is put in balance over that son's insert.
insert_step : (s : Side) (more : List Side) (table : List ℕ) (c slot near : ℕ) → (row_on (flip_on s) table c).left ≡ near
    → let deeper = insert_along (length more) (path_of more) table near slot in
    insert_along (length (s ∷ more)) (path_of (s ∷ more)) table c slot ≡ grow (flip_on s) deeper.table c deeper.top
unfolding insert_along
insert_step s more table c slot near link = rw (flip_of_path s more, rest_of_path s more, link)

-- the claim of a tree in its window
abbrev Inserts : Tree → Neighbour → Neighbour → List ℕ → Entry → Type 0
Inserts t p q table new =
    (full_search new.label t).result ≡ absent → Once (new.slot ∷ slots t) → Rep table p q t
    → Stands table (low_to p new.label t) empty new empty (high_to q new.label t)
    → Refines table p q (inserted new t) (ltb (height t) (height (inserted new t))) (new.slot ∷ slots t)
    (insert_along (length (sides_to new.label t)) (path_of (sides_to new.label t)) table (link_of t) new.slot)

-- A node over its son's insert is the insert of the node.
insert_level : (s : Side) (near : Tree) (e : Entry) (far : Tree) (p q : Neighbour) (table : List ℕ) (new : Entry)
    (o : Turned) → Kept (from s near e far) → Between p q (from s near e far)
    → Between (low_on s p e.label) (high_on s e.label q) (inserted new near)
    → (full_search new.label near).result ≡ absent → Once (new.slot ∷ slots (from s near e far))
    → Stands table p (on s near far) e (on (other s) near far) q → RepOn (other s) table p e.label q far
    → Refines table (low_on s p e.label) (high_on s e.label q) (inserted new near)
    (ltb (height near) (height (inserted new near))) (new.slot ∷ slots near) o
    → Refines table p q (top_on s (inserted new near) e far)
    (ltb (height (from s near e far)) (height (top_on s (inserted new near) e far)))
    (new.slot ∷ slots (from s near e far)) (grow (flip_on s) o.table e.slot o.top)
insert_level s near e far p q table new o kept order order' none once stands far_rep done =
    grown_level s table p q near e far (inserted new near) (new.slot ∷ slots near)
    (new.slot ∷ slots (from s near e far)) o (grown_inserted new near (sons_from s near e far kept).near_kept)
    (record {
      kept = kept;
      order = between_with s p q near e far (inserted new near) order order';
      stands = stands;
      far_rep = far_rep;
      done = done;
      once = once;
      within = λ k. omega (arith, occurrences_of_inserted new near none k);
      fits = λ k. omega (arith, occurrences_from s k near e far);
    })

-- At a node: by the comparison with its label, the insert goes on into one son.
insert_at_node : (l : Tree) (e : Entry) (r : Tree) (p q : Neighbour) (table : List ℕ) (new : Entry) {c : Comparison}
    → Finds new.label e.label c → Kept (node l e r) → Between p q (node l e r)
    → Before p (held new.label) → Before (held new.label) q
    → (search_by c e (full_search new.label l) (full_search new.label r)).result ≡ absent
    → Once (new.slot ∷ slots (node l e r)) → Rep table p q (node l e r)
    → Stands table (low_by c p (held e.label) new.label l r) empty new empty
    (high_by c (held e.label) q new.label l r)
    → (Before (held new.label) (held e.label) → Inserts l p (held e.label) table new)
    → (Before (held e.label) (held new.label) → Inserts r (held e.label) q table new)
    → let sides = sides_by c (sides_to new.label l) (sides_to new.label r) in
    let after = inserted_by c l e r (inserted new l) (inserted new r) in
    Refines table p q after (ltb (height (node l e r)) (height after)) (new.slot ∷ slots (node l e r))
    (insert_along (length sides) (path_of sides) table e.slot new.slot)
insert_at_node l e r p q table new (is_smaller_lem there) kept order above below none once rep stands on_left on_right =
    let low = below_is_before (below_of_smaller there) in
    let link = near_link left l r rep.0 in
    rw (insert_step left (sides_to new.label l) table e.slot new.slot (link_of l) link)
    (insert_level left l e r p q table new _ kept order
    (between_inserted new p (held e.label) l above low order.on_left_lem) none once rep.0 rep.2
    (on_left low none (λ k. omega (arith, once k, occurrences_of_node k l e r)) rep.1 stands))
insert_at_node l e r p q table new (is_same alike end) kept order above below none once rep stands on_left on_right =
    clash cc
insert_at_node l e r p q table new (is_larger there) kept order above below none once rep stands on_left on_right =
    let high = below_is_before (below_of_smaller there) in
    let link = near_link right r l rep.0 in
    rw (insert_step right (sides_to new.label r) table e.slot new.slot (link_of r) link)
    (insert_level right r e l p q table new _ kept order
    (between_inserted new (held e.label) q r high below order.on_right_lem) none once rep.0 rep.1
    (on_right high none (λ k. omega (arith, once k, occurrences_of_node k l e r)) rep.2 stands))

-- Insert along the path of the search is the insert of the tree.
pub insert_refines : InsertRefines
unfolding insert_along
insert_refines empty p q table new kept order above below none once rep stands =
    record { link = refl; height = refl; rep = (stands, tt, tt); frame = frame_none _ table }
insert_refines (node l e r) p q table new kept order above below none once rep stands =
    insert_at_node l e r p q table new (compares_by_places new.label e.label) kept order above below none once
    rep stands
    (λ low. insert_refines l p (held e.label) table new kept.near_kept order.on_left_lem above low)
    (λ high. insert_refines r (held e.label) q table new kept.far_kept order.on_right_lem high below)
