-- The node that takes the place of one with two sons: the smallest of the right son.
-- next_table: the table with that node's row stored in the place of e.
-- Next, next_refines: that node, put in balance in the place of e, is the tree without e.
use mathlib.Core.List.{List, [], ◌∷◌}
use mathlib.Core.Path.{◌≡◌, ap, ◌∙◌}
use mathlib.Core.Bool.{true}
use Prim.Native.Nat.{ℕ, ◌+◌, ◌≤◌}
use native.Mathlib.Omega.{arith}
use lib.Dec.{eqb, leb}
use Rattle.types.specs.declared.Row.{Row}
use Rattle.labels.specs.Neighbours.{Neighbour, held}
use Rattle.labels.proofs.Difference.{before_trans}
use Rattle.trees.specs.Trees.{Entry, Tree, node, slots, right}
use Rattle.trees.specs.Heights.{height}
use Rattle.trees.specs.Valid.{one_if, occurrences}
use Rattle.trees.proofs.Heights.{Kept}
use Rattle.trees.proofs.Balance.{Shrunk}
use Rattle.trees.proofs.Sorted.{Between}
use Rattle.trees.proofs.SlotCounts.{occurrences_of_node}
use Rattle.tables.specs.Prefix.{side_within}
use Rattle.words.proofs.Laws.{row_put_same, slot_put}
use Rattle.turns.specs.Turns.{Turned, shrink}
use Rattle.paths.specs.Paths.{put_least}
use Rattle.rotations.proofs.Rep.{bare_within, Stands, Rep, Frame, Once, Refines, Over, top_on}
use Rattle.rotations.proofs.Frames.{own_slot, has_framed}
use Rattle.rotations.proofs.Growing.{shrink_refines}
use Rattle.rotations.proofs.Stays.{frame_of_put, frame_both, stands_framed, rep_apart, refines_after}
use Rattle.rotations.proofs.Orders.{Above, between_higher}
use Rattle.rotations.proofs.Pops.{Holds}

module _ (table : List ℕ) (p q : Neighbour) (l : Tree) (e : Entry) (r : Tree) (m : Entry) where
  -- the table with m in the place of e
  unfoldable pub next_table : List ℕ
  next_table = put_least table e.slot m.slot (bare_within p m.label q) (side_within p m.label q)

  -- A node put in the place of e stands there.
  stands_in_place : Stands table p l e r q → Holds table m → Stands next_table p l m r q
  unfolding next_table put_least
  stands_in_place stands holds = record {
    has = slot_put table m.slot m.slot _ holds.has;
    row = row_put_same table m.slot _ holds.has ∙ (λ i. record {
      left = (stands.row i).left;
      right = (stands.row i).right;
      place = bare_within p m.label q;
      side = side_within p m.label q;
      balance = (stands.row i).balance;
      len = holds.len i;
      value = holds.value i;
      charge = holds.charge i;
    });
  }

  -- It touches its own slot.
  frame_of_place : Holds table m → Frame (m.slot ∷ []) table next_table
  unfolding next_table put_least
  frame_of_place holds = frame_of_put table m.slot _ holds.has.low

-- What a row holds stays where its slot is not touched.
holds_framed : {touched before after : List ℕ} {m : Entry} → Frame touched before after
    → occurrences m.slot touched ≡ 0 → Holds before m → Holds after m
holds_framed {m = m} frame none holds =
    let kept = frame.rows m.slot holds.has.low none in
    record {
      has = has_framed frame holds.has;
      len = ap (λ (row : Row). row.len) kept ∙ holds.len;
      value = ap (λ (row : Row). row.value) kept ∙ holds.value;
      charge = ap (λ (row : Row). row.charge) kept ∙ holds.charge;
    }

-- the node e with sons l and r, between p and q; o is r without its smallest node m, which comes into the place of e
pub record Next (l : Tree) (e : Entry) (r : Tree) (m : Entry) (rest : Tree) (p q : Neighbour) (table : List ℕ)
    (o : Turned) : Type 0 where
  pub kept : Kept (node l e r)
  pub order : Between p q (node l e r)
  pub above : Above (held e.label) m.label q rest
  pub once : Once (slots (node l e r))
  pub counts : (k : ℕ) → one_if (eqb k m.slot) + occurrences k (slots rest) ≡ occurrences k (slots r)
  pub stands : Stands table p l e r q
  pub rep : Rep table p (held m.label) l
  pub holds : Holds table m
  pub done : Refines table (held m.label) q rest (leb (height r) (height rest)) (slots rest) o

module _ {l : Tree} {e : Entry} {r : Tree} {m : Entry} {rest : Tree} {p q : Neighbour} {table : List ℕ} {o : Turned}
    (n : Next l e r m rest p q table o) where
  -- No slot is twice among those of l, e, m and the rest.
  parts_once : (k : ℕ)
      → occurrences k (slots l) + (one_if (eqb k e.slot) + (one_if (eqb k m.slot) + occurrences k (slots rest))) ≤ 1
  parts_once k = omega (arith, n.once k, n.counts k, occurrences_of_node k l e r)

  -- The rest's outcome leaves the row of m.
  holds_after : Holds o.table m
  holds_after =
      holds_framed n.done.frame (omega (arith, parts_once m.slot, own_slot m.slot)) n.holds

  placed : Frame (m.slot ∷ []) o.table (next_table o.table p q l e r m)
  placed = frame_of_place o.table p q l e r m holds_after

  popped_and_placed : Frame (slots r) table (next_table o.table p q l e r m)
  popped_and_placed =
      frame_both (λ k. omega (arith, n.counts k)) (λ k. omega (arith, n.counts k)) n.done.frame placed

  -- In the place of e, m is over the rest.
  over_of_next : Over right (next_table o.table p q l e r m) p q r m l rest o.top
  over_of_next = record {
    kept = n.kept;
    order = record {
      above = before_trans n.order.above n.above.above;
      below = n.above.below;
      on_left_lem = between_higher p (held e.label) l n.order.above n.above.above n.order.on_left_lem;
      on_right_lem = n.above.rest;
    };
    once = λ k. omega (arith, parts_once k, occurrences_of_node k l m rest);
    stands = stands_in_place o.table p q l e r m
        (stands_framed n.done.frame (omega (arith, parts_once e.slot, own_slot e.slot)) n.stands)
        holds_after;
    near_rep = rep_apart placed (held m.label) q rest (λ k. omega (arith, parts_once k)) n.done.rep;
    far_rep = rep_apart popped_and_placed p (held m.label) l
        (λ k. omega (arith, parts_once k, n.counts k)) n.rep;
    link = n.done.link;
  }

  -- Put in balance there, it is the tree without e.
  pub next_refines : Shrunk r rest
      → Refines table p q (top_on right rest m l) (leb (height (node l e r)) (height (top_on right rest m l)))
      (slots (node l e r)) (shrink true (next_table o.table p q l e r m) m.slot o.top)
  next_refines shrunk =
      refines_after popped_and_placed (λ k. omega (arith, occurrences_of_node k l e r))
      (λ k. omega (arith, n.counts k, occurrences_of_node k l e r, occurrences_of_node k l m rest))
      (shrink_refines right (next_table o.table p q l e r m) p q r m l rest o.top over_of_next shrunk
      n.done.height)
