-- One level of an update: a node over a son that was updated already.
-- near_link: the row of a node has the link of its son on a side.
-- refines_of_son: a son alone takes the place of its parent.
-- Deeper: a node whose son was updated.
-- grown_level, shrunk_level: the node put in balance is the update of the tree, seen from the table before both.
use mathlib.Core.List.{List}
use mathlib.Core.Path.{◌≡◌, sym, ap}
use mathlib.Core.Bool.{Bool, false}
use Prim.Native.Nat.{ℕ, ◌+◌, ◌≤◌, ◌<◌}
use native.Mathlib.Omega.{arith}
use lib.Dec.{eqb, ltb, leb}
use borrow.Author.Tests.{lt-leb}
use Rattle.types.specs.declared.Row.{Row}
use Rattle.labels.specs.Neighbours.{Neighbour}
use Rattle.trees.specs.Trees.{Entry, Tree, slots, Side, left, right, other, from, on}
use Rattle.trees.specs.Heights.{height}
use Rattle.trees.specs.Valid.{one_if, occurrences}
use Rattle.trees.proofs.Heights.{Kept}
use Rattle.trees.proofs.Balance.{Grown, Shrunk}
use Rattle.trees.proofs.Sorted.{Between}
use Rattle.tables.specs.Written.{link_of}
use Rattle.sides.specs.Rows.{flipped, row_on}
use Rattle.turns.specs.Turns.{Turned, outcome, grow, shrink}
use Rattle.rotations.proofs.Rep.{Stands, Rep, Once, Refines, flip_on, low_on, high_on, RepOn, Over, top_on}
use Rattle.rotations.proofs.Frames.{own_slot, frame_none}
use Rattle.rotations.proofs.Nodes.{occurrences_from}
use Rattle.rotations.proofs.Growing.{grow_refines, shrink_refines}
use Rattle.rotations.proofs.Stays.{Within, stands_framed, rep_apart, refines_after}

-- The row of a node has the link of its son on a side.
pub near_link : (s : Side) (near far : Tree) {table : List ℕ} {p q : Neighbour} {e : Entry}
    → Stands table p (on s near far) e (on (other s) near far) q → (row_on (flip_on s) table e.slot).left ≡ link_of near
unfolding flipped
near_link left near far stands = ap (λ (row : Row). row.left) stands.row
near_link right near far stands = ap (λ (row : Row). row.right) stands.row

-- A son alone takes the place of its parent, which was higher.
pub refines_of_son : (t : Tree) (p q : Neighbour) (table touched : List ℕ) (link tallness : ℕ) → link ≡ link_of t
    → height t < tallness → Rep table p q t
    → Refines table p q t (leb tallness (height t)) touched (outcome table link false)
refines_of_son t p q table touched link tallness equal lower rep =
    let flag = sym (lt-leb tallness (height t) lower) in
    record { link = equal; height = flag; rep = rep; frame = frame_none touched table }

-- the node e between p and q, whose son on side s was near; o is that son's update to near', which touched these slots.
-- They, the node's own and those of its other son are all within whole.
pub record Deeper (s : Side) (table : List ℕ) (p q : Neighbour) (near : Tree) (e : Entry) (far near' : Tree)
    (tall : Bool) (touched whole : List ℕ) (o : Turned) : Type 0 where
  pub kept : Kept (from s near e far)
  pub order : Between p q (from s near' e far)
  pub stands : Stands table p (on s near far) e (on (other s) near far) q
  pub far_rep : RepOn (other s) table p e.label q far
  pub done : Refines table (low_on s p e.label) (high_on s e.label q) near' tall touched o
  pub once : Once whole
  pub within : Within (slots near') touched
  pub fits : (k : ℕ)
      → occurrences k touched + (one_if (eqb k e.slot) + occurrences k (slots far)) ≤ occurrences k whole

module _ {s : Side} {table : List ℕ} {p q : Neighbour} {near : Tree} {e : Entry} {far near' : Tree} {tall : Bool}
    {touched whole : List ℕ} {o : Turned} (d : Deeper s table p q near e far near' tall touched whole o) where
  -- The node's slots with the son updated are within whole.
  level_within : Within (slots (from s near' e far)) whole
  level_within k = omega (arith, d.fits k, d.within k, occurrences_from s k near' e far)

  -- The node is over its near son, in the table that the son's update left.
  over_of_deeper : Over s o.table p q near e far near' o.top
  over_of_deeper =
      record {
        kept = d.kept;
        order = d.order;
        once = λ k. omega (arith, d.once k, level_within k);
        stands = stands_framed d.done.frame
            (omega (arith, d.fits e.slot, d.once e.slot, own_slot e.slot)) d.stands;
        near_rep = d.done.rep;
        far_rep = rep_apart d.done.frame (low_on (other s) p e.label) (high_on (other s) e.label q) far
            (λ k. omega (arith, d.fits k, d.once k)) d.far_rep;
        link = d.done.link;
      }

  -- The son's update and then the node's, both seen from the table before.
  level_after : {t : Tree} {taller : Bool} {o' : Turned}
      → Refines o.table p q t taller (slots (from s near' e far)) o' → Refines table p q t taller whole o'
  level_after done = refines_after d.done.frame (λ k. omega (arith, d.fits k)) level_within done

module _ (s : Side) (table : List ℕ) (p q : Neighbour) (near : Tree) (e : Entry) (far near' : Tree)
    (touched whole : List ℕ) (o : Turned) where
  -- Where the son was inserted into.
  pub grown_level : Grown near near'
      → Deeper s table p q near e far near' (ltb (height near) (height near')) touched whole o
      → Refines table p q (top_on s near' e far) (ltb (height (from s near e far)) (height (top_on s near' e far))) whole
      (grow (flip_on s) o.table e.slot o.top)
  grown_level grown d =
      level_after d
      (grow_refines s o.table p q near e far near' o.top (over_of_deeper d) grown d.done.height)

  -- Where the son was deleted from.
  pub shrunk_level : Shrunk near near'
      → Deeper s table p q near e far near' (leb (height near) (height near')) touched whole o
      → Refines table p q (top_on s near' e far) (leb (height (from s near e far)) (height (top_on s near' e far))) whole
      (shrink (flip_on s) o.table e.slot o.top)
  shrunk_level shrunk d =
      level_after d
      (shrink_refines s o.table p q near e far near' o.top (over_of_deeper d) shrunk d.done.height)
