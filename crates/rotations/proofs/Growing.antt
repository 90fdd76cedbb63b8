-- A node over a near son that was inserted into or deleted from: the words are updated as the tree.
-- `grow_refines`, `shrink_refines`: the claims for `grow` and `shrink`.
use mathlib.Core.Path.{◌≡◌, refl, sym, ap, ◌∙◌}
use mathlib.Core.List.{List}
use mathlib.Core.Bool.{Bool, true, false}
use Prim.Native.Nat.{ℕ, suc, ◌≤◌, ◌<◌}
use Prim.Native.Nat.compare
use native.Mathlib.Omega.{arith}
use lib.Dec.{ltb, leb}
use borrow.Author.Tests.{le-ltb, le-leb}
use Rattle.labels.specs.Neighbours.{Neighbour}
use Rattle.labels.proofs.Numbers.{Ltb, lt_yes, lt_no, ltb_view, Leb, le_yes, le_no, leb_view}
use Rattle.trees.specs.Trees.{Entry, Tree, slots, Side, other, from}
use Rattle.trees.specs.Heights.{height}
use Rattle.trees.proofs.Sides.{height_from, sons_from}
use Rattle.trees.proofs.Balance.{Grown, Shrunk}
use Rattle.tables.specs.Prefix.{balance_by, balance_of}
use Rattle.tables.specs.Written.{link_of}
use Rattle.turns.specs.declared.Rebuilt.{Rebuilt}
use Rattle.sides.specs.Rows.{row_on, put_on}
use Rattle.turns.specs.Turns.{Turned, outcome, with_son, grow, shrink}
use Rattle.rotations.proofs.Rep.{Frame, Refines, flip_on, top_on, Over, GrowRefines, ShrinkRefines}
use Rattle.rotations.proofs.Flips.{Leans, leans, row_on_same}
use Rattle.rotations.proofs.Computed.{with_son_is, grow_is, shrink_is}
use Rattle.rotations.proofs.Mirrored.{stale_other, lean_other}
use Rattle.rotations.proofs.Frames.{frame_then, has_framed}
use Rattle.rotations.proofs.Nodes.{from_row}
use Rattle.rotations.proofs.Prefix.{row_of}
use Rattle.rotations.proofs.Tops.{top_level}
use Rattle.rotations.proofs.Turning.{Stale, refines_as}
use Rattle.rotations.proofs.Leaning.{put_frame, near_stays, far_stays, put_refines, lean_refines}

-- An update after another that touches no more.
refines_then : {touched before middle : List ℕ} {p q : Neighbour} {t : Tree} {tall : Bool} {o : Turned}
    → Frame touched before middle → Refines middle p q t tall touched o → Refines before p q t tall touched o
refines_then frame refines =
    record {
      link = refines.link;
      height = refines.height;
      rep = refines.rep;
      frame = frame_then frame refines.frame;
    }

-- Two heights that both rise by one keep their balance.
balance_risen : {risen : ℕ} (near far : ℕ) → risen ≡ suc near → balance_of near far ≡ balance_of risen (suc far)
balance_risen near far is = rw is (ap balance_by (sym (compare.suc-suc near far)))

-- the table in which the near son of e has its new link
abbrev linked_to : Side → List ℕ → Neighbour → Neighbour → Tree → Entry → Tree → Tree → List ℕ
linked_to s table p q near e far near' =
    put_on (flip_on s) table e.slot (row_of p (link_of near') (link_of far) (balance_of (height near) (height far)) e q)

module _ (s : Side) (table : List ℕ) (p q : Neighbour) (near : Tree) (e : Entry) (far near' : Tree) (son : Rebuilt)
    (over : Over s table p q near e far near' son) where
  -- What `with_son` leaves.
  linked_is : with_son (flip_on s) table e.slot son.link ≡ linked_to s table p q near e far near'
  linked_is =
      with_son_is (flip_on s) table e.slot son.link (from_row table p q near e far s over.stands.row)
      ∙ ap (λ link. put_on (flip_on s) table e.slot
      (row_of p link (link_of far) (balance_of (height near) (height far)) e q)) over.link

  -- The node, where the near son is as high as it was.
  level : (tall : Bool) → height near ≡ height near'
      → Refines table p q (from s near' e far) tall (slots (from s near' e far))
      (outcome (linked_to s table p q near e far near') e.slot tall)
  level tall same =
      let lean : Leans (height near') (height far) (balance_of (height near) (height far)) =
      rw (← same) (leans (height near) (height far)) in
      put_refines s table p q near' e far tall over.once over.stands.has over.near_rep over.far_rep lean

  -- Only the slot of e is touched, a slot of the tree.
  linked_frame : Frame (slots (from s near' e far)) table (linked_to s table p q near e far near')
  linked_frame = put_frame s table p q near' e far
      (row_of p (link_of near') (link_of far) (balance_of (height near) (height far)) e q) over.once over.stands.has

  -- The row of e in the table with the new link.
  linked_row_lem : {b : ℕ} → balance_of (height near) (height far) ≡ b
      → row_on (flip_on s) (linked_to s table p q near e far near') e.slot ≡ row_of p (link_of near') (link_of far) b e q
  linked_row_lem balance =
      row_on_same (flip_on s) table e.slot _ over.stands.has
      ∙ ap (λ b. row_of p (link_of near') (link_of far) b e q) balance

  -- Where the near son is taller by one than before, the node is stale.
  stale_grown : Grown near near' → height near < height near'
      → Stale s (linked_to s table p q near e far near') p q near' e far
  stale_grown grown taller =
      let row = row_of p (link_of near') (link_of far) (balance_of (height near) (height far)) e q in
      let sons = sons_from s near e far over.kept in
      let risen : height near' ≡ suc (height near) = omega arith in
      record {
        order = over.order;
        once = over.once;
        has = has_framed linked_frame over.stands.has;
        row = linked_row_lem (balance_risen (height near) (height far) risen);
        near_rep = near_stays s table p q near' e far row over.once over.stands.has over.near_rep;
        far_rep = far_stays s table p q near' e far row over.once over.stands.has over.far_rep;
        near_kept = grown.kept;
        not_lower = omega arith;
        by_two = omega arith;
      }

  -- Where the near son is lower by one than before, the node is stale, seen from the other side.
  stale_shrunk : Shrunk near near' → height near' < height near
      → Stale (other s) (linked_to s table p q near e far near') p q far e near'
  stale_shrunk shrunk lower =
      let row = row_of p (link_of near') (link_of far) (balance_of (height near) (height far)) e q in
      let sons = sons_from s near e far over.kept in
      let sunk : height near ≡ suc (height near') = omega arith in
      stale_other s (linked_to s table p q near e far near') p q near' e far over.order over.once
      (has_framed linked_frame over.stands.has) (linked_row_lem (ap (λ h. balance_of h (height far)) sunk))
      (near_stays s table p q near' e far row over.once over.stands.has over.near_rep)
      (far_stays s table p q near' e far row over.once over.stands.has over.far_rep)
      sons.far_kept (omega arith) (omega arith)

  -- By the flag: the son is taller by one, or as tall as before.
  grow_by : {tall : Bool} → Grown near near' → Ltb (height near) (height near') tall → son.tall ≡ tall
      → Refines table p q (top_on s near' e far) (ltb (height (from s near e far)) (height (top_on s near' e far)))
      (slots (from s near' e far)) (grow (flip_on s) table e.slot son)
  grow_by grown (lt_yes taller) flag =
      let before = height_from s near e far in
      refines_then linked_frame
      (refines_as (grow_is (flip_on s) table e.slot son flag linked_is) refl
      (ap (λ m. ltb m (height (top_on s near' e far))) (omega arith))
      (lean_refines s (linked_to s table p q near e far near') p q near' e far (stale_grown grown taller)))
  grow_by grown (lt_no not_taller) flag =
      let before = height_from s near e far in
      let after = height_from s near' e far in
      let sons = sons_from s near e far over.kept in
      let top = top_level s near' e far (omega arith) (omega arith) in
      let tall : height (top_on s near' e far) ≤ height (from s near e far) = rw top (omega arith) in
      refines_as (grow_is (flip_on s) table e.slot son flag linked_is) top (le-ltb _ _ tall)
      (level false (omega arith))

  -- By the flag: the son is as tall as before, or lower by one.
  shrink_by : {tall : Bool} → Shrunk near near' → Leb (height near) (height near') tall → son.tall ≡ tall
      → Refines table p q (top_on s near' e far) (leb (height (from s near e far)) (height (top_on s near' e far)))
      (slots (from s near' e far)) (shrink (flip_on s) table e.slot son)
  shrink_by shrunk (le_yes not_lower) flag =
      let before = height_from s near e far in
      let after = height_from s near' e far in
      let sons = sons_from s near e far over.kept in
      let top = top_level s near' e far (omega arith) (omega arith) in
      let tall : height (from s near e far) ≤ height (top_on s near' e far) = rw top (omega arith) in
      refines_as (shrink_is (flip_on s) table e.slot son flag linked_is) top (le-leb _ _ tall)
      (level true (omega arith))
  shrink_by shrunk (le_no lower) flag =
      let before = height_from s near e far in
      refines_then linked_frame
      (refines_as (shrink_is (flip_on s) table e.slot son flag linked_is) refl
      (ap (λ m. leb m (height (top_on s near' e far))) (omega arith))
      (lean_other s (linked_to s table p q near e far near') p q near' e far (stale_shrunk shrunk lower)))

-- `grow` in the words is the update of the tree.
pub grow_refines : GrowRefines
grow_refines s table p q near e far near' son over grown flag =
    grow_by s table p q near e far near' son over grown (ltb_view (height near) (height near')) flag

-- `shrink` in the words is the update of the tree.
pub shrink_refines : ShrinkRefines
shrink_refines s table p q near e far near' son over shrunk flag =
    shrink_by s table p q near e far near' son over shrunk (leb_view (height near) (height near')) flag
