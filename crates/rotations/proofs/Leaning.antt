-- A node whose near son has become taller by one against the far one: `lean` in the words is the update of the tree.
-- `put_frame`, `near_stays`, `far_stays`: what a row stored at a node leaves.
-- `put_refines`: a node's row stored anew represents the node.
-- `lean_refines`: `lean`, of a node seen from its taller side.
use mathlib.Core.Path.{◌≡◌, refl, sym, ap, ◌∙◌}
use mathlib.Core.List.{List, [], ◌∷◌}
use mathlib.Core.Bool.{Bool, true, false, cond}
use Prim.Native.Nat.{ℕ, suc}
use native.Mathlib.Omega.{arith}
use lib.Dec.{eqb}
use borrow.Author.Tests.{lt-ltb, le-ltb}
use Rattle.types.specs.declared.Row.{Row}
use Rattle.labels.specs.Neighbours.{Neighbour}
use Rattle.trees.specs.Trees.{Entry, Tree, slots, Side, other, from}
use Rattle.trees.specs.Heights.{height}
use Rattle.trees.proofs.Sides.{height_from}
use Rattle.tables.specs.Written.{link_of}
use Rattle.words.specs.Rows.{HasRow}
use Rattle.sides.specs.Rows.{flipped, put_on}
use Rattle.turns.specs.Turns.{Turned, outcome, turn, lean}
use Rattle.rotations.proofs.Rep.{Frame, Once, Refines, flip_on, low_on, high_on, RepOn}
use Rattle.rotations.proofs.Flips.{Leans, to_near, even, to_far, leans, balance_is, row_on_same}
use Rattle.rotations.proofs.Computed.{lean_is}
use Rattle.rotations.proofs.Frames.{own_slot, frame_none, frame_put, frame_wider, has_framed, rep_framed}
use Rattle.rotations.proofs.Nodes.{rep_from, occurrences_from, link_from, seen}
use Rattle.rotations.proofs.Prefix.{row_of}
use Rattle.rotations.proofs.Windows.{row_bare}
use Rattle.rotations.proofs.Turning.{Stale, Leaned, refines_as, taller_as, turn_refines}
use Rattle.rotations.proofs.Tops.{top_level}

-- One row stored at e, whose sons near and far are represented.
module _ (s : Side) (table : List ℕ) (p q : Neighbour) (near : Tree) (e : Entry) (far : Tree) (row : Row)
    (once : Once (slots (from s near e far))) (has : HasRow table e.slot) where
  -- Only the slot of e is touched.
  put_framed : Frame (e.slot ∷ []) table (put_on (flip_on s) table e.slot row)
  put_framed =
      frame_put e.slot (flipped (flip_on s) row) (frame_none _ table) has.low (omega (arith, own_slot e.slot))

  -- Only a slot of the tree is touched.
  pub put_frame : Frame (slots (from s near e far)) table (put_on (flip_on s) table e.slot row)
  put_frame = frame_wider (λ k out. omega (arith, occurrences_from s k near e far)) put_framed

  -- The sons stay.
  pub near_stays : RepOn s table p e.label q near
      → RepOn s (put_on (flip_on s) table e.slot row) p e.label q near
  near_stays =
      rep_framed put_framed (low_on s p e.label) (high_on s e.label q) near
      (λ k occurs. omega (arith, once k, occurrences_from s k near e far))

  pub far_stays : RepOn (other s) table p e.label q far
      → RepOn (other s) (put_on (flip_on s) table e.slot row) p e.label q far
  far_stays =
      rep_framed put_framed (low_on (other s) p e.label) (high_on (other s) e.label q) far
      (λ k occurs. omega (arith, once k, occurrences_from s k near e far))

-- A node's row stored anew represents the node.
pub put_refines : (s : Side) (table : List ℕ) (p q : Neighbour) (near : Tree) (e : Entry) (far : Tree) {b : ℕ}
    (tall : Bool) → Once (slots (from s near e far)) → HasRow table e.slot
    → RepOn s table p e.label q near → RepOn (other s) table p e.label q far → Leans (height near) (height far) b
    → Refines table p q (from s near e far) tall (slots (from s near e far))
    (outcome (put_on (flip_on s) table e.slot (row_of p (link_of near) (link_of far) b e q)) e.slot tall)
put_refines s table p q near e far {b} tall once has near_rep far_rep lean =
    let row = row_of p (link_of near) (link_of far) b e q in
    let frame = put_frame s table p q near e far row once has in
    record {
      link = sym (link_from s near e far);
      height = refl;
      rep = rep_from (put_on (flip_on s) table e.slot row) p q near e far s (record {
        has = has_framed frame has;
        row = row_on_same (flip_on s) table e.slot row has ∙ row_bare p q near e far refl refl lean;
        near_rep = near_stays s table p q near e far row once has near_rep;
        far_rep = far_stays s table p q near e far row once has far_rep;
      });
      frame = frame;
    }

-- `lean` represents the tree put in balance, and says whether it is taller than before the near son rose.
pub lean_refines : (s : Side) (table : List ℕ) (p q : Neighbour) (near : Tree) (e : Entry) (far : Tree)
    → Stale s table p q near e far → Leaned s table p q near e far (lean (flip_on s) table e.slot)
lean_refines s table p q near e far stale =
    go (leans (height near) (suc (height far))) (lean_is (flip_on s) table e.slot stale.row)
  where
    row : ℕ → Row
    row b = row_of p (link_of near) (link_of far) b e q

    by : ℕ → Turned
    by b =
        cond (eqb b 2) (outcome (put_on (flip_on s) table e.slot (row 1)) e.slot false)
        (cond (eqb b 1) (outcome (put_on (flip_on s) table e.slot (row 0)) e.slot true)
        (turn (flip_on s) table e.slot))

    go : {b : ℕ} → Leans (height near) (suc (height far)) b → lean (flip_on s) table e.slot ≡ by b
        → Leaned s table p q near e far (lean (flip_on s) table e.slot)
    go (to_near h) words =
        let of_row = stale.row ∙ ap row (balance_is (to_near h)) in
        rw words (turn_refines s table p q e far (seen s near) stale (omega arith) of_row)
    go (even h) words =
        let top = top_level s near e far (omega arith) (omega arith) in
        let of_top = height_from s near e far in
        refines_as words top
        (taller_as (height near) (suc (height near)) (omega arith) (ap height top ∙ omega arith)
        (lt-ltb (height near) (suc (height near)) (omega arith)))
        (put_refines s table p q near e far true stale.once stale.has stale.near_rep stale.far_rep
        (to_near (omega arith)))
    go (to_far h) words =
        let top = top_level s near e far (omega arith) (omega arith) in
        let of_top = height_from s near e far in
        refines_as words top
        (taller_as (suc (height near)) (suc (height near)) (omega arith) (ap height top ∙ omega arith)
        (le-ltb (suc (height near)) (suc (height near)) (omega arith)))
        (put_refines s table p q near e far false stale.once stale.has stale.near_rep stale.far_rep
        (even (omega arith)))
