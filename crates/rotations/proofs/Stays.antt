-- What stays in the rows where an update touches other slots.
-- frame_of_put: a stored row touches its own slot.
-- Within: the slots of one list are among those of another.
-- frame_both: two updates one after the other.
-- stands_framed, rep_apart: a node, and a tree, whose slots an update does not touch stand after it.
-- refines_after: an outcome seen from an earlier table.
use mathlib.Core.List.{List, [], ◌∷◌}
use mathlib.Core.Path.{◌≡◌, ◌∙◌}
use mathlib.Core.Bool.{Bool}
use Prim.Native.Nat.{ℕ, ◌+◌, ◌≤◌}
use native.Mathlib.Omega.{arith}
use Rattle.types.specs.declared.Row.{Row}
use Rattle.labels.specs.Neighbours.{Neighbour}
use Rattle.trees.specs.Trees.{Entry, Tree, slots}
use Rattle.trees.specs.Valid.{occurrences}
use Rattle.words.specs.Rows.{put_row}
use Rattle.turns.specs.Turns.{Turned}
use Rattle.rotations.proofs.Rep.{Stands, Rep, Frame, Refines}
use Rattle.rotations.proofs.Frames.{own_slot, frame_none, frame_put, frame_wider, frame_then}
use Rattle.rotations.proofs.Frames.{has_framed, rep_framed}

-- A stored row touches its own slot.
pub frame_of_put : (table : List ℕ) (k : ℕ) (row : Row) → 1 ≤ k → Frame (k ∷ []) table (put_row table k row)
frame_of_put table k row low = frame_put k row (frame_none (k ∷ []) table) low (omega (arith, own_slot k))

-- the slots of one list are among those of another
abbrev pub Within : List ℕ → List ℕ → Type 0
Within few whole = (k : ℕ) → occurrences k few ≤ occurrences k whole

-- Two updates one after the other, both within some slots.
pub frame_both : {first second whole before between after : List ℕ} → Within first whole → Within second whole
    → Frame first before between → Frame second between after → Frame whole before after
frame_both of_first of_second one two =
    frame_then (frame_wider (λ k out. omega (arith, of_first k)) one)
    (frame_wider (λ k out. omega (arith, of_second k)) two)

module _ {touched before after : List ℕ} (frame : Frame touched before after) where
  -- A node whose slot is not touched stands.
  pub stands_framed : {p q : Neighbour} {l : Tree} {e : Entry} {r : Tree} → occurrences e.slot touched ≡ 0
      → Stands before p l e r q → Stands after p l e r q
  stands_framed {e = e} none stands = record {
    has = has_framed frame stands.has;
    row = frame.rows e.slot stands.has.low none ∙ stands.row;
  }

  -- A tree stands where no slot is twice among its own and those touched.
  pub rep_apart : (p q : Neighbour) (t : Tree) → ((k : ℕ) → occurrences k (slots t) + occurrences k touched ≤ 1)
      → Rep before p q t → Rep after p q t
  rep_apart p q t apart = rep_framed frame p q t (λ k occurs. omega (arith, apart k))

  -- An outcome seen from an earlier table.
  pub refines_after : {p q : Neighbour} {t : Tree} {tall : Bool} {inner whole : List ℕ} {o : Turned}
      → Within touched whole → Within inner whole → Refines after p q t tall inner o → Refines before p q t tall whole o
  refines_after of_touched of_inner done = record {
    link = done.link;
    height = done.height;
    rep = done.rep;
    frame = frame_both of_touched of_inner frame done.frame;
  }
