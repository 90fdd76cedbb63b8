-- A node whose near son has become shorter by one, seen from the other side, where the near son is the taller one.
-- `stale_other`: it is stale there. `lean_other`: `lean` from that side.
use mathlib.Core.Path.{◌≡◌, sym, ap, ◌∙◌}
use mathlib.Core.List.{List}
use mathlib.Core.Bool.{true, not}
use Prim.Native.Nat.{ℕ, suc, ◌≤◌, max}
use lib.Dec.{ltb}
use Rattle.types.specs.declared.Row.{Row}
use Rattle.labels.specs.Neighbours.{Neighbour}
use Rattle.trees.specs.Trees.{Entry, Tree, slots, Side, left, right, other, from}
use Rattle.trees.specs.Heights.{height}
use Rattle.trees.proofs.Heights.{Kept}
use Rattle.trees.proofs.Sorted.{Between}
use Rattle.tables.specs.Prefix.{balance_of}
use Rattle.tables.specs.Words.{row_at}
use Rattle.tables.specs.Written.{link_of}
use Rattle.words.specs.Rows.{HasRow}
use Rattle.sides.specs.Rows.{mirrored, flipped, row_on}
use Rattle.turns.specs.Turns.{lean}
use Rattle.rotations.proofs.Rep.{Once, Refines, flip_on, RepOn, top_on}
use Rattle.rotations.proofs.Flips.{mirrored_balance, flipped_twice}
use Rattle.rotations.proofs.Prefix.{row_of}
use Rattle.rotations.proofs.Turning.{Stale}
use Rattle.rotations.proofs.Leaning.{lean_refines}

-- A row seen from the other side.
row_turned : (s : Side) (table : List ℕ) (k : ℕ) (p q : Neighbour) (e : Entry) {l r b : ℕ}
    → row_on (flip_on s) table k ≡ row_of p l r b e q → row_on (flip_on (other s)) table k ≡ row_of p r l (mirrored b) e q
unfolding flipped
row_turned left table k p q e row = ap (flipped true) row
row_turned right table k p q e row = sym (flipped_twice true (row_at table k)) ∙ ap (flipped true) row

-- A node whose near son has become shorter by one is stale, seen from the other side.
pub stale_other : (s : Side) (table : List ℕ) (p q : Neighbour) (near : Tree) (e : Entry) (far : Tree)
    → Between p q (from s near e far) → Once (slots (from s near e far)) → HasRow table e.slot
    → row_on (flip_on s) table e.slot
    ≡ row_of p (link_of near) (link_of far) (balance_of (suc (height near)) (height far)) e q
    → RepOn s table p e.label q near → RepOn (other s) table p e.label q far
    → Kept far → height near ≤ height far → height far ≤ suc (suc (height near)) → Stale (other s) table p q far e near
stale_other s table p q near e far order once has row near_rep far_rep kept low fits =
    go s order once (row_turned s table e.slot p q e row ∙ ap seen_row balance) near_rep far_rep
  where
    seen_row : ℕ → Row
    seen_row b = row_of p (link_of far) (link_of near) b e q

    balance : mirrored (balance_of (suc (height near)) (height far)) ≡ balance_of (height far) (suc (height near))
    balance = mirrored_balance (height far) (suc (height near))

    made : (t : Side) → Between p q (from t far e near) → Once (slots (from t far e near))
        → row_on (flip_on t) table e.slot ≡ seen_row (balance_of (height far) (suc (height near)))
        → RepOn t table p e.label q far → RepOn (other t) table p e.label q near → Stale t table p q far e near
    made t order once row far_rep near_rep =
        record {
          order = order;
          once = once;
          has = has;
          row = row;
          near_rep = far_rep;
          far_rep = near_rep;
          near_kept = kept;
          not_lower = low;
          by_two = fits;
        }

    go : (s : Side) → Between p q (from s near e far) → Once (slots (from s near e far))
        → row_on (flip_on (other s)) table e.slot ≡ seen_row (balance_of (height far) (suc (height near)))
        → RepOn s table p e.label q near → RepOn (other s) table p e.label q far
        → Stale (other s) table p q far e near
    go left order once row near_rep far_rep = made right order once row far_rep near_rep
    go right order once row near_rep far_rep = made left order once row far_rep near_rep

-- `lean` from the other side.
pub lean_other : (s : Side) (table : List ℕ) (p q : Neighbour) (near : Tree) (e : Entry) (far : Tree)
    → Stale (other s) table p q far e near
    → Refines table p q (top_on s near e far) (ltb (max (height far) (suc (height near))) (height (top_on s near e far)))
    (slots (from s near e far)) (lean (not (flip_on s)) table e.slot)
lean_other left table p q near e far stale = lean_refines right table p q far e near stale
lean_other right table p q near e far stale = lean_refines left table p q far e near stale
