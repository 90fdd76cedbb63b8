-- A table after two or three rows are stored in slots of their own.
-- `two_stored`, `three_stored`: the rows are read back, and all else stays.
use mathlib.Core.Path.{◌≡◌, ◌∙◌}
use mathlib.Core.Logic.{◌≢◌}
use mathlib.Core.List.{List, [], ◌∷◌}
use mathlib.Core.Bool.{Bool}
use Prim.Native.Nat.{ℕ}
use native.Mathlib.Omega.{arith}
use Rattle.types.specs.declared.Row.{Row}
use Rattle.words.specs.Rows.{HasRow}
use Rattle.words.proofs.Laws.{slot_put}
use Rattle.sides.specs.Rows.{flipped, row_on, put_on}
use Rattle.rotations.proofs.Rep.{Frame}
use Rattle.rotations.proofs.Flips.{row_on_same, row_on_other}
use Rattle.rotations.proofs.Frames.{own_slot, frame_none, frame_put, frame_wider, has_framed}

-- the table `after` has these rows in the slots j and k, and differs from the table nowhere else
pub record TwoStored (flip : Bool) (table after : List ℕ) (j : ℕ) (first : Row) (k : ℕ) (second : Row) : Type 0 where
  pub frame : Frame (j ∷ k ∷ []) table after
  pub first_row : row_on flip after j ≡ first
  pub second_row : row_on flip after k ≡ second

-- so with a third row
pub record ThreeStored (flip : Bool) (table after : List ℕ) (j : ℕ) (first : Row) (k : ℕ) (second : Row)
    (m : ℕ) (third : Row) : Type 0 where
  pub frame : Frame (j ∷ k ∷ m ∷ []) table after
  pub first_row : row_on flip after j ≡ first
  pub second_row : row_on flip after k ≡ second
  pub third_row : row_on flip after m ≡ third

module _ (flip : Bool) (table : List ℕ) (j : ℕ) (first : Row) (k : ℕ) (second : Row)
    (j_has : HasRow table j) (k_has : HasRow table k) (j_not_k : j ≢ k) where
  -- Two stored rows are read back, and all else stays.
  pub two_stored : TwoStored flip table (put_on flip (put_on flip table j first) k second) j first k second
  two_stored =
      let once = put_on flip table j first in
      record {
        frame =
            frame_put k (flipped flip second)
            (frame_put j (flipped flip first) (frame_none _ table) j_has.low (omega (arith, own_slot j)))
            k_has.low (omega (arith, own_slot k));
        first_row =
            row_on_other flip once k second j k_has.low j_has.low j_not_k ∙ row_on_same flip table j first j_has;
        second_row = row_on_same flip once k second (slot_put table j k (flipped flip first) k_has);
      }

  -- So are three.
  pub three_stored : (m : ℕ) (third : Row) → HasRow table m → j ≢ m → k ≢ m
      → ThreeStored flip table (put_on flip (put_on flip (put_on flip table j first) k second) m third)
      j first k second m third
  three_stored m third m_has j_not_m k_not_m =
      let twice = put_on flip (put_on flip table j first) k second in
      record {
        frame =
            frame_put m (flipped flip third) (frame_wider (λ i out. omega arith) two_stored.frame)
            m_has.low (omega (arith, own_slot m));
        first_row =
            row_on_other flip twice m third j m_has.low j_has.low j_not_m ∙ two_stored.first_row;
        second_row =
            row_on_other flip twice m third k m_has.low k_has.low k_not_m ∙ two_stored.second_row;
        third_row = row_on_same flip twice m third (has_framed two_stored.frame m_has);
      }
