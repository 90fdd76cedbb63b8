-- A node between its neighbours, from what the parts of its test find.
-- `node_unused`, `node_used`, `node_placed`: its words and bytes are wrong, or its gaps decide.
use Rattle.std.proofs.Common.{◌≡◌, ℕ, Bool, true, false, cond, ◌&&◌, List, sym, refl, ◌∙◌, Option, None}
use Rattle.types.specs.declared.Limits.{Limits}
use Rattle.types.specs.declared.Row.{Row}
use Rattle.labels.specs.Labels.{Label}
use Rattle.labels.specs.Neighbours.{Neighbour, held, difference}
use Rattle.tables.specs.Words.{row_at, label_at, entry_at}
use Rattle.words.specs.Parts.{LabelInside}
use Rattle.gaps.specs.Windows.{is_before, below_in, above_in}
use Rattle.gaps.proofs.PartLaws.{label_inside}
use Rattle.gaps.specs.Gapped.{wrong, parted, gap_of, gaps_of, gaps_in, both_when, fields_fit, fields_fine}
use Rattle.gaps.specs.declared.Gaps.{Gaps}
use Rattle.nodechecks.specs.Nodes.{node_fine, used_row, fine_gaps, NodeFits}
use Rattle.nodechecks.proofs.RowLaws.{used_short}

-- the fields of a label, from the tests of the order with both its neighbours
fields_of_tests : (place side : ℕ) (a b : Bool) (p q : ℕ)
    → fields_fine place side (gaps_of (cond a (parted p) wrong) (cond b (parted q) wrong))
    ≡ both_when (a && (b && fields_fit place side p q)) p q
unfolding fields_fine
fields_of_tests place side true true p q = refl
fields_of_tests place side true false p q = refl
fields_of_tests place side false b p q = refl

-- a slot in use, whose fields decide
fields_decide : (limits : Limits) (table store : List ℕ) (k : ℕ) (p s : Neighbour)
    → used_row limits store k (row_at table k) ≡ true
    → fields_fine (row_at table k).place (row_at table k).side
    (gaps_of (gap_of p (held (entry_at limits table store k).label))
    (gap_of (held (entry_at limits table store k).label) s))
    ≡ both_when (node_fine limits table store k p s) (difference p (held (entry_at limits table store k).label))
    (difference (held (entry_at limits table store k).label) s)
unfolding node_fine used_row gap_of fields_fit
fields_decide limits table store k p s e =
    let x = held (entry_at limits table store k).label in
    rw e (fields_of_tests (row_at table k).place (row_at table k).side (is_before p x) (is_before x s)
    (difference p x) (difference x s))

module _ (limits : Limits) (table store : List ℕ) (k : ℕ) (row : Row) (read : row ≡ row_at table k)
    (t : Bool) (used : t ≡ used_row limits store k row) where
  -- the words or bytes of the slot are wrong
  pub node_unused : (below above : ℕ) → t ≡ false → None ≡ fine_gaps limits table store k below above
  unfolding fine_gaps node_fine used_row
  node_unused below above f = rw (sym (rw read at used) ∙ f)

  -- they are right, and the label lies in its part of the store
  pub node_used : (below above apart : ℕ) → NodeFits limits table store k row below above apart → t ≡ true
      → LabelInside limits store k row.len
  node_used below above apart fits e =
      label_inside limits store k row.len (record {
        low = fits.low;
        high = fits.high;
        within = used_short limits store k row (sym used ∙ e);
        whole = fits.between.sizes.bytes;
      })

  -- they are right, and the fields decide
  pub node_placed : (below above : ℕ) (x : Label) (r : Option Gaps) → t ≡ true → x ≡ label_at limits store k row.len
      → r ≡ fields_fine row.place row.side (gaps_in limits table store below x above)
      → r ≡ fine_gaps limits table store k below above
  unfolding fine_gaps
  node_placed below above x r e label found =
      found
      ∙ rw (label, read) (fields_decide limits table store k (below_in limits table store below)
      (above_in limits table store above) (sym (rw read at used) ∙ e))
