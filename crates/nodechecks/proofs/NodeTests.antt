-- What the test of a node says.
-- `node_passed`: a node that passes its test is used, in order, and has its true place and side.
use Rattle.std.proofs.Common.{◌≡◌, ℕ, true, eqb, List}
use Rattle.types.specs.declared.Limits.{Limits}
use Rattle.labels.specs.Labels.{Label}
use Rattle.labels.specs.Neighbours.{Neighbour, held}
use Rattle.labels.proofs.Difference.{Before}
use Rattle.trees.proofs.Views.{both_true}
use Rattle.tables.specs.Words.{row_at, entry_at}
use Rattle.tables.specs.Prefix.{place_within, side_within}
use Rattle.tables.specs.Sound.{used_slot}
use Rattle.gaps.proofs.OrderTests.{before_of_test}
use Rattle.nodechecks.specs.Nodes.{node_fine}

-- slot k, with the label x, is used, in order between p and s, and has its true place and side
pub record NodeFine (limits : Limits) (table store : List ℕ) (k : ℕ) (x : Label) (p s : Neighbour) : Type 0 where
  pub used : used_slot limits table store k ≡ true
  pub above : Before p (held x)
  pub below : Before (held x) s
  pub place : eqb (row_at table k).place (place_within p x s) ≡ true
  pub side : eqb (row_at table k).side (side_within p x s) ≡ true

module _ (limits : Limits) (table store : List ℕ) (k : ℕ) (p s : Neighbour) where
  -- A node that passes its test is fine.
  pub node_passed : node_fine limits table store k p s ≡ true
      → NodeFine limits table store k (entry_at limits table store k).label p s
  unfolding node_fine
  node_passed passed =
      let x = (entry_at limits table store k).label in
      let of_used = (both_true _ _).0 passed in
      let of_above = (both_true _ _).0 of_used.1 in
      let of_below = (both_true _ _).0 of_above.1 in
      let of_place = (both_true _ _).0 of_below.1 in
      record {
        used = of_used.0;
        above = before_of_test p (held x) of_above.0;
        below = before_of_test (held x) s of_below.0;
        place = of_place.0;
        side = of_place.1;
      }
