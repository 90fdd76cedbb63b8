-- A valid state written out, with the root's place counted as 0.
-- labels_of_written: the labels stand in the written-out store.
-- rep_of_written: the tree stands as turned. renews_of_root: no label's length is touched.
use mathlib.Core.List.{List, [], ◌∷◌}
use mathlib.Core.Path.{◌≡◌}
use Prim.Native.Nat.{ℕ, ◌≤◌}
use native.Mathlib.Decide.{ℕ_discrete}
use native.Mathlib.Omega.{arith}
use Rattle.types.specs.declared.Limits.{Limits}
use Rattle.labels.specs.Labels.{Label}
use Rattle.labels.specs.Neighbours.{Neighbour, none_below, held, none_above}
use Rattle.labels.proofs.Clashes.{clash}
use Rattle.trees.specs.Trees.{Entry, Tree, empty, node, slots}
use Rattle.trees.specs.Searches.{found, full_search}
use Rattle.trees.specs.Plain.{State}
use Rattle.trees.specs.Valid.{Valid}
use Rattle.tables.specs.Words.{row_at}
use Rattle.tables.specs.Written.{link_of, written_table, written_store}
use Rattle.tables.proofs.Represents.{Represents}
use Rattle.written.proofs.Rows.{root_of_written}
use Rattle.written.proofs.Slots.{written_represents}
use Rattle.rotations.proofs.Rep.{Rep}
use Rattle.rotations.proofs.Frames.{other_slot}
use Rattle.slots.specs.Slots.{with_root_place}
use Rattle.rewritten.proofs.InRows.{RowsOf}
use Rattle.rewritten.proofs.Roots.{Placed, placed_root, header_of_root, rep_of_rows}
use Rattle.rewritten.proofs.FromRows.{rows_of_written, once_of_valid}
use Rattle.rewritten.proofs.Naming.{LabelsStored}
use Rattle.rewritten.proofs.Renewing.{Renews, root_within, renews_wider}

-- The labels of a represented tree stand in the store.
labels_of_represents : (limits : Limits) (table store : List ℕ) (p q : Neighbour) (t : Tree)
    → Represents limits table store p q t → LabelsStored limits store t
labels_of_represents limits table store p q empty stands = tt
labels_of_represents limits table store p q (node l e r) (own, on_left_lem, on_right_lem) = (
  own.label,
  labels_of_represents limits table store p (held e.label) l on_left_lem,
  labels_of_represents limits table store (held e.label) q r on_right_lem,
)

-- Where a root stands, another place of it touches no label's length.
renews_of_placed : (before : List ℕ) (t : Tree) (x : Label) {e : Entry} (p q : Neighbour)
    → Placed (link_of t) 0 before (with_root_place before 0) → RowsOf before p q t → (full_search x t).result ≡ found e
    → Renews (slots t) before (with_root_place before 0)
renews_of_placed before empty x p q placed rows there = clash cc
renews_of_placed before (node l e r) x p q placed rows there =
    renews_wider (root_within l e r) one
  where
    by_slot : (k : ℕ) → 1 ≤ k → Dec (k ≡ e.slot) → (row_at (with_root_place before 0) k).len ≡ (row_at before k).len
    by_slot k low (yes same) = rw same (λ i. (placed.root_row rows.0.has i).len)
    by_slot k low (no apart) = λ i. (placed.others k low apart i).len

    one : Renews (e.slot ∷ []) before (with_root_place before 0)
    one = record {
      frame = record {
        words = placed.words;
        header = header_of_root before 0;
        rows = λ k low out. placed.others k low (other_slot k e.slot (omega arith));
      };
      lens = λ k low. by_slot k low (ℕ_discrete k e.slot);
    }

module _ (limits : Limits) (s : State) (valid : Valid limits.slots limits.width s) where
  -- The labels stand in the written-out store.
  pub labels_of_written : LabelsStored limits (written_store limits s) s.tree
  labels_of_written =
      labels_of_represents limits (written_table limits s) (written_store limits s) none_below none_above s.tree
      (written_represents limits s valid)

  placed_of_written : Placed (link_of s.tree) 0 (written_table limits s) (with_root_place (written_table limits s) 0)
  placed_of_written = rw (root_of_written limits s) at (placed_root (written_table limits s) 0)

  -- The tree stands as turned.
  pub rep_of_written : Rep (with_root_place (written_table limits s) 0) none_below none_above s.tree
  rep_of_written =
      rep_of_rows (written_table limits s) (with_root_place (written_table limits s) 0) s.tree placed_of_written
      (once_of_valid limits s valid) (rows_of_written limits s valid)

  -- No label's length is touched.
  pub renews_of_root : (x : Label) {e : Entry} → (full_search x s.tree).result ≡ found e
      → Renews (slots s.tree) (written_table limits s) (with_root_place (written_table limits s) 0)
  renews_of_root x there =
      renews_of_placed (written_table limits s) s.tree x none_below none_above placed_of_written
      (rows_of_written limits s valid) there
