-- The table with a new leaf in its slot, before the tree is turned.
-- `Leafed`: its words, the tree in its rows, and the leaf. `leaf_set`: so is the table that insert turns.
use mathlib.Core.List.{List, ◌∷◌}
use mathlib.Core.Path.{◌≡◌, ◌∙◌}
use mathlib.Core.Logic.{◌≢◌}
use Prim.Native.Nat.{ℕ, suc, ◌+◌, ◌≤◌, ◌<◌}
use native.Mathlib.Omega.{arith}
use lib.ListN.{length, get_or}
use Rattle.types.specs.declared.Limits.{Limits}
use Rattle.types.specs.declared.Row.{Row}
use Rattle.types.specs.Sizes.{table_length}
use Rattle.labels.specs.Labels.{Label}
use Rattle.labels.specs.Neighbours.{none_below, none_above}
use Rattle.trees.specs.Trees.{Tree, empty, slots, size}
use Rattle.trees.specs.Searches.{absent, full_search}
use Rattle.trees.specs.Plain.{State}
use Rattle.trees.specs.Valid.{Valid, occurrences}
use Rattle.tables.specs.Words.{labels_held, first_free, high_mark, row_at}
use Rattle.tables.specs.Written.{link_of, first_of, chain_row, written_table, written_store}
use Rattle.words.specs.Rows.{put_row, HasRow}
use Rattle.words.proofs.Laws.{row_put_same, row_put_other, length_put_row}
use Rattle.written.proofs.Rows.{length_of_written_table, row_of_written}
use Rattle.written.proofs.Places.{row_elsewhere}
use Rattle.steps.proofs.Window.{Sought}
use Rattle.rotations.proofs.Rep.{Stands, Rep}
use Rattle.rotations.proofs.Frames.{other_slot}
use Rattle.rotations.proofs.Stays.{frame_of_put}
use Rattle.rotations.proofs.Along.{low_to, high_to}
use Rattle.traces.specs.declared.Trace.{Trace}
use Rattle.slots.specs.Slots.{slot_taken, after_taken, with_count, with_root_place}
use Rattle.insertions.specs.Insertions.{leaf_fields, leaf_row, with_leaf}
use Rattle.rewritten.proofs.Traces.{Ends, Way}
use Rattle.rewritten.proofs.InRows.{RowsOf, rows_kept}
use Rattle.rewritten.proofs.Roots.{Placed, placed_root, header_of_root, link_apart, rep_of_rows}
use Rattle.rewritten.proofs.FromRows.{rows_of_written, once_of_valid}
use Rattle.rewritten.proofs.Fresh.{freed_after, mark_after, FreshSlot, unlike_slots, chain_after}
use Rattle.rewritten.proofs.Fresh.{leaf_node, slot_of_table, fresh_slot}
use Rattle.rewritten.proofs.Taken.{TakenWords, taken_words}
use Rattle.rewritten.proofs.Leaves.{leaf_row_lem}

-- the next state's words but for the root link, the old tree in its rows as turned, and the leaf at its search's end
pub record Leafed (limits : Limits) (s : State) (x : Label) (value : ℕ) (table : List ℕ) : Type 0 where
  pub words : length table ≡ table_length limits
  pub count : labels_held table ≡ suc (size s.tree)
  pub free : first_free table ≡ first_of (freed_after s.freed)
  pub mark : high_mark table ≡ mark_after s.freed s.high
  pub rep : Rep table none_below none_above s.tree
  pub leaf : Stands table (low_to none_below x s.tree) empty (leaf_node limits s x value) empty
      (high_to none_above x s.tree)
  pub outside : (k : ℕ) → 1 ≤ k → k ≤ limits.slots
      → occurrences k (slot_taken (written_table limits s) ∷ slots s.tree) ≡ 0
      → row_at table k ≡ chain_row (freed_after s.freed) k

module _ (limits : Limits) (s : State) (x : Label) (value : ℕ) (trace : Trace)
    (valid : Valid limits.slots limits.width s) (none : (full_search x s.tree).result ≡ absent)
    (room : size s.tree < limits.slots)
    (way : Way limits (written_table limits s) (written_store limits s) x s.tree trace) where
  abbrev table : List ℕ
  table = written_table limits s

  abbrev t : Tree
  t = s.tree

  abbrev k : ℕ
  k = slot_taken table

  -- the slot taken and the label counted
  abbrev counted : List ℕ
  counted = with_count (after_taken table) (labels_held table + 1)

  abbrev row : Row
  row = leaf_row (leaf_fields trace) (length x) value

  -- the leaf in its slot
  abbrev stored : List ℕ
  stored = put_row counted k row

  fresh : FreshSlot limits.slots t k
  fresh = fresh_slot limits s valid room

  taken : TakenWords t s.freed s.high table counted
  taken = taken_words limits s valid

  has_slot : HasRow counted k
  has_slot = record {
    low = fresh.low;
    high = rw (taken.words, length_of_written_table limits s) (omega (arith, fresh.up));
  }

  -- The first four words stay when the leaf is stored.
  header : (i : ℕ) → i < 4 → get_or stored i 0 ≡ get_or counted i 0
  header i small = (frame_of_put counted k row fresh.low).header i small

  -- The tree stands in the table as written out, the leaf set in.
  rows_stored : RowsOf stored none_below none_above t
  rows_stored =
      rows_kept table stored (length_put_row counted k row ∙ taken.words) none_below none_above t
      (λ j low there. row_put_other counted k j row fresh.low low (unlike_slots fresh j there) ∙ taken.rows j)
      (rows_of_written limits s valid)

  placed : Placed (link_of t) 0 stored (with_root_place stored 0)
  placed = rw (header 0 (omega arith), taken.root) at (placed_root stored 0)

  sought : Sought (low_to none_below x t) x (high_to none_above x t) trace.p trace.s
  sought = let ends : Ends x t absent trace = rw none at way.ends in ends.1

  -- The leaf stands in its slot.
  leaf_stands : Stands (with_root_place stored 0) (low_to none_below x t) empty (leaf_node limits s x value) empty
      (high_to none_above x t)
  leaf_stands = record {
    has = record { low = fresh.low; high = rw (placed.words, length_put_row) has_slot.high };
    row =
        placed.others k fresh.low (link_apart t k fresh.low fresh.unused)
        ∙ row_put_same counted k row has_slot
        ∙ leaf_row_lem limits table (written_store limits s) x value (slot_taken table) trace _ _
        way.below way.above sought;
  }

  -- The rows of the slots that are in no node are the next state's.
  row_outside : (j : ℕ) → 1 ≤ j → j ≤ limits.slots → occurrences j (k ∷ slots t) ≡ 0
      → row_at (with_root_place stored 0) j ≡ chain_row (freed_after s.freed) j
  row_outside j low up out =
      let apart : j ≢ k = other_slot j k (omega arith) in
      placed.others j low (link_apart t j low (omega arith))
      ∙ row_put_other counted k j row fresh.low low apart
      ∙ taken.rows j
      ∙ row_of_written limits s j low up
      ∙ row_elsewhere j none_below none_above t (chain_row s.freed j) (omega arith)
      ∙ chain_after s.freed s.high j (rw (slot_of_table limits s valid) at apart)

  -- So is the table that insert turns.
  pub leaf_set : Leafed limits s x value (with_leaf (written_table limits s) x value trace)
  unfolding with_leaf
  leaf_set = record {
    words = placed.words ∙ length_put_row counted k row ∙ taken.words ∙ length_of_written_table limits s;
    count = header_of_root stored 0 1 (omega arith) ∙ header 1 (omega arith) ∙ taken.count;
    free = header_of_root stored 0 2 (omega arith) ∙ header 2 (omega arith) ∙ taken.free;
    mark = header_of_root stored 0 3 (omega arith) ∙ header 3 (omega arith) ∙ taken.mark;
    rep = rep_of_rows stored (with_root_place stored 0) t placed (once_of_valid limits s valid) rows_stored;
    leaf = leaf_stands;
    outside = row_outside;
  }
