-- Insert in the words and bytes leaves the plain tree's next state written out.
-- `insert_store`: the store is the next state written out. `insert_written`: so is the memory.
use mathlib.Core.List.{List, [], ◌∷◌, ◌++◌}
use mathlib.Core.Path.{◌≡◌, ap, ◌∙◌}
use mathlib.Core.Logic.{◌≢◌}
use Prim.Native.Nat.{ℕ, ◌≤◌, ◌<◌}
use native.Mathlib.Omega.{arith}
use lib.ListN.{length, drop}
use lib.Seq.{length-sets}
use Rattle.types.specs.declared.Limits.{Limits}
use Rattle.types.specs.Sizes.{store_length}
use Rattle.labels.specs.Labels.{Label}
use Rattle.trees.specs.Trees.{Entry, Tree, entries, slots, size}
use Rattle.trees.specs.Heights.{Deepest}
use Rattle.trees.specs.Searches.{absent, full_search}
use Rattle.trees.specs.Updates.{inserted}
use Rattle.trees.specs.Plain.{State, new_entry}
use Rattle.trees.specs.Valid.{Valid, occurrences}
use Rattle.trees.proofs.SetIn.{SetIn, inserted_sets_in}
use Rattle.trees.proofs.SlotCounts.{occurrences_of_inserted}
use Rattle.tables.specs.Words.{part_start}
use Rattle.tables.specs.Written.{written_table, written_store, written}
use Rattle.rotations.proofs.Frames.{other_slot}
use Rattle.traces.specs.declared.Trace.{Trace}
use Rattle.slots.specs.Slots.{slot_taken, with_label}
use Rattle.insertions.specs.Insertions.{inserted_memory}
use Rattle.rewritten.proofs.Traces.{Way}
use Rattle.rewritten.proofs.FromRows.{slot_of_valid}
use Rattle.rewritten.proofs.FromParts.{Each, each_append, each_split, each_map, PartIs, WrittenParts}
use Rattle.rewritten.proofs.FromParts.{store_from_parts, parts_of_written}
use Rattle.rewritten.proofs.Stored.{part_stored, part_past_stored, padded_from}
use Rattle.rewritten.proofs.Fresh.{FreshSlot, unlike_slots, leaf_node, grown, fresh_slot, state_of_new}
use Rattle.rewritten.proofs.InsertTable.{insert_table}

-- A fact of each node of a list holds with a node set in that has it.
each_set_in : (P : ℕ → Label → Type 0) {new : Entry} {without with : List Entry} → SetIn new without with
    → P new.slot new.label → Each P without → Each P with
each_set_in P {new} set_in own each =
    let parts = each_split P set_in.first set_in.last (rw set_in.lacking at each) in
    rw set_in.having (each_append P set_in.first (new ∷ set_in.last) parts.0 (own, parts.1))

module _ (limits : Limits) (s : State) (x : Label) (value : ℕ) (valid : Valid limits.slots limits.width s)
    (short : length x ≤ limits.width) (none : (full_search x s.tree).result ≡ absent)
    (room : size s.tree < limits.slots) where
  abbrev store : List ℕ
  store = written_store limits s

  abbrev t : Tree
  t = s.tree

  abbrev new : Entry
  new = leaf_node limits s x value

  abbrev k : ℕ
  k = slot_taken (written_table limits s)

  abbrev after : List ℕ
  after = with_label limits store k x

  fresh : FreshSlot limits.slots t k
  fresh = fresh_slot limits s valid room

  before : WrittenParts limits store s
  before = parts_of_written limits s valid

  long : length after ≡ store_length limits
  unfolding with_label
  long = length-sets store (part_start limits k) x ∙ before.long

  -- The new label's part.
  own_part : PartIs limits after k x
  unfolding with_label
  own_part =
      part_stored limits store before.long k fresh.low fresh.up x short
      ∙ ap (λ (part : List ℕ). x ++ drop (length x) part)
      (before.other_parts k fresh.low fresh.up fresh.unused)
      ∙ padded_from limits.width x short

  -- The parts of the other slots stay.
  other_part : (j : ℕ) (y : Label) → 1 ≤ j → j ≢ k → PartIs limits store j y → PartIs limits after j y
  unfolding with_label
  other_part j y low apart part =
      part_past_stored limits store before.long k fresh.low fresh.up x short j low apart ∙ part

  -- The store is the next state written out.
  pub insert_store : with_label limits (written_store limits s) (slot_taken (written_table limits s)) x
      ≡ written_store limits (grown limits s x value)
  insert_store =
      store_from_parts limits after (grown limits s x value) (record {
        long = long;
        tree_parts = each_set_in (PartIs limits after) (inserted_sets_in new t none) own_part
            (each_map (PartIs limits store) (PartIs limits after) (entries t) stays before.tree_parts);
        other_parts = λ j low up out. other_part j [] low (apart_outside j out)
            (before.other_parts j low up (omega (arith, occurrences_of_inserted new t none j)));
      })
    where
      apart_outside : (j : ℕ) → occurrences j (slots (inserted new t)) ≡ 0 → j ≢ k
      apart_outside j out = other_slot j k (omega (arith, occurrences_of_inserted new t none j))

      stays : (j : ℕ) (y : Label) → 1 ≤ occurrences j (slots t) → PartIs limits store j y → PartIs limits after j y
      stays j y there = other_part j y (slot_of_valid limits s valid j there).0 (unlike_slots fresh j there)

-- Insert leaves the plain tree's next state written out.
pub insert_written : (limits : Limits) (s : State) (x : Label) (value : ℕ) (trace : Trace)
    → Deepest limits.slots limits.depth → Valid limits.slots limits.width s
    → 1 ≤ length x → length x ≤ limits.width → (full_search x s.tree).result ≡ absent → size s.tree < limits.slots
    → Way limits (written_table limits s) (written_store limits s) x s.tree trace
    → inserted_memory limits (written_table limits s) (written_store limits s) x value trace
    ≡ written limits (new_entry x value s.tree s.freed s.high).state
unfolding inserted_memory
insert_written limits s x value trace deepest valid some short none room way =
    rw (state_of_new limits s valid x value)
    (λ i. record {
      table = insert_table limits s x value trace valid none room way i;
      store = insert_store limits s x value valid short none room i;
    })
