-- A sound table and store hold a valid plain tree, written out.
-- holds: so it is for the state that is read from them.
use mathlib.Core.List.{List, [], ◌++◌}
use mathlib.Core.Path.{◌≡◌, sym, ◌∙◌}
use mathlib.Core.Bool.{true, false≢true}
use Prim.Native.Nat.{ℕ, ◌≤◌, ◌<◌}
use native.Mathlib.Decide.{dec_le}
use native.Mathlib.Omega.{arith}
use lib.ListN.{length}
use Rattle.types.specs.declared.Limits.{Limits}
use Rattle.types.specs.Sizes.{table_length, store_length}
use Rattle.labels.specs.Neighbours.{none_below, none_above}
use Rattle.trees.specs.Trees.{Tree, slots}
use Rattle.trees.specs.Plain.{State}
use Rattle.trees.specs.Valid.{Valid, occurrences}
use Rattle.trees.proofs.Counts.{occurrences_append, exactly_of_test}
use Rattle.tables.specs.Words.{root_link, first_free, high_mark, row_at, part_at}
use Rattle.tables.specs.Written.{Memory, slot_row, slot_label, chain_row, written_table, written_store}
use Rattle.tables.specs.Sound.{Reading, Chain, sound_reading, sound, state_read, state_of}
use Rattle.tables.specs.Claims.{Sound, Holds}
use Rattle.tables.proofs.Represents.{Represents}
use Rattle.written.proofs.Chunks.{padded}
use Rattle.written.proofs.Rows.{length_of_written_table, root_of_written, count_of_written, free_of_written}
use Rattle.written.proofs.Rows.{mark_of_written, row_of_written, tables_extend}
use Rattle.written.proofs.Parts.{length_of_written_store, part_of_written, stores_extend}
use Rattle.tables.proofs.Reading.{Stands, Follows, TreeRead, no_tree, a_tree, ChainRead, no_chain, a_chain}
use Rattle.tables.proofs.Reading.{tree_read, chain_read, link_of_standing, link_of_following}
use Rattle.tables.proofs.Clauses.{SoundParts, parts_of_test}
use Rattle.sounds.proofs.Zeros.{zeros_are_padding}
use Rattle.sounds.proofs.Held.{length_of_part, represents_read}
use Rattle.sounds.proofs.SlotRows.{tree_row_read, chain_row_read, zero_row_above}
use Rattle.sounds.proofs.SlotParts.{tree_part_read, chain_part_read, zero_part_above}
use Rattle.sounds.proofs.SlotParts.{fitting_read, charges_read}

module _ (limits : Limits) (table store : List ℕ) (words : length table ≡ table_length limits)
    (bytes : length store ≡ store_length limits) (t : Tree) (freed : List ℕ)
    (stands : Stands limits table store t (root_link table)) (follows : Follows limits table freed (first_free table))
    (parts : SoundParts limits table store t freed) where
  -- what was read
  abbrev state : State
  state = record { tree = t; freed = freed; high = high_mark table }

  represents : Represents limits table store none_below none_above t
  represents = represents_read bytes none_below none_above stands parts.used parts.balances parts.prefixes

  -- A slot that is neither in the tree nor freed is above the high mark.
  neither_above : (k : ℕ) → 1 ≤ k → occurrences k (slots t) ≡ 0 → occurrences k freed ≡ 0 → high_mark table < k
  neither_above k low not_held not_freed = by_test (dec_le k (high_mark table))
    where
      by_test : Dec (k ≤ high_mark table) → high_mark table < k
      by_test (yes inside) =
          absurd (omega (
            arith,
            occurrences_append k (slots t) freed,
            (exactly_of_test (high_mark table) (slots t ++ freed) parts.allotted).once k low inside,
          ))
      by_test (no above) = omega arith

  -- Each row is the one that the state writes.
  row_read : (k : ℕ) → 1 ≤ k → slot_row state k ≡ row_at table k
  row_read k low =
      let above = zero_row_above table (high_mark table) k in
      tree_row_read limits table store k none_below none_above t (chain_row freed k) represents
      (λ not_held. chain_row_read limits table store k follows parts.free
      (λ not_freed. above (neither_above k low not_held not_freed) parts.words_above))

  -- Each part is the one that the state writes.
  part_read : (k : ℕ) → 1 ≤ k → k ≤ limits.slots → part_at limits store k ≡ padded limits.width (slot_label state k)
  part_read k low up =
      let long = length_of_part limits store bytes k low up in
      let padding = zeros_are_padding limits.width (part_at limits store k) long in
      let above = zero_part_above limits store (high_mark table) k in
      tree_part_read limits table store bytes k [] stands parts.used
      (λ not_held. padding (chain_part_read limits table store k freed parts.free
      (λ not_freed. above (neither_above k low not_held not_freed) parts.bytes_above)))

  table_read : table ≡ written_table limits state
  table_read =
      tables_extend limits table (written_table limits state) words (length_of_written_table limits state)
      (link_of_standing stands ∙ sym (root_of_written limits state))
      (sym parts.held ∙ sym (count_of_written limits state))
      (link_of_following follows ∙ sym (free_of_written limits state))
      (sym (mark_of_written limits state))
      (λ k low up. sym (row_read k low) ∙ sym (row_of_written limits state k low up))

  store_read : store ≡ written_store limits state
  store_read =
      stores_extend limits store (written_store limits state) bytes (length_of_written_store limits state)
      (λ k low up. part_read k low up ∙ sym (part_of_written limits state k low up))

  state_valid : Valid limits.slots limits.width state
  state_valid = record {
    balanced = parts.balanced;
    ascending = parts.ascending;
    fitting = fitting_read limits table store none_below none_above t represents;
    charges_fit = charges_read limits table store stands parts.used;
    allotted = parts.allotted;
    within = parts.within;
  }

  -- A table and a store that pass the test hold what was read, written out.
  holds_read : Holds limits (record { table = table; store = store }) state
  holds_read = record { valid = state_valid; out = λ i. record { table = table_read i; store = store_read i } }

-- A sound table and store hold the state that is read from them, which is valid, written out.
pub holds : (limits : Limits) (m : Memory) → Sound limits m → Holds limits m (state_of limits m.table m.store)
unfolding sound state_of
holds limits m sound =
    by_reading (tree_read limits m.table m.store limits.depth (root_link m.table))
    (chain_read limits m.table limits.slots (first_free m.table)) sound.so
  where
    by_reading : {tree : Reading} {free : Chain} → TreeRead limits m.table m.store (root_link m.table) tree
        → ChainRead limits m.table (first_free m.table) free
        → sound_reading limits m.table m.store tree free ≡ true
        → Holds limits m (state_read tree free (high_mark m.table))
    by_reading no_tree free passed = absurd (false≢true passed)
    by_reading (a_tree stands) no_chain passed = absurd (false≢true passed)
    by_reading (a_tree {t} stands) (a_chain {list} follows) passed =
        let parts = parts_of_test passed in
        holds_read limits m.table m.store sound.words sound.bytes t list stands follows parts
