-- The table that insert leaves is the plain tree's next state written out.
-- `once_with_new`: the slots of the tree and the new one, each once.
-- `insert_table`: the table is the next state written out.
use mathlib.Core.List.{List, ◌∷◌}
use mathlib.Core.Path.{◌≡◌, sym, ap, subst, ◌∙◌}
use mathlib.Core.Bool.{Bool, true, false}
use Prim.Native.Nat.{ℕ, ◌≤◌, ◌<◌}
use native.Mathlib.Decide.{dec_le}
use native.Mathlib.Omega.{arith}
use lib.Dec.{ltb, eqb}
use lib.ListN.{length, get_or}
use borrow.Author.Tests.{ne_eqb}
use Rattle.types.specs.declared.Limits.{Limits}
use Rattle.types.specs.Sizes.{table_length}
use Rattle.labels.specs.Labels.{Label}
use Rattle.labels.specs.Neighbours.{none_below, none_above}
use Rattle.labels.proofs.Order.{none_below_held, held_none_above}
use Rattle.labels.proofs.Difference.{below_is_before}
use Rattle.trees.specs.Trees.{Entry, Tree, slots, size}
use Rattle.trees.specs.Heights.{height}
use Rattle.trees.specs.Searches.{absent, full_search}
use Rattle.trees.specs.Updates.{inserted}
use Rattle.trees.specs.Plain.{State}
use Rattle.trees.specs.Valid.{Valid, one_if, occurrences}
use Rattle.trees.proofs.Heights.{kept_of_balanced}
use Rattle.trees.proofs.Sorted.{between_of_ascends}
use Rattle.trees.proofs.SlotCounts.{occurrences_of_inserted, size_of_inserted}
use Rattle.tables.specs.Words.{root_link, row_at}
use Rattle.tables.specs.Written.{link_of, chain_row, written_table, written_store}
use Rattle.written.proofs.Rows.{root_of_written}
use Rattle.turns.specs.Turns.{Turned}
use Rattle.paths.specs.Paths.{path_of, insert_along, rooted}
use Rattle.rotations.proofs.Rep.{Once, Refines}
use Rattle.rotations.proofs.Along.{sides_to}
use Rattle.rotations.proofs.Inserts.{insert_refines}
use Rattle.traces.specs.declared.Trace.{Trace}
use Rattle.slots.specs.Slots.{slot_taken}
use Rattle.insertions.specs.Insertions.{with_leaf, inserted_table}
use Rattle.rewritten.proofs.Traces.{Way}
use Rattle.rewritten.proofs.Roots.{Placed, header_of_rooted, root_of_rooted, placed_rooted}
use Rattle.rewritten.proofs.Roots.{link_apart, rows_of_rep}
use Rattle.rewritten.proofs.FromRows.{once_of_valid, table_from_rows}
use Rattle.rewritten.proofs.Fresh.{freed_after, FreshSlot, unlike_slots, leaf_node, grown, fresh_slot}
use Rattle.rewritten.proofs.LeafSet.{Leafed, leaf_set}

-- One slot counts at most once.
one_at_most : (b : Bool) → one_if b ≤ 1
one_at_most true = omega arith
one_at_most false = omega arith

-- The slots of the tree and the new one, each once.
pub once_with_new : {last k : ℕ} {t : Tree} → FreshSlot last t k → Once (slots t) → Once (k ∷ slots t)
once_with_new {k = k} {t = t} fresh once j = go (dec_le 1 (occurrences j (slots t)))
  where
    go : Dec (1 ≤ occurrences j (slots t)) → occurrences j (k ∷ slots t) ≤ 1
    go (yes there) = omega (arith, once j, ap one_if (ne_eqb j k (unlike_slots fresh j there)))
    go (no out) = omega (arith, one_at_most (eqb j k))

module _ (limits : Limits) (s : State) (x : Label) (value : ℕ) (trace : Trace)
    (valid : Valid limits.slots limits.width s) (none : (full_search x s.tree).result ≡ absent)
    (room : size s.tree < limits.slots)
    (way : Way limits (written_table limits s) (written_store limits s) x s.tree trace) where
  abbrev t : Tree
  t = s.tree

  abbrev new : Entry
  new = leaf_node limits s x value

  abbrev k : ℕ
  k = slot_taken (written_table limits s)

  abbrev ready : List ℕ
  ready = with_leaf (written_table limits s) x value trace

  abbrev turned : Turned
  turned = insert_along trace.length trace.path ready (root_link (written_table limits s)) k

  leafed : Leafed limits s x value ready
  leafed = leaf_set limits s x value trace valid none room way

  once : Once (k ∷ slots t)
  once = once_with_new (fresh_slot limits s valid room) (once_of_valid limits s valid)

  -- The trace's path is the search's.
  along_search : (table : List ℕ)
      → insert_along trace.length trace.path table (root_link (written_table limits s)) k
      ≡ insert_along (length (sides_to x t)) (path_of (sides_to x t)) table (link_of t) k
  along_search table = rw (way.sides, way.path, root_of_written limits s)

  -- Along it the words are updated as the tree is.
  refined : Refines ready none_below none_above (inserted new t) (ltb (height t) (height (inserted new t)))
      (k ∷ slots t) turned
  refined =
      rw (along_search ready)
      (insert_refines t none_below none_above ready new (kept_of_balanced t valid.balanced)
      (between_of_ascends t valid.ascending) (below_is_before (none_below_held x))
      (below_is_before (held_none_above x)) none once leafed.rep leafed.leaf)

  long : length turned.table ≡ table_length limits
  long = refined.frame.words ∙ leafed.words

  some : 1 ≤ length turned.table
  some = omega (arith, long)

  placed : Placed (link_of (inserted new t)) 1 turned.table (rooted turned)
  placed =
      subst (λ (root : ℕ). Placed root 1 turned.table (rooted turned)) refined.link (placed_rooted turned some)

  -- Words 1, 2 and 3 stay.
  header : (i : ℕ) → 1 ≤ i → i < 4 → get_or (rooted turned) i 0 ≡ get_or ready i 0
  header i low small = header_of_rooted turned i low small ∙ refined.frame.header i small

  once_after : Once (slots (inserted new t))
  once_after j = omega (arith, once j, occurrences_of_inserted new t none j)

  -- The rows of the slots that are in no node stay.
  row_outside : (j : ℕ) → 1 ≤ j → j ≤ limits.slots → occurrences j (slots (inserted new t)) ≡ 0
      → row_at (rooted turned) j ≡ chain_row (freed_after s.freed) j
  row_outside j low up out =
      let counts = occurrences_of_inserted new t none j in
      placed.others j low (link_apart (inserted new t) j low out)
      ∙ refined.frame.rows j low (omega arith) ∙ leafed.outside j low up (omega arith)

  -- The table is the next state written out.
  pub insert_table : inserted_table (written_table limits s) x value trace ≡ written_table limits (grown limits s x value)
  unfolding inserted_table
  insert_table =
      table_from_rows limits (rooted turned) (grown limits s x value) (record {
        long = placed.words ∙ long;
        root = root_of_rooted turned some ∙ refined.link;
        count = header 1 (omega arith) (omega arith) ∙ leafed.count ∙ sym (size_of_inserted new t none);
        free = header 2 (omega arith) (omega arith) ∙ leafed.free;
        mark = header 3 (omega arith) (omega arith) ∙ leafed.mark;
        tree_rows = rows_of_rep turned.table (rooted turned) (inserted new t) placed once_after refined.rep;
        other_rows = row_outside;
      })
