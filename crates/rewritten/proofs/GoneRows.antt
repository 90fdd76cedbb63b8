-- The table where a node was found and is taken out, and its slot freed.
-- written_rows: its words are those of the plain tree's next state.
use mathlib.Core.List.{List, ◌∷◌}
use mathlib.Core.Path.{◌≡◌, refl, ap, subst, ◌∙◌}
use Prim.Native.Nat.{ℕ, ◌-◌, ◌≤◌, ◌<◌}
use native.Mathlib.Decide.{ℕ_discrete}
use native.Mathlib.Omega.{arith}
use lib.ListN.{length, get_or}
use borrow.Author.Tests.{eq-eqb, ne_eqb}
use Rattle.types.specs.declared.Limits.{Limits}
use Rattle.labels.specs.Labels.{Label}
use Rattle.labels.specs.Neighbours.{none_below, none_above}
use Rattle.trees.specs.Trees.{Entry, Tree, slots}
use Rattle.trees.specs.Searches.{found, full_search}
use Rattle.trees.specs.Updates.{deleted}
use Rattle.trees.specs.Plain.{State}
use Rattle.trees.specs.Valid.{Valid, occurrences}
use Rattle.trees.proofs.SlotCounts.{size_of_deleted}
use Rattle.tables.specs.Words.{labels_held, row_at}
use Rattle.tables.specs.Written.{link_of, free_row, chain_row, written_table}
use Rattle.written.proofs.Rows.{length_of_written_table, count_of_written, free_of_written}
use Rattle.written.proofs.Rows.{mark_of_written, row_of_written}
use Rattle.written.proofs.Places.{row_elsewhere}
use Rattle.turns.specs.Turns.{Turned}
use Rattle.slots.specs.Slots.{after_freed, with_count}
use Rattle.paths.specs.Paths.{rooted}
use Rattle.rewritten.proofs.InRows.{RowsOf, rows_kept}
use Rattle.rewritten.proofs.Roots.{Placed, root_of_rooted, placed_rooted, header_of_rooted}
use Rattle.rewritten.proofs.Roots.{link_apart, rows_of_rep}
use Rattle.rewritten.proofs.FromRows.{WrittenRows}
use Rattle.rewritten.proofs.Freed.{FreedWords, freed_words}
use Rattle.rewritten.proofs.Gone.{after_gone, GoneSlot, gone_slot}
use Rattle.rewritten.proofs.TakenOut.{TurnedTo}

module _ (limits : Limits) (s : State) (x : Label) (e : Entry) (valid : Valid limits.slots limits.width s)
    (there : (full_search x s.tree).result ≡ found e) (out : Turned)
    (turned : TurnedTo s.tree (written_table limits s) (deleted x s.tree) out) where
  abbrev t : Tree
  t = deleted x s.tree

  abbrev table : List ℕ
  table = written_table limits s

  abbrev final : List ℕ
  final = with_count (after_freed (rooted out) e.slot) (labels_held table - 1)

  gone : GoneSlot limits.slots s.tree t e.slot
  gone = gone_slot limits s x e valid there

  long : length out.table ≡ length table
  long = turned.frame.words

  some : 1 ≤ length out.table
  some = omega (arith, length_of_written_table limits s, long)

  placed : Placed (link_of t) 1 out.table (rooted out)
  placed = subst (λ (root : ℕ). Placed root 1 out.table (rooted out)) turned.link (placed_rooted out some)

  words : FreedWords e.slot (labels_held table - 1) (rooted out) final
  words =
      freed_words e.slot (labels_held table - 1) (rooted out) (record {
        low = gone.low;
        high = omega (arith, gone.up, length_of_written_table limits s, long, placed.words);
      })

  -- The first words but the root link stay until the slot is freed.
  header : (i : ℕ) → 1 ≤ i → i < 4 → get_or (rooted out) i 0 ≡ get_or table i 0
  header i low small = header_of_rooted out i low small ∙ turned.frame.header i small

  -- The rows of the next tree's nodes.
  rows_after : RowsOf final none_below none_above t
  rows_after =
      rows_kept (rooted out) final words.words none_below none_above t
      (λ k low occurs. words.others k low (gone.apart k occurs))
      (rows_of_rep out.table (rooted out) t placed gone.once turned.rep)

  -- A slot that is in no node has the free chain's row.
  row_after : (k : ℕ) → 1 ≤ k → k ≤ limits.slots → occurrences k (slots t) ≡ 0 → Dec (k ≡ e.slot)
      → row_at final k ≡ chain_row (e.slot ∷ s.freed) k
  row_after k low up none (yes same) =
      rw (same, eq-eqb e.slot e.slot refl)
      (words.own ∙ ap free_row (header 2 (omega arith) (omega arith) ∙ free_of_written limits s))
  row_after k low up none (no apart) =
      let unused = gone.none_before k apart none in
      rw (ne_eqb k e.slot apart)
      (words.others k low apart ∙ placed.others k low (link_apart t k low none) ∙ turned.frame.rows k low unused
      ∙ row_of_written limits s k low up
      ∙ row_elsewhere k none_below none_above s.tree (chain_row s.freed k) unused)

  -- The words are those of the plain tree's next state.
  pub written_rows : WrittenRows limits
      (with_count (after_freed (rooted out) e.slot) (labels_held (written_table limits s) - 1)) (after_gone s x e)
  written_rows = record {
    long = words.words ∙ placed.words ∙ long ∙ length_of_written_table limits s;
    root = words.root ∙ root_of_rooted out some ∙ turned.link;
    count = words.counted ∙ omega (arith, count_of_written limits s, size_of_deleted x s.tree there);
    free = words.free;
    mark = words.mark ∙ header 3 (omega arith) (omega arith) ∙ mark_of_written limits s;
    tree_rows = rows_after;
    other_rows = λ k low up none. row_after k low up none (ℕ_discrete k e.slot);
  }
