-- A table is a state written out where its first words and its rows are the state's.
-- `tree_row_of_rows`: a slot's row is what the tree writes, where the other slots' rows are what is written otherwise.
-- `WrittenRows`: the state's words in a table. `table_from_rows`: such a table is the state written out.
-- `rows_of_written`: the tree of a valid state stands in its table.
-- `once_of_valid`, `slot_of_valid`: no slot is in two of its nodes, and each is one of 1 to the high mark.
use mathlib.Core.List.{List}
use mathlib.Core.Path.{◌≡◌, refl, sym, ap, ◌∙◌}
use mathlib.Core.Bool.{Bool, true, false, cond}
use Prim.Native.Nat.{ℕ, ◌≤◌}
use native.Mathlib.Omega.{arith}
use lib.Dec.{eqb}
use lib.ListN.{length}
use borrow.Author.Tests.{eqb-true}
use Rattle.types.specs.declared.Limits.{Limits}
use Rattle.types.specs.declared.Row.{Row}
use Rattle.types.specs.Sizes.{table_length}
use Rattle.labels.specs.Neighbours.{Neighbour, none_below, held, none_above}
use Rattle.trees.specs.Trees.{Tree, empty, node, slots, size}
use Rattle.trees.specs.Plain.{State}
use Rattle.trees.specs.Valid.{Valid, one_if, occurrences}
use Rattle.trees.proofs.Counts.{occurrences_append, occurs_inside, occurs_in_one_part}
use Rattle.trees.proofs.SlotCounts.{occurrences_of_node}
use Rattle.trees.proofs.ValidSteps.{exactly_of_valid}
use Rattle.tables.specs.Words.{root_link, labels_held, first_free, high_mark, row_at}
use Rattle.tables.specs.Written.{link_of, first_of, node_row, tree_row, chain_row, written_table, written_store}
use Rattle.written.proofs.Rows.{length_of_written_table, root_of_written, count_of_written, free_of_written}
use Rattle.written.proofs.Rows.{mark_of_written, row_of_written, tables_extend}
use Rattle.written.proofs.Slots.{written_represents}
use Rattle.rotations.proofs.Rep.{Once}
use Rattle.rewritten.proofs.InRows.{RowsOf, rows_of_represents}

-- A slot's row is what the tree writes, where the rows of the other slots are what is written otherwise.
pub tree_row_of_rows : (table : List ℕ) (k : ℕ) (p q : Neighbour) (t : Tree) (otherwise : Row) → RowsOf table p q t
    → (occurrences k (slots t) ≡ 0 → row_at table k ≡ otherwise) → row_at table k ≡ tree_row p q t k otherwise
tree_row_of_rows table k p q empty otherwise rows elsewhere = elsewhere refl
tree_row_of_rows table k p q (node l e r) otherwise (own, on_left_lem, on_right_lem) elsewhere =
    by_test (eqb k e.slot) refl (tree_row_of_rows table k x q r otherwise on_right_lem)
    (tree_row_of_rows table k p x l in_r on_left_lem)
  where
    x : Neighbour
    x = held e.label

    in_r : Row
    in_r = tree_row x q r k otherwise

    by_test : (b : Bool) → eqb k e.slot ≡ b
        → ((occurrences k (slots r) ≡ 0 → row_at table k ≡ otherwise) → row_at table k ≡ in_r)
        → ((occurrences k (slots l) ≡ 0 → row_at table k ≡ in_r) → row_at table k ≡ tree_row p x l k in_r)
        → row_at table k ≡ cond b (node_row p l e r q) (tree_row p x l k in_r)
    by_test true here of_r of_l = rw (eqb-true k e.slot here) own.row
    by_test false apart of_r of_l =
        of_l (λ none_l. of_r (λ none_r. elsewhere (occurrences_of_node k l e r ∙ omega (arith, ap one_if apart))))

-- the first words and the rows of a table are those of a state
pub record WrittenRows (limits : Limits) (table : List ℕ) (s : State) : Type 0 where
  pub long : length table ≡ table_length limits
  pub root : root_link table ≡ link_of s.tree
  pub count : labels_held table ≡ size s.tree
  pub free : first_free table ≡ first_of s.freed
  pub mark : high_mark table ≡ s.high
  pub tree_rows : RowsOf table none_below none_above s.tree
  pub other_rows : (k : ℕ) → 1 ≤ k → k ≤ limits.slots → occurrences k (slots s.tree) ≡ 0
      → row_at table k ≡ chain_row s.freed k

-- Such a table is the state written out.
pub table_from_rows : (limits : Limits) (table : List ℕ) (s : State) → WrittenRows limits table s
    → table ≡ written_table limits s
table_from_rows limits table s words =
    tables_extend limits table (written_table limits s) words.long (length_of_written_table limits s)
    (words.root ∙ sym (root_of_written limits s)) (words.count ∙ sym (count_of_written limits s))
    (words.free ∙ sym (free_of_written limits s)) (words.mark ∙ sym (mark_of_written limits s))
    (λ k low up. tree_row_of_rows table k none_below none_above s.tree (chain_row s.freed k) words.tree_rows
    (words.other_rows k low up) ∙ sym (row_of_written limits s k low up))

module _ (limits : Limits) (s : State) (valid : Valid limits.slots limits.width s) where
  -- The tree of a valid state stands in its table.
  pub rows_of_written : RowsOf (written_table limits s) none_below none_above s.tree
  rows_of_written =
      rows_of_represents limits (written_table limits s) (written_store limits s) (length_of_written_table limits s)
      none_below none_above s.tree (written_represents limits s valid)

  -- No slot is in two of its nodes.
  pub once_of_valid : Once (slots s.tree)
  once_of_valid k =
      let exact = exactly_of_valid limits.slots limits.width s valid in
      omega (arith, occurs_in_one_part (slots s.tree) s.freed exact k)

  -- Each is one of 1 to the high mark.
  pub slot_of_valid : (k : ℕ) → 1 ≤ occurrences k (slots s.tree) → (1 ≤ k) × (k ≤ s.high)
  slot_of_valid k there =
      occurs_inside (exactly_of_valid limits.slots limits.width s valid) k
      (omega (arith, occurrences_append k (slots s.tree) s.freed))
