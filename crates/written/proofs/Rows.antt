-- The words of a written-out table.
-- `length_of_written_table`: it has the right length.
-- `root_of_written`, `count_of_written`, `free_of_written`, `mark_of_written`: its first words.
-- `row_of_written`: the row of a slot is the state's. `zero_rows_of_written`: rows of zeros above a mark are zeros.
-- `tables_extend`: tables with the same first words and the same rows are equal.
use mathlib.Core.Bool.{true}
use mathlib.Core.List.{List, ◌∷◌}
use mathlib.Core.Path.{◌≡◌, refl, sym, ap, ◌∙◌}
use Prim.Native.Nat.{ℕ, suc, ◌+◌, ◌-◌, ◌*◌, ◌≤◌, ◌<◌}
use native.Mathlib.Nat.{add-zero}
use native.Mathlib.Omega.{arith}
use lib.ListN.{length, get_or, take, drop, length-drop}
use lib.Seq.{drop-cons, drop-drop, get_or-drop}
use Rattle.types.specs.declared.Limits.{Limits}
use Rattle.types.specs.declared.Row.{Row}
use Rattle.types.specs.Sizes.{table_length}
use Rattle.trees.specs.Trees.{size}
use Rattle.trees.specs.Plain.{State}
use Rattle.tables.specs.Words.{root_link, labels_held, first_free, high_mark, slot_start, row_from, row_at}
use Rattle.tables.specs.Written.{link_of, first_of, free_row, slot_row, row_before, rows_from, written_table}
use Rattle.tables.specs.Sound.{all_zero}
use Rattle.written.proofs.Chunks.{row_words, rows_are_parts, parts_extend}
use Rattle.written.proofs.Chunks.{length_of_parts, drop_of_parts, part_of_parts}
use Rattle.written.proofs.Zeros.{all_zero_rows}

-- ---- rows of any list of words

-- A row is read from what stands at its start and after.
row_by_drop : (table : List ℕ) (b : ℕ) → row_from (drop b table) 0 ≡ row_from table b
row_by_drop table b = λ i.
    record {
      left = (get_or-drop b table 0 0 ∙ ap (λ (n : ℕ). get_or table n 0) (add-zero b)) i;
      right = get_or-drop b table 1 0 i;
      place = get_or-drop b table 2 0 i;
      side = get_or-drop b table 3 0 i;
      balance = get_or-drop b table 4 0 i;
      len = get_or-drop b table 5 0 i;
      value = get_or-drop b table 6 0 i;
      charge = get_or-drop b table 7 0 i;
    }

-- A list of eight words or more starts with a row.
row_first : (words : List ℕ) → 8 ≤ length words → words ≡ row_before (row_from words 0) (drop 8 words)
row_first words long =
    cc (
      word 0 (omega arith),
      word 1 (omega arith),
      word 2 (omega arith),
      word 3 (omega arith),
      word 4 (omega arith),
      word 5 (omega arith),
      word 6 (omega arith),
      word 7 (omega arith),
    )
  where
    word : (j : ℕ) → j < 8 → drop j words ≡ get_or words j 0 ∷ drop (suc j) words
    word j low = drop-cons words j 0 (omega arith)

-- The words of a row, in a list that has them.
words_of_row : (table : List ℕ) (b : ℕ) → b + 8 ≤ length table → take 8 (drop b table) ≡ row_words (row_from table b)
words_of_row table b fits =
    ap (take 8) (row_first (drop b table) (rw length-drop (omega arith))) ∙ ap row_words (row_by_drop table b)

-- n rows are eight times n words long.
length_of_rows : (row : ℕ → Row) (k n : ℕ) → length (rows_from row k n) ≡ 8 * n
length_of_rows row k n = rw rows_are_parts (length_of_parts 8 (λ j. row_words (row j)) k n)

-- What stands after the first i rows.
drop_of_rows : (row : ℕ → Row) (k i n : ℕ) → i ≤ n → drop (8 * i) (rows_from row k n) ≡ rows_from row (k + i) (n - i)
drop_of_rows row k i n within =
    let split : n ≡ i + (n - i) = omega arith in
    ap (λ (m : ℕ). drop (8 * i) (rows_from row k m)) split
    ∙ rw (rows_are_parts row k (i + (n - i)), rows_are_parts row (k + i) (n - i))
    (drop_of_parts 8 (λ j. row_words (row j)) k i (n - i))

-- ---- the written-out table

module _ (limits : Limits) (s : State) where
  -- A written-out table has the right length.
  pub length_of_written_table : length (written_table limits s) ≡ table_length limits
  unfolding written_table
  length_of_written_table = omega (arith, length_of_rows (slot_row s) 1 limits.slots)

  -- Word 0 is the root link.
  pub root_of_written : root_link (written_table limits s) ≡ link_of s.tree
  unfolding written_table
  root_of_written = refl

  -- Word 1 is the number of nodes.
  pub count_of_written : labels_held (written_table limits s) ≡ size s.tree
  unfolding written_table
  count_of_written = refl

  -- Word 2 is the first freed slot.
  pub free_of_written : first_free (written_table limits s) ≡ first_of s.freed
  unfolding written_table
  free_of_written = refl

  -- Word 3 is the high mark.
  pub mark_of_written : high_mark (written_table limits s) ≡ s.high
  unfolding written_table
  mark_of_written = refl

  -- The row of a slot is the state's.
  pub row_of_written : (k : ℕ) → 1 ≤ k → k ≤ limits.slots → row_at (written_table limits s) k ≡ slot_row s k
  unfolding row_at written_table
  row_of_written k low up =
      sym (row_by_drop (written_table limits s) (slot_start k))
      ∙ rw (
        ← drop-drop (8 * (k - 1)) 4 (written_table limits s),
        rows_are_parts (slot_row s) 1 limits.slots,
        part_of_parts 8 (λ j. row_words (slot_row s j)) 1 (k - 1) limits.slots (omega arith),
      )
      (ap (slot_row s) (omega arith))

  -- Rows of zeros above a mark are zeros.
  pub zero_rows_of_written : (mark : ℕ) → mark ≤ limits.slots
      → ((k : ℕ) → mark < k → k ≤ limits.slots → slot_row s k ≡ free_row 0)
      → all_zero (drop (4 + 8 * mark) (written_table limits s)) ≡ true
  unfolding written_table
  zero_rows_of_written mark up zeros =
      rw (← drop-drop (8 * mark) 4 (written_table limits s), drop_of_rows (slot_row s) 1 mark limits.slots)
      (all_zero_rows (slot_row s) (1 + mark) (limits.slots - mark) (λ j low high. zeros j (omega arith) (omega arith)))

-- ---- tables of any words

module _ (limits : Limits) where
  -- The rows of a table, as the words after the first four.
  words_of_slot : (table : List ℕ) → length table ≡ table_length limits → (i : ℕ) → i < limits.slots
      → take 8 (drop (8 * i) (drop 4 table)) ≡ row_words (row_at table (suc i))
  unfolding row_at
  words_of_slot table long i within =
      let start : slot_start (suc i) ≡ 4 + 8 * i = omega arith in
      rw (drop-drop (8 * i) 4 table, start) (words_of_row table (4 + 8 * i) (omega arith))

  -- A table is its first words and the words after them.
  head_first : (table : List ℕ) → length table ≡ table_length limits
      → table ≡ root_link table ∷ labels_held table ∷ first_free table ∷ high_mark table ∷ drop 4 table
  head_first table long = cc (word 0 (omega arith), word 1 (omega arith), word 2 (omega arith), word 3 (omega arith))
    where
      word : (j : ℕ) → j < 4 → drop j table ≡ get_or table j 0 ∷ drop (suc j) table
      word j low = drop-cons table j 0 (omega arith)

  -- Tables with the same first words and the same rows are equal.
  pub tables_extend : (one other : List ℕ) → length one ≡ table_length limits → length other ≡ table_length limits
      → root_link one ≡ root_link other → labels_held one ≡ labels_held other → first_free one ≡ first_free other
      → high_mark one ≡ high_mark other
      → ((k : ℕ) → 1 ≤ k → k ≤ limits.slots → row_at one k ≡ row_at other k) → one ≡ other
  tables_extend one other one_long other_long roots counts frees marks rows =
      cc (head_first one one_long, head_first other other_long, after)
    where
      after : drop 4 one ≡ drop 4 other
      after =
          parts_extend 8 limits.slots (drop 4 one) (drop 4 other)
          (rw length-drop (omega arith)) (rw length-drop (omega arith))
          (λ i within. words_of_slot one one_long i within ∙ ap row_words (rows (suc i) (omega arith) (omega arith))
          ∙ sym (words_of_slot other other_long i within))
