-- A table once the slot of a new label is taken and the label counted.
-- `TakenWords`: its first words, and that its rows stay. `taken_words`: so for the table of a valid state.
use mathlib.Core.List.{List, [], ◌∷◌}
use mathlib.Core.Path.{◌≡◌, ◌∙◌}
use mathlib.Core.Logic.{◌≢◌}
use mathlib.Core.Bool.{cond}
use Prim.Native.Nat.{ℕ, suc, ◌+◌, ◌≤◌, ◌<◌}
use native.Mathlib.Numerals.{add-one}
use native.Mathlib.Omega.{arith}
use lib.Dec.{eqb}
use lib.ListN.{length, get_or, set, length-set}
use lib.Seq.{get_or-set_same, get_or-set_other}
use borrow.Author.Tests.{ne_eqb}
use Rattle.types.specs.declared.Limits.{Limits}
use Rattle.trees.specs.Trees.{Tree, size}
use Rattle.trees.specs.Plain.{State}
use Rattle.trees.specs.Valid.{Valid}
use Rattle.tables.specs.Words.{root_link, labels_held, first_free, high_mark, row_at}
use Rattle.tables.specs.Written.{link_of, first_of, written_table}
use Rattle.written.proofs.Rows.{length_of_written_table, root_of_written, count_of_written, free_of_written}
use Rattle.written.proofs.Rows.{mark_of_written, row_of_written}
use Rattle.written.proofs.Slots.{ChainInSlots, chain_placed}
use Rattle.slots.specs.Slots.{after_taken, with_count}
use Rattle.rewritten.proofs.Roots.{row_past_header}
use Rattle.rewritten.proofs.Fresh.{freed_after, mark_after}

-- a table once the slot is taken and the label counted
pub record TakenWords (t : Tree) (freed : List ℕ) (high : ℕ) (before after : List ℕ) : Type 0 where
  pub words : length after ≡ length before
  pub root : root_link after ≡ link_of t
  pub count : labels_held after ≡ suc (size t)
  pub free : first_free after ≡ first_of (freed_after freed)
  pub mark : high_mark after ≡ mark_after freed high
  pub rows : (k : ℕ) → row_at after k ≡ row_at before k

-- two words set, of which the second is word 1
module _ (table : List ℕ) (i value count : ℕ) where
  abbrev twice : List ℕ
  twice = set (set table i value) 1 count

  -- The rows stay.
  rows_of_twice : i < 4 → (k : ℕ) → row_at twice k ≡ row_at table k
  rows_of_twice small k =
      row_past_header (set table i value) 1 count k (omega arith) ∙ row_past_header table i value k small

  -- The other words stay.
  word_of_twice : (j : ℕ) → j ≢ i → j ≢ 1 → get_or twice j 0 ≡ get_or table j 0
  word_of_twice j apart past =
      get_or-set_other (set table i value) 1 j count 0 past ∙ get_or-set_other table i j value 0 apart

  -- The first word is set.
  first_of_twice : i ≢ 1 → i < length table → get_or twice i 0 ≡ value
  first_of_twice past long = get_or-set_other (set table i value) 1 i count 0 past ∙ get_or-set_same table i value 0 long

  -- Word 1 is set.
  count_of_twice : 1 < length table → get_or twice 1 0 ≡ count
  count_of_twice long = get_or-set_same (set table i value) 1 count 0 (rw length-set long)

module _ (limits : Limits) (s : State) (valid : Valid limits.slots limits.width s) where
  abbrev table : List ℕ
  table = written_table limits s

  -- the table without the slot in its free chain, or with a higher mark
  abbrev without : List ℕ → List ℕ
  without [] = set table 3 (suc s.high)
  without (k ∷ more) = set table 2 (first_of more)

  -- So the slot is taken.
  table_without : after_taken table ≡ without s.freed
  unfolding after_taken
  table_without = rw (free_of_written limits s, mark_of_written limits s) (go s.freed (chain_placed limits s valid))
    where
      go : (freed : List ℕ) → ChainInSlots limits s freed
          → cond (eqb (first_of freed) 0) (set table 3 (s.high + 1))
          (set table 2 (row_at table (first_of freed)).left)
          ≡ without freed
      go [] chain = rw add-one
      go (k ∷ more) (own, others) =
          rw (ne_eqb k 0 (omega (arith, own.low)), row_of_written limits s k own.low own.up, own.row_there)

  -- The table once the slot is taken and the label counted.
  pub taken_words : TakenWords s.tree s.freed s.high (written_table limits s)
      (with_count (after_taken (written_table limits s)) (labels_held (written_table limits s) + 1))
  unfolding with_count
  taken_words = rw (table_without, count_of_written limits s, add-one) (go s.freed (free_of_written limits s))
    where
      long : 4 ≤ length table
      long = omega (arith, length_of_written_table limits s)

      go : (freed : List ℕ) → first_free table ≡ first_of freed
          → TakenWords s.tree freed s.high table (set (without freed) 1 (suc (size s.tree)))
      go [] free = record {
        words = simp length-set;
        root = word_of_twice table 3 _ _ 0 (omega arith) (omega arith) ∙ root_of_written limits s;
        count = count_of_twice table 3 _ _ (omega (arith, long));
        free = word_of_twice table 3 _ _ 2 (omega arith) (omega arith) ∙ free;
        mark = first_of_twice table 3 _ _ (omega arith) (omega (arith, long));
        rows = rows_of_twice table 3 _ _ (omega arith);
      }
      go (k ∷ more) free = record {
        words = simp length-set;
        root = word_of_twice table 2 _ _ 0 (omega arith) (omega arith) ∙ root_of_written limits s;
        count = count_of_twice table 2 _ _ (omega (arith, long));
        free = first_of_twice table 2 _ _ (omega arith) (omega (arith, long));
        mark = word_of_twice table 2 _ _ 3 (omega arith) (omega arith) ∙ mark_of_written limits s;
        rows = rows_of_twice table 2 _ _ (omega arith);
      }
