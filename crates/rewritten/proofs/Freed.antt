-- A slot freed: its row put in front of the free chain, its bytes cleared.
-- FreedWords, freed_words: the table once a slot is freed and the labels counted.
-- length_cleared, part_cleared, part_past_cleared: the store with a part cleared is as long as before; that part is the
-- part of no bytes, and the others stay.
use mathlib.Core.List.{List, [], ◌∷◌, append-nil}
use mathlib.Core.Path.{◌≡◌, refl, ap, ◌∙◌}
use mathlib.Core.Logic.{◌≢◌}
use Prim.Native.Nat.{ℕ, zero, suc, ◌≤◌, ◌<◌}
use native.Mathlib.Omega.{arith}
use lib.ListN.{length, get_or, set, drop, replicate, length-set, length-replicate, drop_of_length-le}
use lib.Seq.{get_or-set_same, get_or-set_other, length-sets}
use Rattle.types.specs.declared.Limits.{Limits}
use Rattle.types.specs.Sizes.{store_length}
use Rattle.tables.specs.Words.{root_link, labels_held, first_free, high_mark, row_at, part_start, part_at}
use Rattle.tables.specs.Written.{free_row}
use Rattle.written.proofs.Chunks.{padded}
use Rattle.sounds.proofs.Held.{length_of_part}
use Rattle.words.specs.Rows.{put_row, HasRow}
use Rattle.words.proofs.Laws.{length_put_row, row_put_same, row_put_other}
use Rattle.rotations.proofs.Stays.{frame_of_put}
use Rattle.slots.specs.Slots.{after_freed, with_count, without_label}
use Rattle.rewritten.proofs.Roots.{row_past_header}
use Rattle.rewritten.proofs.Stored.{part_stored, part_past_stored}

-- a table once slot c is freed, with so many labels
pub record FreedWords (c count : ℕ) (before after : List ℕ) : Type 0 where
  pub words : length after ≡ length before
  pub root : root_link after ≡ root_link before
  pub counted : labels_held after ≡ count
  pub free : first_free after ≡ c
  pub mark : high_mark after ≡ high_mark before
  pub own : row_at after c ≡ free_row (first_free before)
  pub others : (k : ℕ) → 1 ≤ k → k ≢ c → row_at after k ≡ row_at before k

-- So it is after the slot is put in front of the free chain and the labels are counted.
pub freed_words : (c count : ℕ) (table : List ℕ) → HasRow table c
    → FreedWords c count table (with_count (after_freed table c) count)
unfolding after_freed with_count
freed_words c count table has = record {
  words = length-set linked 1 count ∙ length-set put 2 c ∙ long;
  root = past_count 0 (omega arith) ∙ past_link 0 (omega arith) ∙ header 0 (omega arith);
  counted = get_or-set_same linked 1 count 0 (omega (arith, length-set put 2 c, long));
  free = past_count 2 (omega arith) ∙ get_or-set_same put 2 c 0 (omega (arith, long));
  mark = past_count 3 (omega arith) ∙ past_link 3 (omega arith) ∙ header 3 (omega arith);
  own = past c ∙ row_put_same table c (free_row (first_free table)) has;
  others = λ k low apart. past k ∙ row_put_other table c k (free_row (first_free table)) has.low low apart;
}
  where
    put : List ℕ
    put = put_row table c (free_row (first_free table))

    linked : List ℕ
    linked = set put 2 c

    long : length put ≡ length table
    long = length_put_row table c (free_row (first_free table))

    header : (i : ℕ) → i < 4 → get_or put i 0 ≡ get_or table i 0
    header = (frame_of_put table c (free_row (first_free table)) has.low).header

    past_count : (i : ℕ) → i ≢ 1 → get_or (set linked 1 count) i 0 ≡ get_or linked i 0
    past_count i apart = get_or-set_other linked 1 i count 0 apart

    past_link : (i : ℕ) → i ≢ 2 → get_or linked i 0 ≡ get_or put i 0
    past_link i apart = get_or-set_other put 2 i c 0 apart

    past : (k : ℕ) → row_at (set linked 1 count) k ≡ row_at put k
    past k = row_past_header linked 1 count k (omega arith) ∙ row_past_header put 2 c k (omega arith)

-- ---- bytes

-- Zeros up to the width are the part of no bytes.
zeros_padded : (width : ℕ) → replicate width 0 ≡ padded width []
zeros_padded zero = refl
zeros_padded (suc width) = ap (λ (l : List ℕ). 0 ∷ l) (zeros_padded width)

-- A cleared store is as long as before.
pub length_cleared : (limits : Limits) (store : List ℕ) (k : ℕ) → length (without_label limits store k) ≡ length store
unfolding without_label
length_cleared limits store k = length-sets store (part_start limits k) (replicate limits.width 0)

module _ (limits : Limits) (store : List ℕ) (bytes : length store ≡ store_length limits)
    (k : ℕ) (low : 1 ≤ k) (up : k ≤ limits.slots) where
  abbrev zeros : List ℕ
  zeros = replicate limits.width 0

  short : length zeros ≤ limits.width
  short = omega (arith, length-replicate {A = ℕ} limits.width 0)

  -- A cleared part is the part of no bytes.
  pub part_cleared : part_at limits (without_label limits store k) k ≡ padded limits.width []
  unfolding without_label
  part_cleared =
      let none : drop (length zeros) (part_at limits store k) ≡ [] =
      drop_of_length-le (part_at limits store k) {i = length zeros}
      (omega (arith, length_of_part limits store bytes k low up, length-replicate {A = ℕ} limits.width 0)) in
      part_stored limits store bytes k low up zeros short ∙ rw (none, append-nil zeros) (zeros_padded limits.width)

  -- The parts of the other slots stay.
  pub part_past_cleared : (j : ℕ) → 1 ≤ j → j ≢ k
      → part_at limits (without_label limits store k) j ≡ part_at limits store j
  unfolding without_label
  part_past_cleared = part_past_stored limits store bytes k low up zeros short
