-- The file of a table with as many nodes as labels held, by its links, in words of 16 bits.
-- `count_whole`, `length_fits`: a machine word counts its bytes. `file_counted`: how many they are.
-- `room_of_count`, `room_of_entries`: where they fit the output, each part has room in turn.
-- `file_filled`: the parts, written one after the other, are the file.
use mathlib.Core.List.{List, [], ◌∷◌, map}
use mathlib.Core.Path.{◌≡◌, refl, ap, ◌∙◌}
use Prim.Native.Nat.{ℕ, ◌+◌, ◌*◌, ◌^◌, ◌≤◌, ◌<◌}
use native.Mathlib.Nat.{mul-le-mul_right}
use native.Mathlib.Omega.{arith}
use lib.ListN.{length, get_or, drop, length-append, length-take, length-map}
use Rattle.types.specs.declared.Limits.{Limits}
use Rattle.tables.specs.Words.{root_link, labels_held, slot_start, row_at, part_start, label_at}
use Rattle.words.specs.Filled.{Filled, HasRoom}
use Rattle.words.proofs.Fills.{filled_in_turn, filled_length}
use Rattle.files.specs.Groups.{groups_within, groups_of}
use Rattle.files.specs.Files.{largest_word}
use Rattle.files.proofs.GroupLaws.{groups_few}
use Rattle.files.proofs.FileLaws.{FitIn, fit_none, fit_pair, longest_entry, entries_within}
use Rattle.lists.specs.Listed.{slots_listed, ListReady}
use Rattle.saves.specs.Saved.{pair_in_slot, entries_from, file_from, CountFits, WriteFits}

-- the entries of a whole table
abbrev entries_over : Limits → (table store : List ℕ) → List ℕ
entries_over limits table store = entries_from limits table store limits.depth (root_link table)

-- The longest entry of a length word and a value.
longest_of_words : longest_entry largest_word ≡ 65541
unfolding groups_of groups_within
longest_of_words = refl

module _ (limits : Limits) (table store : List ℕ) (words : (i : ℕ) → get_or table i 0 ≤ largest_word) where
  -- The pairs in slots have labels no longer than a word says, and words for values.
  pairs_fit : (slots : List ℕ) → FitIn largest_word (map (pair_in_slot limits table store) slots)
  unfolding row_at label_at
  pairs_fit [] = fit_none
  pairs_fit (k ∷ slots) =
      let len = (row_at table k).len in
      let cut = length-take len (drop (part_start limits k) store) in
      fit_pair {p = pair_in_slot limits table store k} (omega (arith, cut, words (slot_start k + 5)))
      (words (slot_start k + 6)) (pairs_fit slots)

  module _ (ready : ListReady limits table) where
    few_entries : length (entries_over limits table store) ≤ largest_word * longest_entry largest_word
    unfolding entries_from
    few_entries =
        let count = length-map (slots_listed limits table) (pair_in_slot limits table store) ∙ ready.count in
        omega (
          arith,
          entries_within (pairs_fit (slots_listed limits table)),
          ap (λ n. n * longest_entry largest_word) count,
          mul-le-mul_right (longest_entry largest_word) (words 1),
        )

    pub count_whole : CountFits limits table store limits.depth (root_link table)
    count_whole = record { fit = ready.fit; words = ready.words; few = omega (arith, few_entries, longest_of_words) }

    pub length_fits : (n held count : ℕ) → n ≤ largest_word → held ≡ length (groups_of n)
        → count ≡ length (entries_over limits table store) → held + count < 2 ^ 64
    length_fits n held count small is_held_lem is_count = omega (arith, few_entries, longest_of_words, groups_few n)

module _ (limits : Limits) (table store : List ℕ) where
  -- the file's entries
  abbrev entries : List ℕ
  entries = entries_over limits table store

  -- The file takes the groups of the labels held, and its entries.
  parts_counted : length (file_from limits table store) ≡ length (groups_of (labels_held table)) + length entries
  unfolding file_from
  parts_counted = length-append (groups_of (labels_held table)) entries

  pub file_counted : (held count : ℕ) → held ≡ length (groups_of (labels_held table)) → count ≡ length entries
      → held + count ≡ length (file_from limits table store)
  file_counted held count is_held_lem is_count = omega (arith, parts_counted)

  module _ (output : List ℕ) (size : ℕ) (is_size : size ≡ length (file_from limits table store))
      (fits : size ≤ length output) where
    pub room_of_count : HasRoom (groups_of (labels_held table)) 0 output
    room_of_count = omega (arith, parts_counted)

    module _ (first : List ℕ) (start : ℕ) (begun : Filled (groups_of (labels_held table)) output 0 first start) where
      pub room_of_entries : ListReady limits table
          → WriteFits limits table store first start limits.depth (root_link table)
      room_of_entries ready =
          record {
            fit = ready.fit;
            words = ready.words;
            room = omega (arith, parts_counted, filled_length begun);
          }

      -- The parts, written one after the other, are the file.
      pub file_filled : (after : List ℕ) (end : ℕ) → Filled entries first start after end
          → Filled (file_from limits table store) output 0 after end
      unfolding file_from
      file_filled after end ended =
          filled_in_turn (groups_of (labels_held table)) entries output first after 0 start end begun ended
