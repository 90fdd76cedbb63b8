-- Files, read from their front on.
-- `Filed`: pairs as a file has them, above a label.
-- `facts_of_read`: the pairs of a file that is taken are no more than there are slots and as a file has them; of bytes,
-- it is their file.
-- `read_file_of`: the file of such pairs is taken, and holds them.
use mathlib.Core.Bool.{Bool, true, false}
use mathlib.Core.List.{List, [], ◌∷◌, ◌++◌}
use mathlib.Core.Path.{◌≡◌, refl, sym, ap, ◌∙◌}
use Prim.Native.Nat.{ℕ, zero, suc, ◌≤◌}
use native.Mathlib.Omega.{arith}
use lib.ListN.{length}
use Rattle.types.specs.declared.Limits.{Limits}
use Rattle.labels.specs.Labels.{Label, compare_labels}
use Rattle.labels.proofs.Clashes.{clash}
use Rattle.trees.specs.Map.{Pair}
use Rattle.trees.specs.Valid.{is_smaller}
use Rattle.tables.specs.Claims.{LabelFits}
use Rattle.files.specs.Groups.{groups_of, NumberRead}
use Rattle.files.specs.Files.{entry_of, entries_of, file_of, largest_word}
use Rattle.files.specs.FileReads.{EntryRead, FileRead, refused_by, holds, with_pair, filed, entry_then, at_end}
use Rattle.files.specs.FileReads.{OfBytes, take_entries, count_then, read_file}
use Rattle.files.proofs.FileNumbers.{bytes_after, NumberTaken, untaken, taken}
use Rattle.files.proofs.FileNumbers.{taken_view, take_groups}
use Rattle.files.proofs.FileEntries.{EntryTaken, no_entry_taken, entry_taken, entry_view, take_entry_lem}

module _ (limits : Limits) where
  -- pairs as a file has them, above a label: they ascend from it, their labels fit, and their values are words
  pub data Filed : (before : Label) → List Pair → Type 0 where
    filed_none : {before : Label} → Filed before []
    filed_more : {before : Label} {more : List Pair} (x : Label) (value : ℕ)
        → is_smaller (compare_labels before x) ≡ true → LabelFits limits x → value ≤ largest_word
        → Filed x more → Filed before (filed x value ∷ more)

  -- ---- what is taken

  -- the pairs of entries that are taken are as many, and as a file has them; in bytes nothing else stands there
  data EntriesTaken (count : ℕ) (before : Label) (text : List ℕ) : FileRead → Type 0 where
    entries_refused : (why : ℕ) → EntriesTaken count before text (refused_by why)
    entries_taken : (pairs : List Pair) → length pairs ≡ count → Filed before pairs
        → (OfBytes text → text ≡ entries_of pairs) → EntriesTaken count before text (holds pairs)

  -- At the end nothing follows.
  end_view : (before : Label) (text : List ℕ) → EntriesTaken 0 before text (at_end text)
  end_view before [] = entries_taken [] refl filed_none (λ bytes. refl)
  end_view before (byte ∷ more) = entries_refused 20

  -- A label above the one before it is taken where those after it are.
  entries_by_rest : {r : FileRead} (count : ℕ) (before : Label) (text : List ℕ) (x : Label) (value : ℕ) (rest : List ℕ)
      → is_smaller (compare_labels before x) ≡ true → LabelFits limits x → value ≤ largest_word
      → (OfBytes text → text ≡ entry_of x value ++ rest)
      → EntriesTaken count x rest r → EntriesTaken (suc count) before text (with_pair (filed x value) r)
  entries_by_rest count before text x value rest up fits word whole (entries_refused why) = entries_refused why
  entries_by_rest count before text x value rest up fits word whole (entries_taken pairs many so more) =
      entries_taken (filed x value ∷ pairs) (ap suc many) (filed_more x value up fits word so)
      (λ bytes.
      whole bytes
      ∙ ap (λ (l : List ℕ). entry_of x value ++ l) (more (bytes_after (entry_of x value) rest (whole bytes) bytes)))

  -- What taking so many labels with their values finds.
  entries_view : (count : ℕ) (before : Label) (text : List ℕ)
      → EntriesTaken count before text (take_entries limits count before text)
  unfolding take_entries
  entries_view zero before text = end_view before text
  entries_view (suc count) before text = by_entry (entry_view limits text) (λ x rest. entries_view count x rest)
    where
      by_order : {r : FileRead} (x : Label) (value : ℕ) (rest : List ℕ) → LabelFits limits x → value ≤ largest_word
          → (OfBytes text → text ≡ entry_of x value ++ rest) → EntriesTaken count x rest r
          → (b : Bool) → is_smaller (compare_labels before x) ≡ b
          → EntriesTaken (suc count) before text
          (elim b [ true ↦ with_pair (filed x value) r | false ↦ refused_by 19 ])
      by_order x value rest fits word whole later true up =
          entries_by_rest count before text x value rest up fits word whole later
      by_order x value rest fits word whole later false down = entries_refused 19

      by_entry : {e : EntryRead} → EntryTaken limits text e
          → ((x : Label) (rest : List ℕ) → EntriesTaken count x rest (take_entries limits count x rest))
          → EntriesTaken (suc count) before text (entry_then e before (λ x rest. take_entries limits count x rest))
      by_entry no_entry_taken later = entries_refused 18
      by_entry (entry_taken x value rest fits word whole) later =
          by_order x value rest fits word whole (later x rest) (is_smaller (compare_labels before x)) refl

  -- what holds of the pairs of a file that is taken
  pub record Facts (file : List ℕ) (pairs : List Pair) : Type 0 where
    pub few : length pairs ≤ limits.slots
    pub so : Filed [] pairs
    pub own : OfBytes file → file_of pairs ≡ file

  -- Past the number of labels those facts come from the entries.
  facts_of_entries : {r : FileRead} (file : List ℕ) (pairs : List Pair) (count : ℕ) (rest : List ℕ)
      → count ≤ limits.slots → (OfBytes file → file ≡ groups_of count ++ rest)
      → EntriesTaken count [] rest r → r ≡ holds pairs → Facts file pairs
  unfolding file_of
  facts_of_entries file pairs count rest few whole (entries_refused why) says = clash cc
  facts_of_entries file pairs count rest few whole (entries_taken others many so more) says =
      let same : others ≡ pairs = cc in
      record {
        few = rw (← same, many) few;
        so = rw (← same) so;
        own = λ bytes.
            rw (← same, many, ← more (bytes_after (groups_of count) rest (whole bytes) bytes)) (sym (whole bytes));
      }

  -- The pairs of a file that is taken are no more than there are slots and as a file has them; of bytes, it is their
  -- file.
  pub facts_of_read : (file : List ℕ) (pairs : List Pair) → read_file limits file ≡ holds pairs → Facts file pairs
  unfolding read_file
  facts_of_read file pairs reads = by_count (taken_view 0 limits.slots file) reads
    where
      by_count : {r : NumberRead} → NumberTaken 0 limits.slots file r → count_then limits r ≡ holds pairs
          → Facts file pairs
      by_count untaken says = clash cc
      by_count (taken count rest low few whole) says =
          facts_of_entries file pairs count rest few whole (entries_view count [] rest) says

  -- ---- what is read back

  -- The entries of such pairs are taken, and hold them.
  take_entries_lem : {before : Label} {pairs : List Pair} → Filed before pairs
      → take_entries limits (length pairs) before (entries_of pairs) ≡ holds pairs
  unfolding take_entries
  take_entries_lem filed_none = refl
  take_entries_lem (filed_more {more} x value up fits word so) =
      rw (take_entry_lem limits x value (entries_of more) fits word, up, entry_then, take_entries_lem so)

  -- The file of such pairs, no more than there are slots, is taken, and holds them.
  pub read_file_of : (pairs : List Pair) → length pairs ≤ limits.slots → Filed [] pairs
      → read_file limits (file_of pairs) ≡ holds pairs
  unfolding read_file file_of
  read_file_of pairs few so =
      rw (take_groups 0 limits.slots (length pairs) (entries_of pairs) (omega arith) few) (take_entries_lem so)
