-- The longest file.
-- saves_within: of words of 16 bits, no more is written than the longest file has.
-- fit_read: the pairs of a tree that such words represent fit.
use mathlib.Core.Bool.{Bool, true, false, not}
use mathlib.Core.List.{List}
use mathlib.Core.Path.{◌≡◌, refl, ap}
use Prim.Native.Nat.{ℕ, ◌+◌, ◌≤◌}
use lib.Dec.{ltb}
use lib.ListN.{length, get_or}
use Rattle.types.specs.declared.Limits.{Limits}
use Rattle.types.specs.declared.Row.{Row}
use Rattle.types.specs.Sizes.{table_length, store_length}
use Rattle.types.specs.SaveReplies.{saved}
use Rattle.labels.specs.Neighbours.{Neighbour, held, none_below, none_above}
use Rattle.labels.proofs.Clashes.{clash}
use Rattle.labels.proofs.Numbers.{Eqb, eq_yes, eq_no, eqb_view}
use Rattle.trees.specs.Trees.{Entry, Tree, empty, node}
use Rattle.trees.specs.Heights.{Deepest}
use Rattle.trees.specs.Plain.{State}
use Rattle.trees.specs.Map.{pair_of, map_of}
use Rattle.trees.specs.Valid.{Valid}
use Rattle.trees.proofs.Entries.{mapped_node}
use Rattle.tables.specs.Words.{slot_start, row_at}
use Rattle.tables.specs.Written.{Memory, written, written_table}
use Rattle.tables.specs.Sound.{sound}
use Rattle.tables.specs.Outcomes.{Verdict, pass, line}
use Rattle.tables.specs.Claims.{Sound}
use Rattle.tables.proofs.Represents.{NodeHeld, Represents}
use Rattle.written.proofs.Readings.{size_within}
use Rattle.written.proofs.Slots.{written_represents}
use Rattle.files.specs.Files.{largest_word, longest_file}
use Rattle.files.specs.Saves.{saving_by, of_output, save_outcome, file_in}
use Rattle.files.proofs.FileLaws.{FitIn, fit_none, fit_pair, fit_append, file_within}
use Rattle.demands.specs.Saves.{SavesWithin}
use Rattle.demands.proofs.OnSound.{count_of_map, of_sound, map_of_written}
use Rattle.demands.proofs.Saves.{saving_of_sound}

module _ (limits : Limits) (m : Memory) (words : (i : ℕ) → get_or m.table i 0 ≤ largest_word) where
  -- The value of a node is a word of the table.
  value_is_word : {p s : Neighbour} {l r : Tree} {e : Entry} → NodeHeld limits m.table m.store p l e r s
      → e.value ≤ largest_word
  unfolding row_at
  value_is_word {e} own = rw (← ap (λ (row : Row). row.value) own.row) (words (slot_start e.slot + 6))

  -- The pairs of a represented tree fit.
  pub fit_read : (p s : Neighbour) (t : Tree) → Represents limits m.table m.store p s t
      → FitIn limits.width (map_of t)
  fit_read p s empty there = fit_none
  fit_read p s (node l e r) (own, of_l, of_r) =
      rw (mapped_node pair_of l e r)
      (fit_append (fit_read p (held e.label) l of_l)
      (fit_pair own.short (value_is_word own) (fit_read (held e.label) s r of_r)))

module _ (limits : Limits) (m : Memory) (output : List ℕ) (count : ℕ) where
  -- Where something is saved the table is sound.
  sound_when_saved : (file : List ℕ) (below : Verdict) {words bytes : Bool} (so : Bool)
      → Eqb (length m.table) (table_length limits) words → Eqb (length m.store) (store_length limits) bytes
      → sound limits m.table m.store ≡ so
      → (saving_by (line (not words) 1 (line (not bytes) 2 (line (not so) 6 below))) output file).answer ≡ saved count
      → Sound limits m
  sound_when_saved file below so (eq_no other) bytes of_table_lem says = clash cc
  sound_when_saved file below so (eq_yes words) (eq_no other) of_table_lem says = clash cc
  sound_when_saved file below false (eq_yes words) (eq_yes bytes) of_table_lem says = clash cc
  sound_when_saved file below true (eq_yes words) (eq_yes bytes) of_table_lem says =
      record { words = words; bytes = bytes; so = of_table_lem }

  -- What is answered is the file's length.
  count_when_saved : (file : List ℕ) (short : Bool) → (saving_by (line short 17 pass) output file).answer ≡ saved count
      → count ≡ length file
  count_when_saved file true says = clash cc
  count_when_saved file false says = cc

module _ (limits : Limits) (deepest : Deepest limits.slots limits.depth) where
  -- The file of a valid state written out in words of 16 bits is no longer than the longest one.
  within_out : (s : State) → Valid limits.slots limits.width s
      → ((i : ℕ) → get_or (written_table limits s) i 0 ≤ largest_word)
      → length (file_in limits (written limits s)) ≤ longest_file limits
  within_out s valid words =
      rw (map_of_written limits deepest s valid)
      (file_within limits (map_of s.tree) (rw (count_of_map s) (size_within limits s valid))
      (fit_read limits (written limits s) words none_below none_above s.tree (written_represents limits s valid)))

  -- Of words of 16 bits no more is written than the longest file has.
  pub saves_within : SavesWithin limits (longest_file limits)
  unfolding save_outcome
  saves_within m words output count says =
      let file = file_in limits m in
      let passed =
      sound_when_saved limits m output count file (of_output file output pass) (sound limits m.table m.store)
      (eqb_view (length m.table) (table_length limits)) (eqb_view (length m.store) (store_length limits))
      refl says in
      let whole =
      count_when_saved limits m output count file (ltb (length output) (length file))
      (rw (saving_of_sound limits m passed output) at says) in
      rw whole
      (of_sound limits deepest
      (λ m. ((i : ℕ) → get_or m.table i 0 ≤ largest_word) → length (file_in limits m) ≤ longest_file limits)
      within_out m passed words)
