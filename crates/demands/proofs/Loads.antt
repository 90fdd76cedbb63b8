-- Loads of saved files.
-- loads_files: a load of a file that is taken leaves a sound table of its labels and values and nothing else, by
-- inserts of which none is refused; saving it again yields the file. A load that is not refused was of such a file, and
-- every saved file is one.
use mathlib.Core.Bool.{Bool, not}
use mathlib.Core.List.{List, []}
use mathlib.Core.Path.{◌≡◌, refl, sym, ap, ◌∙◌}
use Prim.Native.Nat.{ℕ}
use native.Mathlib.Omega.{arith}
use lib.ListN.{length}
use Rattle.types.specs.declared.Limits.{Limits}
use Rattle.types.specs.Sizes.{table_length, store_length}
use Rattle.types.specs.LoadReplies.{loaded}
use Rattle.labels.proofs.Clashes.{clash}
use Rattle.labels.proofs.Difference.{below_is_before}
use Rattle.labels.proofs.Numbers.{Eqb, eq_yes, eq_no, eqb_view}
use Rattle.labels.proofs.Order.{none_below_held}
use Rattle.trees.specs.Heights.{Deepest}
use Rattle.trees.specs.Map.{Pair}
use Rattle.trees.specs.Plain.{fresh}
use Rattle.trees.proofs.Linked.{linked_end}
use Rattle.trees.proofs.ValidSteps.{valid_fresh}
use Rattle.tables.specs.Written.{Memory}
use Rattle.tables.specs.Outcomes.{pass, line, layout_outcome}
use Rattle.tables.specs.Claims.{Sound, after_list}
use Rattle.tables.specs.MapClaims.{map_in}
use Rattle.files.specs.Files.{file_of}
use Rattle.files.specs.Saves.{file_in}
use Rattle.files.specs.FileReads.{OfBytes, FileRead, refused_by, holds, read_file}
use Rattle.files.specs.Loads.{inserts_of, loading_by, file_by, load_outcome}
use Rattle.files.proofs.FileReadLaws.{facts_of_read}
use Rattle.demands.specs.Loads.{loading_of, Lent, LoadsPairs, LoadsFiles}
use Rattle.demands.proofs.Outcomes.{memory_passes}
use Rattle.demands.proofs.Fresh.{laid_out_is_fresh}
use Rattle.demands.proofs.CostRule.{cost_rule}
use Rattle.demands.proofs.OnSound.{sound_out, map_of_written}
use Rattle.demands.proofs.Saves.{saving_with_room}
use Rattle.demands.proofs.LoadInserts.{all_inserted}
use Rattle.demands.proofs.SavedTaken.{saved_file_taken}

module _ (limits : Limits) where
  -- what layout leaves of a memory
  abbrev laid_out : Memory → Memory
  laid_out m = (layout_outcome limits m.table m.store).memory

  -- A load of a file that is taken leaves what its inserts leave.
  loading_of_taken : (m : Memory) → Lent limits m → (file : List ℕ) (pairs : List Pair)
      → read_file limits file ≡ holds pairs
      → loading_of limits m file
      ≡ record { answer = loaded (length pairs); memory = after_list limits (inserts_of pairs) (laid_out m) }
  unfolding load_outcome
  loading_of_taken m lent file pairs reads =
      rw (memory_passes limits m.table m.store lent.words lent.bytes, reads)

  -- A load that is not refused was of such a file.
  taken_when_loaded : (m : Memory) (file : List ℕ) (count : ℕ) → (loading_of limits m file).answer ≡ loaded count
      → Lent limits m × ((pairs : List Pair) × (read_file limits file ≡ holds pairs))
  unfolding load_outcome
  taken_when_loaded m file count says =
      by_lines (read_file limits file) refl (eqb_view (length m.table) (table_length limits))
      (eqb_view (length m.store) (store_length limits)) says
    where
      by_lines : {words bytes : Bool} (r : FileRead) → read_file limits file ≡ r
          → Eqb (length m.table) (table_length limits) words → Eqb (length m.store) (store_length limits) bytes
          → (loading_by limits m (file_by (line (not words) 1 (line (not bytes) 2 pass)) r)).answer ≡ loaded count
          → Lent limits m × ((pairs : List Pair) × (read_file limits file ≡ holds pairs))
      by_lines r reads (eq_no other) bytes says = clash cc
      by_lines r reads (eq_yes words) (eq_no other) says = clash cc
      by_lines (refused_by why) reads (eq_yes words) (eq_yes bytes) says = clash cc
      by_lines (holds pairs) reads (eq_yes words) (eq_yes bytes) says =
          (record { words = words; bytes = bytes }, (pairs, reads))

  module _ (deepest : Deepest limits.slots limits.depth) where
    -- What layout leaves is sound, and holds nothing.
    laid_out_empty : (m : Memory) → Lent limits m → Sound limits (laid_out m) × (map_in limits (laid_out m) ≡ [])
    laid_out_empty m lent =
        let valid = valid_fresh limits.slots limits.width in
        rw (laid_out_is_fresh limits m.table m.store lent.words lent.bytes)
        (sound_out limits deepest fresh valid, map_of_written limits deepest fresh valid)

    -- A load of a file that is taken inserts its pairs, and leaves a table of no others.
    loads_pairs : (m : Memory) → Lent limits m → (file : List ℕ) (pairs : List Pair)
        → read_file limits file ≡ holds pairs → LoadsPairs limits m file pairs
    loads_pairs m lent file pairs reads =
        let facts = facts_of_read limits file pairs reads in
        let outcome = loading_of_taken m lent file pairs reads in
        let (sound, none_held) = laid_out_empty m lent in
        let inserted =
        all_inserted limits deepest facts.so (laid_out m) sound
        (λ x up. rw none_held (linked_end (below_is_before (none_below_held x))))
        (rw none_held (omega (arith, facts.few))) in
        record {
          count = rw outcome;
          sound = rw outcome inserted.sound;
          map = rw outcome (inserted.map ∙ rw none_held);
          inserts = inserted.accepts;
          agree = cost_rule limits deepest m.table m.store lent.words lent.bytes (inserts_of pairs);
        }

    -- What is loaded from a file of bytes is sound, and its file is that file.
    file_of_loaded : (m : Memory) (file : List ℕ) (count : ℕ) → OfBytes file
        → (loading_of limits m file).answer ≡ loaded count
        → Sound limits (loading_of limits m file).memory × (file_in limits (loading_of limits m file).memory ≡ file)
    file_of_loaded m file count bytes says =
        let (lent, (pairs, reads)) = taken_when_loaded m file count says in
        let loads = loads_pairs m lent file pairs reads in
        (loads.sound, ap file_of loads.map ∙ (facts_of_read limits file pairs reads).own bytes)

-- Loads of saved files are so.
pub loads_files : (limits : Limits) → Deepest limits.slots limits.depth → LoadsFiles limits
loads_files limits deepest = record {
  own = λ file pairs bytes reads. (facts_of_read limits file pairs reads).own bytes;
  loads = loads_pairs limits deepest;
  taken = taken_when_loaded limits;
  saved_taken = saved_file_taken limits deepest;
  saved_again = λ m file count bytes says output room.
      let again = file_of_loaded limits deepest m file count bytes says in
      rw again.1 at
      (saving_with_room limits (loading_of limits m file).memory again.0 output (rw again.1 room));
  apart = λ m n file other count others of_file of_other says also same.
      sym (file_of_loaded limits deepest m file count of_file says).1
      ∙ ap (file_in limits) same
      ∙ (file_of_loaded limits deepest n other others of_other also).1;
}
