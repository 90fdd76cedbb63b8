-- A load, by what is read of its file.
-- `count_broken`, `file_refused`, `file_loaded`: what it gives and leaves. `cleared_ready`: a cleared table is ready.
-- `load_ready`, `load_refused`, `load_passed`: what the tests of lent memory decide of it.
use mathlib.Core.Bool.{Bool, true, false}
use mathlib.Core.List.{List, [], ◌∷◌}
use mathlib.Core.Path.{◌≡◌, refl, sym, ap, ◌∙◌}
use Prim.Native.Nat.{ℕ, zero, suc}
use lib.ListN.{length, drop, replicate}
use Rattle.std.specs.Prelude.{Option, Some, None, Result, Ok, Err}
use Rattle.std.specs.Option.{ok_or}
use Rattle.types.specs.declared.Limits.{Limits}
use Rattle.types.specs.declared.Refusal.{Refusal}
use Rattle.types.specs.declared.Refusal.TheVariants.{BrokenFile}
use Rattle.types.specs.Answers.{refusal_number}
use Rattle.types.specs.LoadReplies.{LoadReply, loaded, refused}
use Rattle.labels.specs.Labels.{Label, compare_labels}
use Rattle.labels.proofs.Clashes.{clash}
use Rattle.trees.specs.Map.{Pair}
use Rattle.trees.specs.Plain.{Call, insert}
use Rattle.trees.specs.Valid.{is_smaller}
use Rattle.tables.specs.Written.{Memory, lent}
use Rattle.tables.specs.Outcomes.{pass, of_memory, layout_outcome}
use Rattle.tables.specs.Claims.{after_list}
use Rattle.lengths.specs.Tests.{test_says}
use Rattle.lengths.proofs.FirstLines.{memory_refused, memory_passed, sizes_fit}
use Rattle.files.specs.FileReads.{EntryRead, no_entry, entry, FileRead, refused_by, holds, with_pair, filed, entry_then}
use Rattle.files.specs.FileReads.{at_end, take_number, take_entry, take_entries, count_then, read_file}
use Rattle.files.specs.Loads.{inserts_of, loading_by, load_outcome, Loads}
use Rattle.demands.proofs.Outcomes.{memory_passes}
use Rattle.demands.proofs.SoundAfter.{sound_after}
use Rattle.scans.specs.declared.Number.{Number}
use Rattle.scans.specs.Scanned.{number_says, verdict_of}
use Rattle.endings.specs.Ready.{EditsFit, InsertsReady}
use Rattle.loads.specs.Inserted.{call_then, calls_in, Leaves, LoadReady}

-- entries that are taken are as many, and their inserts those of the pairs
record Inserts (limits : Limits) (count : ℕ) (text : List ℕ) (pairs : List Pair) : Type 0 where
  many : length pairs ≡ count
  calls : calls_in limits count text ≡ inserts_of pairs

-- So it is at the end,
at_end_lem : (limits : Limits) (text : List ℕ) (pairs : List Pair) → at_end text ≡ holds pairs → Inserts limits 0 text pairs
unfolding calls_in
at_end_lem limits [] [] taken = record { many = refl; calls = refl }
at_end_lem limits [] (p ∷ pairs) taken = clash cc
at_end_lem limits (byte ∷ text) pairs taken = clash cc

-- and with one entry more.
with_entry : (limits : Limits) (count : ℕ) (text : List ℕ) (read : EntryRead) (before : Label) (pairs : List Pair)
    → take_entry limits text ≡ read
    → ((x : Label) (rest : List ℕ) (more : List Pair) → take_entries limits count x rest ≡ holds more
    → Inserts limits count rest more)
    → entry_then read before (λ x rest. take_entries limits count x rest) ≡ holds pairs
    → Inserts limits (suc count) text pairs
unfolding calls_in
with_entry limits count text no_entry before pairs is later taken = clash cc
with_entry limits count text (entry x value rest) before pairs is later taken =
    by_order (is_smaller (compare_labels before x)) (take_entries limits count x rest) refl taken
  where
    by_order : (b : Bool) (r : FileRead) → take_entries limits count x rest ≡ r
        → elim b [ true ↦ with_pair (filed x value) r | false ↦ refused_by 19 ] ≡ holds pairs
        → Inserts limits (suc count) text pairs
    by_order false r reads held = clash cc
    by_order true (refused_by why) reads held = clash cc
    by_order true (holds more) reads held =
        let whole : filed x value ∷ more ≡ pairs = cc in
        let those = later x rest more reads in
        rw (← whole)
        (record {
          many = ap suc those.many;
          calls =
              ap (λ (r : EntryRead). call_then r (λ rest. calls_in limits count rest)) is
              ∙ ap (λ (l : List Call). insert x value ∷ l) those.calls;
        })

inserts_of_lem : (limits : Limits) (count : ℕ) (before : Label) (text : List ℕ) (pairs : List Pair)
    → take_entries limits count before text ≡ holds pairs → Inserts limits count text pairs
unfolding take_entries
inserts_of_lem limits zero before text pairs taken = at_end_lem limits text pairs taken
inserts_of_lem limits (suc count) before text pairs taken =
    with_entry limits count text (take_entry limits text) before pairs refl
    (λ x rest more. inserts_of_lem limits count x rest more) taken

-- ---- a cleared table

module _ (limits : Limits) (table store : List ℕ) (ready : LoadReady limits table store)
    (cleared_words cleared_bytes : List ℕ) (no_word : cleared_words ≡ replicate (length table) 0)
    (no_byte : cleared_bytes ≡ replicate (length store) 0) where
  -- A cleared table is what layout leaves.
  cleared : (layout_outcome limits table store).memory ≡ lent cleared_words cleared_bytes
  unfolding layout_outcome
  cleared = rw (memory_passes limits table store ready.words ready.bytes, no_word, no_byte)

  -- It is ready for inserts.
  pub cleared_ready : InsertsReady limits cleared_words cleared_bytes
  cleared_ready =
      record {
        limits_fit = ready.limits_fit;
        sound =
            rw cleared at
            (sound_after limits ready.limits_fit.deepest table store ready.words ready.bytes []);
      }

-- ---- a file that is read

-- what a refused load gives and leaves
abbrev Stays : Limits → (table store : List ℕ) → FileRead → ℕ → Type 0
Stays limits table store read number = Loads (loading_by limits (lent table store) read) (refused number) table store

module _ (limits : Limits) (table store file : List ℕ) (number : Option Number)
    (says : number_says file number ≡ take_number 0 limits.slots (drop 0 file)) where
  -- What is read, by the number of labels.
  by_count : (n : Option Number) → number ≡ n → read_file limits file ≡ count_then limits (number_says file n)
  unfolding read_file
  by_count n is = ap (count_then limits) (sym says ∙ ap (number_says file) is)

  -- Without that number a file is refused by 18.
  pub count_broken : (tested : Result Number Refusal) (r : Refusal) → tested ≡ ok_or number BrokenFile
      → tested ≡ Err r → Stays limits table store (read_file limits file) (refusal_number r)
  count_broken tested r is fails = go number refl (sym is ∙ fails)
    where
      go : (found : Option Number) → number ≡ found → ok_or found BrokenFile ≡ Err r
          → Stays limits table store (read_file limits file) (refusal_number r)
      go None none same =
          let broken : r ≡ BrokenFile = cc in
          rw (broken, by_count None none) (record { answer = refl; table = refl; store = refl })
      go (Some n) one same = clash cc

  module _ (size : Number) (is : number ≡ Some size) (tested : Result Unit Refusal)
      (scanned : test_says tested ≡ verdict_of (take_entries limits size.n [] (drop size.next file))) where
    -- A file whose labels are refused is refused by that number.
    pub file_refused : (r : Refusal) → tested ≡ Err r
        → Stays limits table store (read_file limits file) (refusal_number r)
    file_refused r refuses =
        rw (by_count (Some size) is)
        (go (take_entries limits size.n [] (drop size.next file)) (sym (ap test_says refuses) ∙ scanned))
      where
        go : (read : FileRead) → test_says (Err r) ≡ verdict_of read
            → Stays limits table store read (refusal_number r)
        go (refused_by why) same =
            let number_is : refusal_number r ≡ why = cc in
            rw number_is (record { answer = refl; table = refl; store = refl })
        go (holds pairs) same = clash cc

    -- Any other file is loaded: its labels are inserted.
    pub file_loaded : tested ≡ Ok tt → LoadReady limits table store → (cleared_words cleared_bytes : List ℕ)
        → cleared_words ≡ replicate (length table) 0 → cleared_bytes ≡ replicate (length store) 0
        → (words bytes : List ℕ)
        → Leaves (after_list limits (calls_in limits size.n (drop size.next file)) (lent cleared_words cleared_bytes)) words
        bytes
        → Loads (loading_by limits (lent table store) (read_file limits file)) (loaded size.n) words bytes
    file_loaded passes ready cleared_words cleared_bytes no_word no_byte words bytes leaves =
        rw (by_count (Some size) is)
        (go (take_entries limits size.n [] (drop size.next file)) refl (sym (ap test_says passes) ∙ scanned))
      where
        go : (read : FileRead) → take_entries limits size.n [] (drop size.next file) ≡ read → pass ≡ verdict_of read
            → Loads (loading_by limits (lent table store) read) (loaded size.n) words bytes
        go (refused_by why) reads same = clash cc
        go (holds pairs) reads same =
            let those = inserts_of_lem limits size.n [] (drop size.next file) pairs reads in
            let left : after_list limits (calls_in limits size.n (drop size.next file)) (lent cleared_words cleared_bytes)
            ≡ after_list limits (inserts_of pairs) (layout_outcome limits table store).memory =
            rw (
              those.calls,
              cleared limits table store ready cleared_words cleared_bytes no_word no_byte,
            ) in
            record {
              answer = ap loaded (sym those.many);
              table = leaves.table ∙ ap (λ (m : Memory). m.table) left;
              store = leaves.store ∙ ap (λ (m : Memory). m.store) left;
            }

-- ---- the tests of lent memory

module _ (limits : Limits) (table store file : List ℕ) (tested : Result Unit Refusal)
    (says : test_says tested ≡ of_memory limits table store pass) where
  pub load_refused : (r : Refusal) → tested ≡ Err r
      → Loads (load_outcome limits table store file) (refused (refusal_number r)) table store
  unfolding load_outcome
  load_refused r refuses =
      rw (memory_refused limits table store tested says r refuses pass)
      (record { answer = refl; table = refl; store = refl })

  module _ (passes : tested ≡ Ok tt) where
    pub load_passed : (a : LoadReply) (words bytes : List ℕ)
        → Loads (loading_by limits (lent table store) (read_file limits file)) a words bytes
        → Loads (load_outcome limits table store file) a words bytes
    unfolding load_outcome
    load_passed a words bytes loads = rw (memory_passed limits table store tested says passes pass) loads

    pub load_ready : EditsFit limits → LoadReady limits table store
    load_ready fits =
        let sizes = sizes_fit limits table store tested says fits.fit passes in
        record { limits_fit = fits; words = sizes.words; bytes = sizes.bytes }
