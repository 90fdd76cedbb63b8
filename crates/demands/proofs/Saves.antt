-- Saved files of sound tables.
-- saves_map: a save with room writes the file of the map, one without is refused by 17; the file depends on the labels
-- and the values alone, so a charge set changes none.
-- saving_of_sound: on a sound table only the length of the output is left to test.
-- saving_with_room: with room the file is written in front of the output.
use mathlib.Core.Bool.{Bool, true, false}
use mathlib.Core.List.{List, ◌++◌}
use mathlib.Core.Path.{◌≡◌, refl, sym, ap, ◌∙◌}
use Prim.Native.Nat.{ℕ, ◌≤◌, ◌<◌}
use lib.Dec.{ltb, eqb}
use lib.ListN.{length, drop}
use lib.Seq.{take-append_seam, drop-append_seam}
use borrow.Author.Tests.{lt-ltb, le-ltb}
use Rattle.types.specs.declared.Limits.{Limits}
use Rattle.types.specs.SaveReplies.{saved, refused}
use Rattle.labels.specs.Labels.{Label}
use Rattle.trees.specs.Trees.{Tree}
use Rattle.trees.specs.Heights.{Deepest}
use Rattle.trees.specs.Searches.{Held, absent, found, full_search}
use Rattle.trees.specs.Plain.{State, set_charge, wrong_charge, after_charge, after_arguments, after_length, plain_step}
use Rattle.trees.specs.Map.{map_of}
use Rattle.trees.specs.Valid.{Valid, ascends}
use Rattle.trees.proofs.MapLaws.{keys_of_map, map_of_charged}
use Rattle.trees.proofs.ValidSteps.{valid_after}
use Rattle.tables.specs.Written.{Memory, written}
use Rattle.tables.specs.Sound.{sound}
use Rattle.tables.specs.Outcomes.{pass, Outcome}
use Rattle.tables.specs.Claims.{Sound, call_outcome}
use Rattle.tables.specs.MapClaims.{map_in, labels_in}
use Rattle.files.specs.Files.{file_of}
use Rattle.files.specs.Saves.{Saving, saving_by, of_output, save_outcome, file_in}
use Rattle.files.proofs.FileLaws.{file_alone, file_of_charging}
use Rattle.demands.specs.Saves.{saving_of, SavesFile, SavesMap}
use Rattle.demands.proofs.Outcomes.{memory_passes, update_outcome_lem}
use Rattle.demands.proofs.OnSound.{of_sound, sound_out, map_of_written}

-- what a save gives by the last test, with a file
abbrev saving_with : (output file : List ℕ) → Saving
saving_with output file = saving_by (of_output file output pass) output file

module _ (limits : Limits) where
  -- On a sound table only the length of the output is left to test.
  pub saving_of_sound : (m : Memory) → Sound limits m → (output : List ℕ)
      → saving_of limits m output ≡ saving_with output (file_in limits m)
  unfolding save_outcome
  saving_of_sound m sound output =
      rw (memory_passes limits m.table m.store sound.words sound.bytes, sound.so)

  -- Sound tables with one file give and leave the same.
  saving_by_file : (m n : Memory) → Sound limits m → Sound limits n → file_in limits m ≡ file_in limits n
      → (output : List ℕ) → saving_of limits m output ≡ saving_of limits n output
  saving_by_file m n of_m of_n same output =
      saving_of_sound m of_m output ∙ ap (saving_with output) same ∙ sym (saving_of_sound n of_n output)

  module _ (m : Memory) (sound : Sound limits m) (output : List ℕ) where
    -- With room the file is written in front of the output.
    pub saving_with_room : length (file_in limits m) ≤ length output
        → saving_of limits m output
        ≡ record {
          answer = saved (length (file_in limits m));
          output = file_in limits m ++ drop (length (file_in limits m)) output;
        }
    saving_with_room room =
        saving_of_sound m sound output ∙ rw (le-ltb (length output) (length (file_in limits m)) room)

    -- Without room it is refused by 17.
    saving_short : length output < length (file_in limits m)
        → saving_of limits m output ≡ record { answer = refused 17; output = output }
    saving_short short =
        saving_of_sound m sound output ∙ rw (lt-ltb (length output) (length (file_in limits m)) short)

-- ---- a charge set

-- the file of the map that a tree holds
abbrev file_held : Tree → List ℕ
file_held t = file_of (map_of t)

module _ (limits : Limits) (deepest : Deepest limits.slots limits.depth)
    (s : State) (valid : Valid limits.slots limits.width s) (x : Label) (n : ℕ) where
  -- Whether the label is held or not, a tree with the same file is left.
  file_by_found : (h : Held) → file_held (after_charge h x n s).state.tree ≡ file_held s.tree
  file_by_found absent = refl
  file_by_found (found e) =
      ap file_of (map_of_charged s.tree valid.ascending x n) ∙ file_of_charging x n (map_of s.tree)

  -- So it is whether the charge is wrong or not.
  file_by_charge : (wrong : Bool)
      → file_held (after_arguments wrong limits.slots (set_charge x n) s).state.tree ≡ file_held s.tree
  file_by_charge true = refl
  file_by_charge false = file_by_found (full_search x s.tree).result

  -- So it is whether the label fits or not.
  file_by_length : (empty long : Bool)
      → file_held (after_length empty long limits.slots (set_charge x n) s).state.tree ≡ file_held s.tree
  file_by_length true long = refl
  file_by_length false true = refl
  file_by_length false false = file_by_charge (wrong_charge (set_charge x n))

  -- So a save gives and leaves the same.
  uncharged_out : (output : List ℕ)
      → saving_of limits (call_outcome limits (set_charge x n) (written limits s)).memory output
      ≡ saving_of limits (written limits s) output
  uncharged_out output =
      let after = (plain_step limits.slots limits.width (set_charge x n) s).state in
      let valid_then = valid_after limits.slots limits.width s valid (set_charge x n) in
      ap (λ (o : Outcome). saving_of limits o.memory output) (update_outcome_lem limits s deepest valid (set_charge x n))
      ∙ saving_by_file limits (written limits after) (written limits s) (sound_out limits deepest after valid_then)
      (sound_out limits deepest s valid)
      (ap file_of (map_of_written limits deepest after valid_then)
      ∙ file_by_length (eqb (length x) 0) (ltb limits.width (length x))
      ∙ sym (ap file_of (map_of_written limits deepest s valid))) output

-- ---- sound tables

module _ (limits : Limits) (deepest : Deepest limits.slots limits.depth) where
  -- A save with room writes the file.
  saves_file : (m : Memory) → Sound limits m → (output : List ℕ) → length (file_in limits m) ≤ length output
      → SavesFile limits m output
  saves_file m sound output room =
      let file = file_in limits m in
      let outcome = saving_with_room limits m sound output room in
      record {
        count = rw outcome;
        bytes = rw outcome (take-append_seam file (drop (length file) output));
        later = rw outcome (drop-append_seam file (drop (length file) output));
        ascending =
            of_sound limits deepest (λ m. ascends (labels_in limits m) ≡ true)
            (λ s valid. rw (map_of_written limits deepest s valid, keys_of_map) valid.ascending) m sound;
      }

  -- On every sound table saves are so.
  pub saves_map : SavesMap limits
  saves_map = record {
    saves = saves_file;
    short = saving_short limits;
    alone = λ m n of_m of_n labels values.
        saving_by_file limits m n of_m of_n (file_alone (map_in limits m) (map_in limits n) labels values);
    uncharged = λ m sound x n output.
        of_sound limits deepest
        (λ m. saving_of limits (call_outcome limits (set_charge x n) m).memory output ≡ saving_of limits m output)
        (λ s valid. uncharged_out limits deepest s valid x n output) m sound;
  }
