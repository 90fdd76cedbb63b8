-- The outcome of a save, by the tests that come first.
-- `saving_refused`, `saving_passed`: its answer and output.
-- `saving_short`, `saving_done`: what it then gives and leaves.
use mathlib.Core.List.{List}
use mathlib.Core.Path.{◌≡◌, refl, ◌∙◌}
use Prim.Native.Nat.{ℕ, ◌≤◌, ◌<◌}
use native.Mathlib.Nat.{zero-add}
use native.Mathlib.Omega.{arith}
use lib.ListN.{length}
use borrow.Author.Tests.{lt-ltb, le-ltb}
use Rattle.std.specs.Prelude.{Result, Ok, Err}
use Rattle.types.specs.declared.Limits.{Limits}
use Rattle.types.specs.declared.Refusal.{Refusal}
use Rattle.types.specs.Answers.{refusal_number}
use Rattle.types.specs.SaveReplies.{SaveReply, saved, refused}
use Rattle.tables.specs.Outcomes.{pass}
use Rattle.lengths.specs.Tests.{test_says}
use Rattle.words.specs.Limits.{LimitsFit}
use Rattle.words.specs.Filled.{Filled}
use Rattle.words.proofs.Fills.{sets_from_start}
use Rattle.lengths.proofs.FirstLines.{lines_refused, lines_passed}
use Rattle.verdicts.specs.Verdicts.{of_whole}
use Rattle.verdicts.proofs.WholeTests.{whole_decides, whole_passed}
use Rattle.files.specs.Saves.{of_output, file_in, save_outcome, Saves}
use Rattle.saves.specs.Saved.{file_from, saving_ready}
use Rattle.saves.proofs.SoundSaves.{file_of_sound}

-- what the tests of a whole table decide of a save
module _ (limits : Limits) (table store : List ℕ) (tested : Result Unit Refusal)
    (says : test_says tested ≡ of_whole limits table store pass) where
  module _ (output : List ℕ) where
    pub saving_refused : (r : Refusal) → tested ≡ Err r
        → Saves (save_outcome limits table store output) (refused (refusal_number r)) output
    unfolding save_outcome
    saving_refused r e =
        let file = file_in limits (record { table = table; store = store }) in
        let decides = whole_decides limits table store in
        rw (lines_refused (of_whole limits table store) decides tested says r e (of_output file output pass))
        (record { answer = refl; output = refl })

  module _ (fit : LimitsFit limits) (e : tested ≡ Ok tt) where
    pub saving_passed : (output after : List ℕ) (a : SaveReply) → Saves (saving_ready limits table store output) a after
        → Saves (save_outcome limits table store output) a after
    unfolding save_outcome
    saving_passed output after a saves =
        let file = file_in limits (record { table = table; store = store }) in
        let decides = whole_decides limits table store in
        rw (
          lines_passed (of_whole limits table store) decides tested says e (of_output file output pass),
          ← (file_of_sound limits table store (whole_passed limits table store tested says fit e).1),
        )
        saves

-- what a save gives and leaves past these tests
module _ (limits : Limits) (table store output : List ℕ) (size : ℕ)
    (is_size : size ≡ length (file_from limits table store)) where
  pub saving_short : length output < size → Saves (saving_ready limits table store output) (refused 17) output
  saving_short short =
      let less : length output < length (file_from limits table store) = omega arith in
      record { answer = rw (lt-ltb _ _ less); output = rw (lt-ltb _ _ less) }

  pub saving_done : (after : List ℕ) (end : ℕ) → size ≤ length output
      → Filled (file_from limits table store) output 0 after end
      → Saves (saving_ready limits table store output) (saved end) after
  saving_done after end fits filled =
      let room : length (file_from limits table store) ≤ length output = omega arith in
      let count : end ≡ length (file_from limits table store) = filled.end ∙ zero-add _ in
      record {
        answer = rw (le-ltb _ _ room, count);
        output = rw (le-ltb _ _ room) (filled.list ∙ sets_from_start output (file_from limits table store) room);
      }
