-- The tests of a whole table.
-- `whole_decides`: these tests refuse by a number, or leave the rest to later ones.
-- `whole_passed`: past them the table and the store have their sizes, and are sound.
-- `check_by`: what they say is the check's answer.
use mathlib.Core.List.{List}
use mathlib.Core.Bool.{true, not}
use mathlib.Core.Path.{◌≡◌, refl, sym, ap, ◌∙◌}
use Prim.Native.Nat.{ℕ}
use borrow.Author.Tests.{not-false}
use Rattle.std.specs.Prelude.{Result, Ok, Err}
use Rattle.types.specs.declared.Limits.{Limits}
use Rattle.types.specs.declared.Refusal.{Refusal}
use Rattle.types.specs.Answers.{done, done_says}
use Rattle.tables.specs.Sound.{sound}
use Rattle.tables.specs.Outcomes.{pass, line, of_memory, of_table, answer_by, check_outcome}
use Rattle.words.specs.Limits.{LimitsFit, SizesFit}
use Rattle.lengths.specs.Tests.{test_says}
use Rattle.lengths.proofs.FirstLines.{Decides, one_line, in_turn, memory_decides}
use Rattle.lengths.proofs.FirstLines.{line_passed, sizes_passed}
use Rattle.verdicts.specs.Verdicts.{of_whole}

module _ (limits : Limits) (table store : List ℕ) where
  pub whole_decides : Decides (of_whole limits table store)
  whole_decides =
      let unsound = not (sound limits table store) in
      in_turn (of_memory limits table store) (line unsound 6) (memory_decides limits table store) (one_line unsound 6)

  module _ (early : Result Unit Refusal) (says : test_says early ≡ of_whole limits table store pass) where
    -- past these tests the table and the store have their sizes, and are sound
    pub whole_passed : LimitsFit limits → early ≡ Ok tt → SizesFit limits table store × (sound limits table store ≡ true)
    whole_passed fit e =
        let below = of_table limits table store pass in
        let sizes = sizes_passed limits table store below fit (sym (ap test_says e) ∙ says) in
        (sizes.0, not-false _ (line_passed (not (sound limits table store)) 6 pass sizes.1).0)

-- what they say is the check's answer
pub check_by : (limits : Limits) (table store : List ℕ) (whole : Result Unit Refusal)
    → test_says whole ≡ of_whole limits table store pass → done_says whole ≡ check_outcome limits table store
unfolding check_outcome
check_by limits table store whole says = done_as whole ∙ ap (λ v. answer_by v done) says
  where
    done_as : (r : Result Unit Refusal) → done_says r ≡ answer_by (test_says r) done
    done_as (Ok _) = refl
    done_as (Err r) = refl
