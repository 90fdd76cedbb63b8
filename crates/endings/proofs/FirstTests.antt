-- What the tests before an update decide of it.
-- `refused_by`, `refused_insert`, `refused_delete`: a refused call.
-- `ready`: past the tests the memory is sound and the label fits.
use mathlib.Core.List.{List}
use mathlib.Core.Bool.{not}
use mathlib.Core.Path.{◌≡◌, refl, sym, ap, ◌∙◌}
use Prim.Native.Nat.{ℕ}
use borrow.Author.Tests.{not-false}
use Rattle.std.specs.Prelude.{Result, Ok, Err}
use Rattle.types.specs.declared.Limits.{Limits}
use Rattle.types.specs.declared.Refusal.{Refusal}
use Rattle.types.specs.Answers.{refused, refusal_number}
use Rattle.labels.specs.Labels.{Label}
use Rattle.tables.specs.Sound.{sound}
use Rattle.tables.specs.Outcomes.{Verdict, pass, refuse, of_label, of_table, Outcome, outcome_by}
use Rattle.tables.specs.Outcomes.{update_outcome, insert_outcome, delete_outcome}
use Rattle.tables.specs.Given.{Gives}
use Rattle.lengths.specs.Tests.{test_says}
use Rattle.lengths.proofs.FirstLines.{line_passed, sizes_passed, label_passed}
use Rattle.verdicts.specs.Verdicts.{update_verdict}
use Rattle.endings.specs.Ready.{EditsFit, Ready}

module _ (limits : Limits) (table store : List ℕ) where
  -- An update that its first tests refuse gives the number, and leaves all lent memory.
  pub refused_by : (verdict : Verdict) (settled : Outcome) (number : ℕ) → refuse number ≡ verdict
      → Gives (outcome_by verdict (record { table = table; store = store }) settled) (refused number) table store
  refused_by verdict settled number first = rw (← first) (record { answer = refl; table = refl; store = refl })

  pub refused_insert : (x : Label) (value : ℕ) (early : Result Unit Refusal) (r : Refusal)
      → test_says early ≡ update_verdict limits table store x → early ≡ Err r
      → Gives (insert_outcome limits table store x value) (refused (refusal_number r)) table store
  unfolding insert_outcome update_outcome update_verdict
  refused_insert x value early r first refuses =
      refused_by _ _ (refusal_number r) (sym (ap test_says refuses) ∙ first)

  pub refused_delete : (x : Label) (early : Result Unit Refusal) (r : Refusal)
      → test_says early ≡ update_verdict limits table store x → early ≡ Err r
      → Gives (delete_outcome limits table store x) (refused (refusal_number r)) table store
  unfolding delete_outcome update_outcome update_verdict
  refused_delete x early r first refuses =
      refused_by _ _ (refusal_number r) (sym (ap test_says refuses) ∙ first)

-- Past the tests the memory is sound and the label fits.
pub ready : (limits : Limits) (table store : List ℕ) (x : Label) → EditsFit limits → (early : Result Unit Refusal)
    → test_says early ≡ update_verdict limits table store x → early ≡ Ok tt → Ready limits table store x
unfolding update_verdict
ready limits table store x fits early says e =
    let whole = of_table limits table store pass in
    let sizes = sizes_passed limits table store (of_label limits x whole) fits.fit (sym (ap test_says e) ∙ says) in
    let label = label_passed limits x whole sizes.1 in
    let so = (line_passed (not (sound limits table store)) 6 pass label.1).0 in
    record {
      limits_fit = fits;
      sound = record { words = sizes.0.words; bytes = sizes.0.bytes; so = not-false _ so };
      label = label.0;
    }
