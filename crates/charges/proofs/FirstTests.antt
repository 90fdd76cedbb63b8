-- The tests before a charge is set.
-- `refused_charge`: a refused call. `charge_ready`: past the tests the memory is sound, the label fits, the charge is
-- one.
use mathlib.Core.List.{List}
use mathlib.Core.Bool.{true, not}
use mathlib.Core.Path.{◌≡◌, sym, ap, ◌∙◌}
use Prim.Native.Nat.{ℕ}
use borrow.Author.Tests.{not-false}
use Rattle.std.specs.Prelude.{Result, Ok, Err}
use Rattle.types.specs.declared.Limits.{Limits}
use Rattle.types.specs.declared.Refusal.{Refusal}
use Rattle.types.specs.Answers.{refused, refusal_number}
use Rattle.labels.specs.Labels.{Label}
use Rattle.trees.specs.Charges.{is_charge}
use Rattle.trees.specs.Plain as plain
use Rattle.tables.specs.Sound.{sound}
use Rattle.tables.specs.Outcomes.{pass, of_label, of_charge, of_table, update_outcome}
use Rattle.tables.specs.Outcomes.{charge_outcome}
use Rattle.tables.specs.Given.{Gives}
use Rattle.lengths.specs.Tests.{test_says}
use Rattle.lengths.proofs.FirstLines.{line_passed, sizes_passed, label_passed}
use Rattle.endings.specs.Ready.{EditsFit, Ready}
use Rattle.endings.proofs.FirstTests.{refused_by}
use Rattle.charges.specs.Verdicts.{charge_verdict}

module _ (limits : Limits) (table store : List ℕ) (x : Label) (charge : ℕ) where
  -- A refused call gives the number, and leaves all lent memory.
  pub refused_charge : (early : Result Unit Refusal) (r : Refusal) → test_says early ≡ charge_verdict limits table store x charge
      → early ≡ Err r → Gives (charge_outcome limits table store x charge) (refused (refusal_number r)) table store
  unfolding charge_outcome update_outcome charge_verdict
  refused_charge early r first refuses =
      refused_by limits table store _ _ (refusal_number r) (sym (ap test_says refuses) ∙ first)

  -- Past the tests the memory is sound, the label fits, and the charge is one.
  pub charge_ready : EditsFit limits → (early : Result Unit Refusal) → test_says early ≡ charge_verdict limits table store x charge
      → early ≡ Ok tt → Ready limits table store x × (is_charge charge ≡ true)
  unfolding charge_verdict
  charge_ready fits early says e =
      let whole = of_table limits table store pass in
      let lines = of_charge (plain.set_charge x charge) whole in
      let sizes = sizes_passed limits table store (of_label limits x lines) fits.fit (sym (ap test_says e) ∙ says) in
      let label = label_passed limits x lines sizes.1 in
      let right = line_passed (not (is_charge charge)) 24 whole label.1 in
      let so = (line_passed (not (sound limits table store)) 6 pass right.1).0 in (
        record {
          limits_fit = fits;
          sound = record { words = sizes.0.words; bytes = sizes.0.bytes; so = not-false _ so };
          label = label.0;
        },
        not-false _ right.0,
      )
