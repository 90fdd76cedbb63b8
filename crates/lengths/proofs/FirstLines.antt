-- What the first tests of a call say of the lines of the table of refusals below them.
-- `no_pass`: a refusal is no pass. `line_passed`: where the lines pass, the first one's test failed.
-- `Decides`: lines pass or refuse, whatever stands below them. `one_line`, `in_turn`, `memory_decides`: so do all.
-- `lines_refused`, `lines_passed`: what was said of lines where nothing stands below them.
-- `memory_refused`, `memory_passed`: a refusal by a lent length is the call's; past it the lines below decide.
-- `sizes_passed`, `sizes_fit`, `label_passed`: past them the table and the store have their sizes, and the label fits.
-- `label_empty`, `label_long`, `label_taken`: what is said where a label is tested besides.
-- `lengths_refused`, `lengths_passed`, `lengths_fit_lem`: the same of both.
use mathlib.Core.List.{List}
use mathlib.Core.Bool.{Bool, true, false, not}
use mathlib.Core.Path.{◌≡◌, refl, sym, ap, ◌∙◌}
use Prim.Native.Nat.{ℕ, ◌≤◌, ◌<◌}
use native.Mathlib.Omega.{arith}
use lib.Dec.{eqb, ltb}
use lib.ListN.{length}
use borrow.Author.Tests.{not-false, eqb-true, eqb-false, ltb-false, eq-eqb, ne_eqb, lt-ltb, le-ltb}
use Rattle.std.specs.Prelude.{Result, Ok, Err}
use Rattle.types.specs.declared.Limits.{Limits}
use Rattle.types.specs.declared.Refusal.{Refusal}
use Rattle.types.specs.Sizes.{table_length, store_length}
use Rattle.types.specs.Answers.{refusal_number}
use Rattle.labels.specs.Labels.{Label}
use Rattle.labels.proofs.Clashes.{clash}
use Rattle.tables.specs.Outcomes.{Verdict, pass, refuse, line, of_memory, of_label}
use Rattle.tables.specs.Claims.{LabelFits}
use Rattle.words.specs.Limits.{LimitsFit, SizesFit}
use Rattle.lengths.specs.Tests.{test_says}

-- a refusal is no pass
pub no_pass : {A : Type 0} (number : ℕ) → pass ≡ refuse number → A
no_pass number same = clash cc

-- where a line and those below it pass, its test failed
pub line_passed : (test : Bool) (number : ℕ) (below : Verdict) → pass ≡ line test number below
    → (test ≡ false) × (pass ≡ below)
line_passed true number below e = no_pass number e
line_passed false number below e = (refl, e)

-- lines of the table of refusals pass, or refuse by one number, whatever stands below them
pub data Decides (lines : Verdict → Verdict) : Type 0 where
  passes : ((below : Verdict) → lines below ≡ below) → Decides lines
  refuses : (number : ℕ) → ((below : Verdict) → lines below ≡ refuse number) → Decides lines

pub one_line : (test : Bool) (number : ℕ) → Decides (line test number)
one_line true number = refuses number (λ below. refl)
one_line false number = passes (λ below. refl)

pub in_turn : (first second : Verdict → Verdict) → Decides first → Decides second
    → Decides (λ below. first (second below))
in_turn first second (passes p) (passes q) = passes (λ below. p (second below) ∙ q below)
in_turn first second (passes p) (refuses n q) = refuses n (λ below. p (second below) ∙ q below)
in_turn first second (refuses n p) later = refuses n (λ below. p (second below))

-- what was said of lines where nothing stands below them holds of all that stands there
module _ (lines : Verdict → Verdict) (decides : Decides lines) (tested : Result Unit Refusal)
    (says : test_says tested ≡ lines pass) where
  pub lines_refused : (r : Refusal) → tested ≡ Err r → (below : Verdict) → lines below ≡ refuse (refusal_number r)
  lines_refused r e below = go decides (sym (ap test_says e) ∙ says)
    where
      go : Decides lines → refuse (refusal_number r) ≡ lines pass → lines below ≡ refuse (refusal_number r)
      go (passes p) same = no_pass (refusal_number r) (sym (same ∙ p pass))
      go (refuses n p) same = p below ∙ sym (same ∙ p pass)

  pub lines_passed : tested ≡ Ok tt → (below : Verdict) → lines below ≡ below
  lines_passed e below = go decides (sym (ap test_says e) ∙ says)
    where
      go : Decides lines → pass ≡ lines pass → lines below ≡ below
      go (passes p) same = p below
      go (refuses n p) same = no_pass n (same ∙ p pass)

-- where the lines of a label pass, it fits
pub label_passed : (limits : Limits) (x : Label) (below : Verdict) → pass ≡ of_label limits x below
    → LabelFits limits x × (pass ≡ below)
label_passed limits x below e =
    let some = line_passed (eqb (length x) 0) 3 _ e in
    let short = line_passed (ltb limits.width (length x)) 4 below some.1 in
    let unlike = eqb-false (length x) 0 some.0 in
    (record { some = omega arith; short = ltb-false _ _ short.0 }, short.1)

module _ (limits : Limits) (table store : List ℕ) where
  pub memory_decides : Decides (of_memory limits table store)
  memory_decides =
      let words = not (eqb (length table) (table_length limits)) in
      let bytes = not (eqb (length store) (store_length limits)) in
      in_turn (line words 1) (line bytes 2) (one_line words 1) (one_line bytes 2)

  -- where the lines of lent memory pass, the table and the store have their sizes
  pub sizes_passed : (below : Verdict) → LimitsFit limits → pass ≡ of_memory limits table store below
      → SizesFit limits table store × (pass ≡ below)
  sizes_passed below fit e =
      let words = line_passed (not (eqb (length table) (table_length limits))) 1 _ e in
      let bytes = line_passed (not (eqb (length store) (store_length limits))) 2 below words.1 in (
        record {
          fit = fit;
          words = eqb-true _ _ (not-false _ words.0);
          bytes = eqb-true _ _ (not-false _ bytes.0);
        },
        bytes.1,
      )

  module _ (tested : Result Unit Refusal) (says : test_says tested ≡ of_memory limits table store pass) where
    -- a refusal by a lent length is the whole call's
    pub memory_refused : (r : Refusal) → tested ≡ Err r → (below : Verdict)
        → of_memory limits table store below ≡ refuse (refusal_number r)
    memory_refused = lines_refused (of_memory limits table store) memory_decides tested says

    -- past them the lines below decide
    pub memory_passed : tested ≡ Ok tt → (below : Verdict) → of_memory limits table store below ≡ below
    memory_passed = lines_passed (of_memory limits table store) memory_decides tested says

    -- past them the table and the store have their sizes
    pub sizes_fit : LimitsFit limits → tested ≡ Ok tt → SizesFit limits table store
    sizes_fit fit e = (sizes_passed pass fit (sym (ap test_says e) ∙ says)).0

    -- a label is tested past them
    module _ (x : Label) (passed : tested ≡ Ok tt) where
      pub label_empty : length x ≡ 0 → refuse 3 ≡ of_memory limits table store (of_label limits x pass)
      label_empty none = rw (memory_passed passed (of_label limits x pass), eq-eqb _ _ none)

      pub label_long : (length x ≡ 0 → ⊥) → limits.width < length x
          → refuse 4 ≡ of_memory limits table store (of_label limits x pass)
      label_long some long = rw (memory_passed passed (of_label limits x pass), ne_eqb _ _ some, lt-ltb _ _ long)

      pub label_taken : (length x ≡ 0 → ⊥) → length x ≤ limits.width
          → pass ≡ of_memory limits table store (of_label limits x pass)
      label_taken some short = rw (memory_passed passed (of_label limits x pass), ne_eqb _ _ some, le-ltb _ _ short)

  module _ (x : Label) where
    abbrev lengths_before : Verdict → Verdict
    lengths_before below = of_memory limits table store (of_label limits x below)

    lengths_decide : Decides lengths_before
    lengths_decide =
        let empty = eqb (length x) 0 in
        let long = ltb limits.width (length x) in
        in_turn (of_memory limits table store) (of_label limits x) memory_decides
        (in_turn (line empty 3) (line long 4) (one_line empty 3) (one_line long 4))

    module _ (tested : Result Unit Refusal) (says : test_says tested ≡ lengths_before pass) where
      -- a refusal by a length is the whole call's
      pub lengths_refused : (r : Refusal) → tested ≡ Err r → (below : Verdict)
          → lengths_before below ≡ refuse (refusal_number r)
      lengths_refused = lines_refused lengths_before lengths_decide tested says

      -- past them the lines below decide
      pub lengths_passed : tested ≡ Ok tt → (below : Verdict) → lengths_before below ≡ below
      lengths_passed = lines_passed lengths_before lengths_decide tested says

      -- past them the table and the store have their sizes
      pub lengths_fit_lem : LimitsFit limits → tested ≡ Ok tt → SizesFit limits table store
      lengths_fit_lem fit e = (sizes_passed (of_label limits x pass) fit (sym (ap test_says e) ∙ says)).0
