-- What is read of a text prints what the whole text prints: `prints_read`.
use mathlib.Core.Path.{◌≡◌, refl, ap}
use mathlib.Core.Bool.{Bool, true, false, not}
use mathlib.Core.List.{List}
use Prim.Native.Nat.{ℕ, ◌<◌}
use native.Mathlib.Omega.{arith}
use borrow.Author.Tests.{lt-ltb, ltb-true, ltb-false}
use lib.Dec.{eqb, ltb}
use lib.ListN.{length, take, length-take}
use Rattle.std.proofs.Common.{take_all}
use Rattle.std.specs.Prelude.{None, Some, Ok, Err, OnOk, IfSome}
use Rattle.std.specs.declared.result.Result.{Result}
use Rattle.std.specs.declared.option.Option.{Option}
use Rattle.std.specs.Io.KnownBytes.{Appends}
use Rattle.types.specs.Sizes.{hub, table_length, store_length}
use Rattle.tables.specs.Written.{Memory, lent}
use Rattle.tables.specs.Outcomes.{refuse, line}
use Rattle.rfc4180.specs.Rosters.{RosterOutcome, longest_text, roster_by, roster_outcome}
use Rattle.inputs.specs.Inputs.{fresh}
use Rattle.printouts.specs.Printouts.{printed_for, printout}
use Rattle.printing.specs.Pipes.{PrintsAll}

-- a text that is too long is refused, whatever its records say
refused_alike : (words bytes : Bool) (m : Memory) (o p : RosterOutcome)
    → roster_by (line words 1 (line bytes 2 (refuse 12))) m o ≡ roster_by (line words 1 (line bytes 2 (refuse 12))) m p
refused_alike true bytes m o p = refl
refused_alike false true m o p = refl
refused_alike false false m o p = refl

module _ (table store text : List ℕ) (long : longest_text < length text) where
  long_opening : longest_text < length (take 16385 text)
  long_opening = simp length-take (omega arith)

  outcomes_alike : roster_outcome hub table store (take 16385 text) ≡ roster_outcome hub table store text
  unfolding roster_outcome
  outcomes_alike =
      rw (lt-ltb longest_text (length (take 16385 text)) long_opening, lt-ltb longest_text (length text) long)
      (refused_alike (not (eqb (length table) (table_length hub))) (not (eqb (length store) (store_length hub)))
      (lent table store) _ _)

-- a text and its opening that is one byte longer than the longest have the same printout
opening_prints : (text : List ℕ) → printout (take 16385 text) ≡ printout text
unfolding printout
opening_prints text = by_test (ltb longest_text (length text)) refl
  where
    by_test : (test : Bool) → ltb longest_text (length text) ≡ test → printout (take 16385 text) ≡ printout text
    by_test true is = ap printed_for (outcomes_alike fresh.table fresh.store text (ltb-true _ _ is))
    by_test false is = ap printout (take_all 16385 text (omega (arith, ltb-false _ _ is)))

-- what is read of a text prints what the whole text prints
pub prints_read : {A E : Type 0} (r : Result A E) (left held holds : Option (List ℕ)) (front written : List ℕ) (room : ℕ)
    → room ≡ 16385 → IfSome left (λ text. front ≡ take room text) → written ≡ printout front
    → OnOk r (Appends held holds written) → OnOk r (PrintsAll left held holds)
prints_read (Ok x) None held holds front written room full is prints writes = tt
prints_read (Ok x) (Some text) held holds front written room full is prints writes =
    rw (prints, is, full, opening_prints text) at writes
prints_read (Err e) left held holds front written room full is prints writes = tt
