-- The outcome of a layout, by the lent lengths.
-- `layout_refused`: refused by them. `layout_done`: all words and bytes are 0.
use mathlib.Core.List.{List}
use mathlib.Core.Path.{◌≡◌, refl}
use lib.ListN.{length, replicate}
use Rattle.std.specs.Prelude.{Result, Ok, Err}
use Prim.Native.Nat.{ℕ}
use Rattle.types.specs.declared.Limits.{Limits}
use Rattle.types.specs.declared.Refusal.{Refusal}
use Rattle.types.specs.Answers.{done, refused, refusal_number}
use Rattle.tables.specs.Outcomes.{pass, of_memory, layout_outcome}
use Rattle.lengths.specs.Tests.{test_says}
use Rattle.lengths.proofs.FirstLines.{memory_refused, memory_passed}
use Rattle.tables.specs.Given.{Gives}

module _ (limits : Limits) (table store : List ℕ) (tested : Result Unit Refusal)
    (says : test_says tested ≡ of_memory limits table store pass) where
  pub layout_refused : (r : Refusal) → tested ≡ Err r
      → Gives (layout_outcome limits table store) (refused (refusal_number r)) table store
  unfolding layout_outcome
  layout_refused r e =
      rw (memory_refused limits table store tested says r e pass) (record { answer = refl; table = refl; store = refl })

  pub layout_done : (words bytes : List ℕ) → tested ≡ Ok tt → words ≡ replicate (length table) 0
      → bytes ≡ replicate (length store) 0 → Gives (layout_outcome limits table store) done words bytes
  unfolding layout_outcome
  layout_done words bytes e cleared zeros =
      rw (memory_passed limits table store tested says e pass)
      (record { answer = refl; table = cleared; store = zeros })
