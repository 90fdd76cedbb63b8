-- What a sound table has that insert and delete need to store their numbers.
-- `rows_fit`: no row's label is too long. `can_insert`: one more label can be counted. `can_delete`: a label can go.
use mathlib.Core.List.{List}
use mathlib.Core.Path.{◌≡◌}
use Prim.Native.Nat.{ℕ, ◌≤◌, ◌<◌}
use native.Mathlib.Omega.{arith}
use lib.ListN.{get_or}
use Rattle.types.specs.declared.Limits.{Limits}
use Rattle.labels.specs.Labels.{Label}
use Rattle.tables.specs.Words.{high_mark}
use Rattle.tables.specs.Written.{Memory}
use Rattle.tables.specs.Claims.{Sound}
use Rattle.written.proofs.Rows.{mark_of_written}
use Rattle.demands.proofs.OnSound.{of_sound}
use Rattle.traces.specs.declared.Trace.{Trace}
use Rattle.fields.specs.Fits.{RowsFit}
use Rattle.insertions.specs.Fits.{CanInsert}
use Rattle.traces.specs.Traces.{TraceFits}
use Rattle.rewritten.proofs.WrittenFits.{rows_fit_written}
use Rattle.endings.specs.Ready.{EditsFit, Ready}

module _ (limits : Limits) (fits : EditsFit limits) where
  -- In a sound table no row's label is too long.
  pub rows_fit : (m : Memory) → Sound limits m → RowsFit limits m.table
  rows_fit = of_sound limits fits.deepest (λ m. RowsFit limits m.table)
      λ s valid. rows_fit_written limits s fits.fit valid

  -- In a sound table the high mark is at most the slots.
  mark_within : (m : Memory) → Sound limits m → high_mark m.table ≤ limits.slots
  mark_within = of_sound limits fits.deepest (λ m. high_mark m.table ≤ limits.slots)
      λ s valid. omega (arith, mark_of_written limits s, valid.within)

-- Into a sound table with room a label that fits can be inserted.
pub can_insert : (limits : Limits) (table store : List ℕ) (x : Label) (trace : Trace) (count : ℕ)
    → Ready limits table store x → TraceFits limits table trace → count ≡ get_or table 1 0 → count < limits.slots
    → CanInsert limits table x trace
can_insert limits table store x trace count ready fits read room =
    let mark = mark_within limits ready.limits_fit (record { table = table; store = store }) ready.sound in
    let short = ready.label.short in
    let small = ready.limits_fit.fit in
    record {
      fit = small;
      grows = record { slot = omega arith; label = omega arith };
      bytes = omega arith;
      ends = record { lower = omega (arith, fits.numbers.p); upper = omega (arith, fits.numbers.s) };
    }

-- From a sound table a label can be deleted.
pub can_delete : (limits : Limits) (table store : List ℕ) (x : Label)
    → Ready limits table store x → RowsFit limits table
can_delete limits table store x ready =
    rows_fit limits ready.limits_fit (record { table = table; store = store }) ready.sound
