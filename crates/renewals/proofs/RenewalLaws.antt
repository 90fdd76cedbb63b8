-- Prefix fields of one node renewed, in the form in which the code renews them.
-- `renewed_by_fields`: the row stored, and label lengths stay within the width.
-- `renewed_no_son`, `renewed_only_son`: an only son.
use Prim.Native.Nat.{ℕ}
use mathlib.Core.Path.{◌≡◌}
use mathlib.Core.Logic.{◌≢◌}
use mathlib.Core.List.{List}
use borrow.Author.Tests.{eq-eqb, ne_eqb}
use Rattle.types.specs.declared.Limits.{Limits}
use Rattle.types.specs.declared.Row.{Row}
use Rattle.tables.specs.Words.{row_at}
use Rattle.words.specs.Rows.{put_row}
use Rattle.sides.specs.Rows.{prefixed}
use Rattle.sides.specs.declared.Fields.{Fields}
use Rattle.fields.specs.Fits.{RowsFit}
use Rattle.fields.specs.Between.{fields_between}
use Rattle.renewals.specs.Renewals.{renewed, renewed_son}
use Rattle.renewals.proofs.RowsFits.{rows_fit_prefixed}

module _ (limits : Limits) (table store : List ℕ) where
  module _ (slot below above : ℕ) where
    -- The row stored, and label lengths stay within the width.
    pub renewed_by_fields : (fields : Fields) (row new : Row) (after : List ℕ)
        → fields ≡ fields_between limits table store slot below above → row ≡ row_at table slot
        → new ≡ prefixed row fields.place fields.side → after ≡ put_row table slot new → RowsFit limits table
        → (after ≡ renewed limits table store slot below above) × RowsFit limits after
    unfolding renewed
    renewed_by_fields fields row new after of_Fields of_row of_new stored fits =
        let whole : after ≡ put_row table slot (prefixed (row_at table slot) fields.place fields.side) = cc in
        (cc, rw whole (rows_fit_prefixed slot fields.place fields.side fits))

  -- No son is there.
  pub renewed_no_son : (son below above : ℕ) → son ≡ 0 → table ≡ renewed_son limits table store son below above
  unfolding renewed_son
  renewed_no_son son below above none = simp (eq-eqb son 0 none)

  -- An only son is renewed.
  pub renewed_only_son : (son below above : ℕ) (after : List ℕ) → son ≢ 0
      → after ≡ renewed limits table store son below above
      → after ≡ renewed_son limits table store son below above
  unfolding renewed_son
  renewed_only_son son below above after some stored = simp (ne_eqb son 0 some) stored
