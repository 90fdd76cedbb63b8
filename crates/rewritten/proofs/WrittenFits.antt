-- In a written-out table every row's label length is at most a label's width.
-- `rows_fit_written`: so the table is one that delete takes.
use Prim.Native.Nat.{ℕ, zero, suc, ◌+◌, ◌≤◌, ◌<◌, zero-le}
use mathlib.Core.Logic.{◌⊎◌, inl, inr, ⊎_elim}
use mathlib.Core.List.{List, [], ◌∷◌, ◌++◌, map-append}
use mathlib.Core.Bool.{Bool, true, false, cond}
use native.Mathlib.Omega.{arith}
use lib.Dec.{eqb}
use lib.ListN.{length, get_or-eq_default}
use Rattle.types.specs.declared.Limits.{Limits}
use Rattle.types.specs.declared.Row.{Row}
use Rattle.labels.specs.Labels.{Label}
use Rattle.labels.specs.Neighbours.{Neighbour, none_below, held, none_above}
use Rattle.trees.specs.Trees.{Tree, empty, node, labels}
use Rattle.trees.specs.Plain.{State}
use Rattle.trees.specs.Valid.{Valid}
use Rattle.trees.proofs.MapKept.{Fits, fits_none, fits_more, fits_of_test}
use Rattle.tables.specs.Words.{slot_start, row_at}
use Rattle.tables.specs.Written.{tree_row, chain_row, slot_row, written_table}
use Rattle.words.specs.Limits.{LimitsFit}
use Rattle.written.proofs.Rows.{length_of_written_table, row_of_written}
use Rattle.fields.specs.Fits.{RowsFit}

within_or_past : (m n : ℕ) → (m ≤ n) ⊎ (n < m)
within_or_past zero n = inl zero-le
within_or_past (suc m) zero = inr (omega arith)
within_or_past (suc m) (suc n) = ⊎_elim (λ less. inl (omega arith)) (λ more. inr (omega arith)) (within_or_past m n)

split_fits : {width : ℕ} (a : List Label) {b : List Label} → Fits width (a ++ b) → Fits width a × Fits width b
split_fits [] fits = (fits_none, fits)
split_fits (x ∷ a) (fits_more long short rest) =
    let parts = split_fits a rest in
    (fits_more long short parts.0, parts.1)

first_fits : {width : ℕ} {x : Label} {more : List Label} → Fits width (x ∷ more) → length x ≤ width
first_fits (fits_more long short rest) = short

rest_fits : {width : ℕ} {x : Label} {more : List Label} → Fits width (x ∷ more) → Fits width more
rest_fits (fits_more long short rest) = rest

either_short : (test : Bool) (bound : ℕ) (one other : Row) → one.len ≤ bound → other.len ≤ bound
    → (cond test one other).len ≤ bound
either_short true bound one other short_one short_other = short_one
either_short false bound one other short_one short_other = short_other

tree_row_short : (width k : ℕ) (p s : Neighbour) (t : Tree) (otherwise : Row) → Fits width (labels t)
    → otherwise.len ≤ width → (tree_row p s t k otherwise).len ≤ width
tree_row_short width k p s empty otherwise fits short = short
tree_row_short width k p s (node l e r) otherwise fits short =
    let parts = split_fits (labels l) (rw map-append at fits) in
    let right = tree_row_short width k (held e.label) s r otherwise (rest_fits parts.1) short in
    let left = tree_row_short width k p (held e.label) l _ parts.0 right in
    either_short (eqb k e.slot) width _ _ (first_fits parts.1) left

chain_row_short : (width k : ℕ) (freed : List ℕ) → (chain_row freed k).len ≤ width
chain_row_short width k [] = zero-le
chain_row_short width k (free ∷ more) =
    either_short (eqb k free) width _ (chain_row more k) zero-le (chain_row_short width k more)

module _ (limits : Limits) (s : State) (fit : LimitsFit limits) (valid : Valid limits.slots limits.width s) where
  slot_short : (k : ℕ) → (slot_row s k).len ≤ limits.width
  slot_short k =
      tree_row_short limits.width k none_below none_above s.tree (chain_row s.freed k)
      (fits_of_test limits.width (labels s.tree) valid.fitting) (chain_row_short limits.width k s.freed)

  within_short : (k : ℕ) → 1 ≤ k → k ≤ limits.slots → (row_at (written_table limits s) k).len ≤ limits.width
  within_short k low up = rw (row_of_written limits s k low up) (slot_short k)

  past_short : (k : ℕ) → limits.slots < k → (row_at (written_table limits s) k).len ≤ limits.width
  unfolding row_at
  past_short k over =
      let past : length (written_table limits s) ≤ slot_start k + 5 = omega (arith, length_of_written_table limits s) in
      rw (get_or-eq_default (written_table limits s) 0 past) zero-le

  slot_or_past : (k : ℕ) → (row_at (written_table limits s) (suc k)).len ≤ limits.width
  slot_or_past k =
      ⊎_elim (within_short (suc k) (omega arith)) (past_short (suc k)) (within_or_past (suc k) limits.slots)

  row_short : (k : ℕ) → (row_at (written_table limits s) k).len ≤ limits.width
  unfolding row_at
  row_short zero = slot_or_past 0
  row_short (suc k) = slot_or_past k

  -- A valid state's written-out table fits.
  pub rows_fit_written : RowsFit limits (written_table limits s)
  rows_fit_written = record { fit = fit; lengths = row_short }
