-- Zeros in a written-out table and store.
-- `all_zero_append`: two lists of zeros make one. `all_zero_padded`: a label of zeros has a part of zeros.
-- `zeros_after_label`: a label's part has zeros after the label's end.
-- `all_zero_parts`: parts of zeros are zeros. `all_zero_rows`: rows of zeros are zeros.
use mathlib.Core.Bool.{true}
use mathlib.Core.List.{List, [], ◌∷◌, ◌++◌}
use mathlib.Core.Path.{◌≡◌, refl, ap}
use Prim.Native.Nat.{ℕ, zero, suc, ◌+◌, ◌≤◌, ◌<◌}
use native.Mathlib.Omega.{arith}
use lib.ListN.{length, drop}
use lib.Dec.{eqb}
use Rattle.types.specs.declared.Row.{Row}
use Rattle.labels.specs.Labels.{Label}
use Rattle.tables.specs.Written.{free_row, rows_from, parts_from}
use Rattle.tables.specs.Sound.{all_zero}
use Rattle.trees.proofs.Views.{both_true}
use Rattle.written.proofs.Chunks.{padded, parts_split, row_words, rows_are_parts}

-- Two lists of zeros make one.
pub all_zero_append : (xs ys : List ℕ) → all_zero xs ≡ true → all_zero ys ≡ true → all_zero (xs ++ ys) ≡ true
all_zero_append [] ys xs_zero ys_zero = ys_zero
all_zero_append (x ∷ xs) ys xs_zero ys_zero =
    let parts = (both_true (eqb x 0) (all_zero xs)).0 xs_zero in
    (both_true (eqb x 0) (all_zero (xs ++ ys))).1 (parts.0, all_zero_append xs ys parts.1 ys_zero)

-- A label of zeros has a part of zeros.
pub all_zero_padded : (width : ℕ) (x : Label) → all_zero x ≡ true → all_zero (padded width x) ≡ true
all_zero_padded zero x x_zero = refl
all_zero_padded (suc width) [] x_zero = all_zero_padded width [] refl
all_zero_padded (suc width) (byte ∷ x) x_zero =
    let parts = (both_true (eqb byte 0) (all_zero x)).0 x_zero in
    (both_true (eqb byte 0) (all_zero (padded width x))).1 (parts.0, all_zero_padded width x parts.1)

-- A label's part has zeros after the label's end.
pub zeros_after_label : (width : ℕ) (x : Label) → all_zero (drop (length x) (padded width x)) ≡ true
zeros_after_label zero [] = refl
zeros_after_label zero (byte ∷ x) = refl
zeros_after_label (suc width) [] = all_zero_padded width [] refl
zeros_after_label (suc width) (byte ∷ x) = zeros_after_label width x

-- Parts of zeros are zeros.
pub all_zero_parts : (width : ℕ) (label : ℕ → Label) (k n : ℕ)
    → ((j : ℕ) → k ≤ j → j < k + n → all_zero (label j) ≡ true) → all_zero (parts_from width label k n) ≡ true
all_zero_parts width label k zero zeros = refl
all_zero_parts width label k (suc n) zeros =
    rw (parts_split width label k n)
    (all_zero_append (padded width (label k)) (parts_from width label (suc k) n)
    (all_zero_padded width (label k) (zeros k (omega arith) (omega arith)))
    (all_zero_parts width label (suc k) n (λ j low up. zeros j (omega arith) (omega arith))))

-- Rows of zeros are zeros.
pub all_zero_rows : (row : ℕ → Row) (k n : ℕ)
    → ((j : ℕ) → k ≤ j → j < k + n → row j ≡ free_row 0) → all_zero (rows_from row k n) ≡ true
all_zero_rows row k n zeros =
    rw rows_are_parts
    (all_zero_parts 8 (λ j. row_words (row j)) k n (λ j low up. ap (λ (r : Row). all_zero (row_words r)) (zeros j low up)))
