-- Lists written out in parts of one width, as `parts_from` does.
-- `padded`: a label and zeros up to the width.
-- `part_split`: a part stands in front of the rest. `length_of_padded`: a part is as long as the width.
-- `front_of_padded`: a label that fits is the front of its part.
-- `parts_split`: n + 1 parts are a part and n parts. `length_of_parts`: n parts are width times n long.
-- `drop_of_parts`: what stands after the first i parts.
-- `part_of_parts`: the part of slot k + i stands at width times i.
-- `parts_extend`: lists of n parts are equal when their parts are.
-- `row_words`: a row's eight words. `rows_are_parts`: rows written out are parts of width 8.
use mathlib.Core.List.{List, [], ◌∷◌, ◌++◌}
use mathlib.Core.Path.{◌≡◌, refl, sym, ap, ◌∙◌}
use Prim.Native.Nat.{ℕ, zero, suc, ◌+◌, ◌-◌, ◌*◌, ◌≤◌, ◌<◌}
use native.Mathlib.Nat.{mul-zero, mul-suc, add-zero, zero-add, suc-add}
use native.Mathlib.Omega.{arith}
use lib.ListN.{length, take, drop, length-append, take-append-drop, length-drop}
use lib.Seq.{drop_at, drop-drop}
use Rattle.types.specs.declared.Row.{Row}
use Rattle.labels.specs.Labels.{Label}
use Rattle.tables.specs.Written.{row_before, rows_from, part_before, parts_from}

-- a label's part alone: the label, cut at the width, and zeros up to it
abbrev pub padded : ℕ → Label → List ℕ
padded width x = part_before width x []

-- A part stands in front of the rest.
pub part_split : (width : ℕ) (x : Label) (more : List ℕ) → part_before width x more ≡ padded width x ++ more
part_split zero x more = refl
part_split (suc width) [] more = ap (λ (l : List ℕ). 0 ∷ l) (part_split width [] more)
part_split (suc width) (byte ∷ x) more = ap (λ (l : List ℕ). byte ∷ l) (part_split width x more)

-- A part is as long as the width.
pub length_of_padded : (width : ℕ) (x : Label) → length (padded width x) ≡ width
length_of_padded zero x = refl
length_of_padded (suc width) [] = ap suc (length_of_padded width [])
length_of_padded (suc width) (byte ∷ x) = ap suc (length_of_padded width x)

-- A label that fits is the front of its part.
pub front_of_padded : (width : ℕ) (x : Label) → length x ≤ width → take (length x) (padded width x) ≡ x
front_of_padded zero [] fits = refl
front_of_padded zero (byte ∷ x) fits = absurd (omega arith)
front_of_padded (suc width) [] fits = refl
front_of_padded (suc width) (byte ∷ x) fits =
    ap (λ (l : List ℕ). byte ∷ l) (front_of_padded width x (omega arith))

-- A list of length 0 has nothing.
none_left : (xs : List ℕ) → length xs ≡ 0 → xs ≡ []
none_left [] none = refl
none_left (x ∷ xs) none = absurd (omega arith)

module _ (width : ℕ) where
  -- A list of n + 1 parts is a part and a list of n.
  pub parts_split : (label : ℕ → Label) (k n : ℕ)
      → parts_from width label k (suc n) ≡ padded width (label k) ++ parts_from width label (suc k) n
  parts_split label k n = part_split width (label k) (parts_from width label (suc k) n)

  -- n parts are width times n long.
  pub length_of_parts : (label : ℕ → Label) (k n : ℕ) → length (parts_from width label k n) ≡ width * n
  length_of_parts label k zero = sym (mul-zero width)
  length_of_parts label k (suc n) =
      rw (parts_split label k n, length-append, length_of_padded, mul-suc)
      (omega (arith, length_of_parts label (suc k) n))

  -- What stands after the first i parts.
  pub drop_of_parts : (label : ℕ → Label) (k i n : ℕ)
      → drop (width * i) (parts_from width label k (i + n)) ≡ parts_from width label (k + i) n
  drop_of_parts label k zero n = rw (mul-zero, zero-add, add-zero)
  drop_of_parts label k (suc i) n =
      let start : width * suc i ≡ width + width * i = omega (arith, mul-suc width i) in
      let next : k + suc i ≡ suc k + i = omega arith in
      rw (
        start,
        next,
        suc-add i n,
        ← drop-drop,
        parts_split label k (i + n),
        drop_at (padded width (label k)) (parts_from width label (suc k) (i + n)) width
            (length_of_padded width (label k)),
      )
      (drop_of_parts label (suc k) i n)

  -- The part of slot k + i stands at width times i.
  pub part_of_parts : (label : ℕ → Label) (k i n : ℕ) → i < n
      → drop (width * i) (parts_from width label k n)
      ≡ padded width (label (k + i)) ++ parts_from width label (suc (k + i)) (n - suc i)
  part_of_parts label k i n within =
      let split : n ≡ i + suc (n - suc i) = omega arith in
      ap (λ (m : ℕ). drop (width * i) (parts_from width label k m)) split
      ∙ drop_of_parts label k i (suc (n - suc i)) ∙ parts_split label (k + i) (n - suc i)

  -- Lists of n parts are equal when their parts are.
  pub parts_extend : (n : ℕ) (xs ys : List ℕ) → length xs ≡ width * n → length ys ≡ width * n
      → ((i : ℕ) → i < n → take width (drop (width * i) xs) ≡ take width (drop (width * i) ys)) → xs ≡ ys
  parts_extend zero xs ys xs_long ys_long agree =
      none_left xs (xs_long ∙ mul-zero width) ∙ sym (none_left ys (ys_long ∙ mul-zero width))
  parts_extend (suc n) xs ys xs_long ys_long agree =
      let start : (i : ℕ) → width * suc i ≡ width + width * i = λ i. omega (arith, mul-suc width i) in
      let first : take width xs ≡ take width ys = rw mul-zero at (agree 0 (omega arith)) in
      let rest : drop width xs ≡ drop width ys =
      parts_extend n (drop width xs) (drop width ys)
      (rw length-drop (omega (arith, start n))) (rw length-drop (omega (arith, start n)))
      (λ i within. rw (drop-drop (width * i) width xs, drop-drop (width * i) width ys, ← start i)
      (agree (suc i) (omega arith))) in
      sym (take-append-drop width xs) ∙ (λ i. first i ++ rest i) ∙ take-append-drop width ys

-- a row's eight words
abbrev pub row_words : Row → List ℕ
row_words r = row_before r []

-- Rows written out are parts of width 8.
pub rows_are_parts : (row : ℕ → Row) (k n : ℕ) → rows_from row k n ≡ parts_from 8 (λ j. row_words (row j)) k n
rows_are_parts row k zero = refl
rows_are_parts row k (suc n) = ap (row_before (row k)) (rows_are_parts row (suc k) n)
