-- Label lengths stay within the width where a row is stored.
-- `rows_fit_put`: where the row stored has such a length.
-- `rows_fit_prefixed`: where a row gets other prefix fields.
-- `rows_fit_root_placed`: where the root's place is stored.
use Prim.Native.Nat.{ℕ, zero, suc, ◌+◌, ◌≤◌, ◌<◌}
use mathlib.Core.Path.{◌≡◌}
use mathlib.Core.Logic.{◌≢◌}
use mathlib.Core.List.{List, [], ◌∷◌}
use mathlib.Core.Bool.{Bool, true, false, cond}
use native.Mathlib.Omega.{arith}
use lib.Dec.{eqb}
use lib.ListN.{get_or, set}
use lib.Seq.{get_or-set_other}
use Rattle.types.specs.declared.Limits.{Limits}
use Rattle.types.specs.declared.Row.{Row}
use Rattle.tables.specs.Words.{root_link, slot_start, row_at}
use Rattle.words.specs.Rows.{put_row}
use Rattle.sides.specs.Rows.{prefixed}
use Rattle.fields.specs.Fits.{RowsFit}
use Rattle.slots.specs.Slots.{with_root_place}

-- a word after a store is within a bound that the stored word and the old one keep
set_within : (l : List ℕ) (i j a bound : ℕ) → a ≤ bound → get_or l j 0 ≤ bound → get_or (set l i a) j 0 ≤ bound
set_within [] i j a bound new old = old
set_within (b ∷ l) zero zero a bound new old = new
set_within (b ∷ l) zero (suc j) a bound new old = old
set_within (b ∷ l) (suc i) zero a bound new old = old
set_within (b ∷ l) (suc i) (suc j) a bound new old = set_within l i j a bound new old

-- the words at 5 of two rows are no others of these rows
apart : (m j k : ℕ) → m < 8 → m ≢ 5 → slot_start j + 5 ≢ slot_start k + m
apart m j k inside other same = omega arith

length_within : (t : List ℕ) (k j bound : ℕ) (r : Row) → r.len ≤ bound → (row_at t j).len ≤ bound
    → (row_at (put_row t k r) j).len ≤ bound
unfolding row_at put_row
length_within t k j bound r new old =
    let n0 : slot_start j + 5 ≢ slot_start k = λ e. apart 0 j k (omega arith) (λ z. omega arith) (omega arith) in
    let n1 : slot_start j + 5 ≢ slot_start k + 1 = apart 1 j k (omega arith) (λ z. omega arith) in
    let n2 : slot_start j + 5 ≢ slot_start k + 2 = apart 2 j k (omega arith) (λ z. omega arith) in
    let n3 : slot_start j + 5 ≢ slot_start k + 3 = apart 3 j k (omega arith) (λ z. omega arith) in
    let n4 : slot_start j + 5 ≢ slot_start k + 4 = apart 4 j k (omega arith) (λ z. omega arith) in
    let n6 : slot_start j + 5 ≢ slot_start k + 6 = apart 6 j k (omega arith) (λ z. omega arith) in
    let n7 : slot_start j + 5 ≢ slot_start k + 7 = apart 7 j k (omega arith) (λ z. omega arith) in
    let b = slot_start k in
    let links = set (set t b r.left) (b + 1) r.right in
    let fields = set (set (set links (b + 2) r.place) (b + 3) r.side) (b + 4) r.balance in
    simp get_or-set_other (set_within fields (b + 5) (slot_start j + 5) r.len bound new (simp get_or-set_other old))

-- A row of such a length is stored.
pub rows_fit_put : {limits : Limits} {table : List ℕ} (k : ℕ) (r : Row) → RowsFit limits table → r.len ≤ limits.width
    → RowsFit limits (put_row table k r)
rows_fit_put {limits} {table} k r fits new =
    record { fit = fits.fit; lengths = λ j. length_within table k j limits.width r new (fits.lengths j) }

-- A row gets other prefix fields.
pub rows_fit_prefixed : {limits : Limits} {table : List ℕ} (k place side : ℕ) → RowsFit limits table
    → RowsFit limits (put_row table k (prefixed (row_at table k) place side))
rows_fit_prefixed k place side fits = rows_fit_put k _ fits (fits.lengths k)

either_fits : {limits : Limits} (empty : Bool) {one other : List ℕ} → RowsFit limits one → RowsFit limits other
    → RowsFit limits (cond empty one other)
either_fits true one other = one
either_fits false one other = other

-- The root's place is stored.
pub rows_fit_root_placed : {limits : Limits} {table after : List ℕ} (place : ℕ) → after ≡ with_root_place table place
    → RowsFit limits table → RowsFit limits after
unfolding with_root_place
rows_fit_root_placed {table = table} place stored fits =
    rw stored (either_fits (eqb (root_link table) 0) fits (rows_fit_prefixed (root_link table) place _ fits))
