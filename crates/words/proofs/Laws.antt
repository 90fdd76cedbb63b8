-- A row read word by word is the slot's. A stored row is read back, and the rows of the other slots stay. Eight stores
-- in turn store a row.
use Prim.Native.Nat.{ℕ, ◌+◌, ◌≤◌, ◌<◌}
use mathlib.Core.Path.{◌≡◌}
use mathlib.Core.Logic.{◌≢◌}
use mathlib.Core.List.{List}
use native.Mathlib.Nat.{add-zero}
use native.Mathlib.Omega.{arith}
use lib.Dec.{T, ltb, ltb→lt}
use lib.ListN.{length, get_or, set, length-set}
use lib.Seq.{get_or-set_same, get_or-set_other}
use Rattle.types.specs.declared.Row.{Row}
use Rattle.tables.specs.Words.{slot_start, row_from, row_at}
use Rattle.words.specs.Rows.{put_from, put_row, HasRow, RowBy}

-- a row whose words are those from a slot's start on
pub row_read : (reads : (at word : ℕ) → Type 0) (t : List ℕ) (k : ℕ) (r : Row) → RowBy reads r
    → ((at word : ℕ) → reads at word → word ≡ get_or t (slot_start k + at) 0) → r ≡ row_at t k
unfolding row_at
row_read reads t k r by is =
    let left : r.left ≡ get_or t (slot_start k) 0 = rw add-zero at (is 0 _ by.left) in
    λ i. record {
      left = left i;
      right = is 1 _ by.right i;
      place = is 2 _ by.place i;
      side = is 3 _ by.side i;
      balance = is 4 _ by.balance i;
      len = is 5 _ by.len i;
      value = is 6 _ by.value i;
      charge = is 7 _ by.charge i;
    }

-- a store above the word read
above : (l : List ℕ) (b m j a : ℕ) → T (ltb j m) → get_or (set l (b + m) a) (b + j) 0 ≡ get_or l (b + j) 0
above l b m j a h = let g : j < m = ltb→lt j m h in get_or-set_other l (b + m) (b + j) a 0 (omega arith)

above_first : (l : List ℕ) (b m a : ℕ) → T (ltb 0 m) → get_or (set l (b + m) a) b 0 ≡ get_or l b 0
above_first l b m a h = let g : 0 < m = ltb→lt 0 m h in get_or-set_other l (b + m) b a 0 (omega arith)

module _ (t : List ℕ) (b : ℕ) (r : Row) (fits : b + 8 ≤ length t) where
  back : (l : List ℕ) (j a : ℕ) → length l ≡ length t → j < 8 → get_or (set l (b + j) a) (b + j) 0 ≡ a
  back l j a e h = get_or-set_same l (b + j) a 0 (omega arith)

  read_back : row_from (put_from t b r) b ≡ r
  read_back =
      let with_left = set t b r.left in
      let with_right = set with_left (b + 1) r.right in
      let with_place = set with_right (b + 2) r.place in
      let with_side = set with_place (b + 3) r.side in
      let with_balance = set with_side (b + 4) r.balance in
      let with_len = set with_balance (b + 5) r.len in
      let with_value = set with_len (b + 6) r.value in
      let left_back : get_or (put_from t b r) b 0 ≡ r.left =
      simp (above_first, tt {0}) (get_or-set_same t b r.left 0 (omega arith)) in
      let right_back : get_or (put_from t b r) (b + 1) 0 ≡ r.right =
      simp (above, tt {0}) (back with_left 1 r.right (simp length-set) (omega arith)) in
      let place_back : get_or (put_from t b r) (b + 2) 0 ≡ r.place =
      simp (above, tt {0}) (back with_right 2 r.place (simp length-set) (omega arith)) in
      let side_back : get_or (put_from t b r) (b + 3) 0 ≡ r.side =
      simp (above, tt {0}) (back with_place 3 r.side (simp length-set) (omega arith)) in
      let balance_back : get_or (put_from t b r) (b + 4) 0 ≡ r.balance =
      simp (above, tt {0}) (back with_side 4 r.balance (simp length-set) (omega arith)) in
      let len_back : get_or (put_from t b r) (b + 5) 0 ≡ r.len =
      simp (above, tt {0}) (back with_balance 5 r.len (simp length-set) (omega arith)) in
      let value_back : get_or (put_from t b r) (b + 6) 0 ≡ r.value =
      simp (above, tt {0}) (back with_len 6 r.value (simp length-set) (omega arith)) in
      let charge_back : get_or (put_from t b r) (b + 7) 0 ≡ r.charge =
      back with_value 7 r.charge (simp length-set) (omega arith) in
      λ i. record {
        left = left_back i;
        right = right_back i;
        place = place_back i;
        side = side_back i;
        balance = balance_back i;
        len = len_back i;
        value = value_back i;
        charge = charge_back i;
      }

-- a word outside the eight that are stored from b
outside : (t : List ℕ) (b i : ℕ) (r : Row) → ((j : ℕ) → j < 8 → i ≡ b + j → ⊥) → get_or (put_from t b r) i 0 ≡ get_or t i 0
outside t b i r h =
    let not_left : i ≢ b = λ e. h 0 (omega arith) (omega arith) in
    let not_right : i ≢ b + 1 = h 1 (omega arith) in
    let not_place : i ≢ b + 2 = h 2 (omega arith) in
    let not_side : i ≢ b + 3 = h 3 (omega arith) in
    let not_balance : i ≢ b + 4 = h 4 (omega arith) in
    let not_len : i ≢ b + 5 = h 5 (omega arith) in
    let not_value : i ≢ b + 6 = h 6 (omega arith) in
    let not_charge : i ≢ b + 7 = h 7 (omega arith) in
    simp get_or-set_other

pub length_put_row : (t : List ℕ) (k : ℕ) (r : Row) → length (put_row t k r) ≡ length t
unfolding put_row
length_put_row t k r = simp length-set

pub row_put_same : (t : List ℕ) (k : ℕ) (r : Row) → HasRow t k → row_at (put_row t k r) k ≡ r
unfolding row_at put_row
row_put_same t k r h = read_back t (slot_start k) r (omega arith)

pub row_put_other : (t : List ℕ) (k j : ℕ) (r : Row) → 1 ≤ k → 1 ≤ j → j ≢ k → row_at (put_row t k r) j ≡ row_at t j
unfolding row_at put_row
row_put_other t k j r p q n =
    λ i. record {
      left = first i;
      right = at 1 (omega arith) i;
      place = at 2 (omega arith) i;
      side = at 3 (omega arith) i;
      balance = at 4 (omega arith) i;
      len = at 5 (omega arith) i;
      value = at 6 (omega arith) i;
      charge = at 7 (omega arith) i;
    }
  where
    apart : (m x : ℕ) → m < 8 → x < 8 → slot_start j + m ≡ slot_start k + x → ⊥
    apart m x a b e = omega arith

    first : get_or (put_from t (slot_start k) r) (slot_start j) 0 ≡ get_or t (slot_start j) 0
    first = outside t (slot_start k) (slot_start j) r (λ x l e. apart 0 x (omega arith) l (omega arith))

    at : (m : ℕ) → m < 8 → get_or (put_from t (slot_start k) r) (slot_start j + m) 0 ≡ get_or t (slot_start j + m) 0
    at m h = outside t (slot_start k) (slot_start j + m) r (λ x l e. apart m x h l e)

pub slot_put : (t : List ℕ) (k j : ℕ) (r : Row) → HasRow t j → HasRow (put_row t k r) j
slot_put t k j r h = record { low = h.low; high = rw length_put_row h.high }

-- eight stores in turn, the last of them word 7's, store a row
pub stored_in_turn : (t : List ℕ) (k : ℕ) (r : Row) {b last : ℕ} {t0 t1 t2 t3 t4 t5 t6 t7 : List ℕ} → b ≡ slot_start k
    → last ≡ b + 7 → t0 ≡ set t b r.left → t1 ≡ set t0 (b + 1) r.right → t2 ≡ set t1 (b + 2) r.place
    → t3 ≡ set t2 (b + 3) r.side → t4 ≡ set t3 (b + 4) r.balance → t5 ≡ set t4 (b + 5) r.len
    → t6 ≡ set t5 (b + 6) r.value → t7 ≡ set t6 last r.charge → t7 ≡ put_row t k r
unfolding put_row
stored_in_turn t k r start end left right place side balance len value charge = cc
