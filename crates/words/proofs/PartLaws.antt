-- Parts of a store, and the labels in them.
-- `shown_at_lem`: the bytes from a part's start on are its label.
-- `inside_read`, `shown_read`, `label_read`: the label by a row that was read.
-- `start_small`: where a slot's part starts, for any slot. `label_clipped`: a label is read as far as the store goes.
use mathlib.Core.List.{List, [], ◌∷◌}
use mathlib.Core.Path.{◌≡◌, refl, sym, ap, ◌∙◌}
use Prim.Native.Nat.{ℕ, zero, suc, ◌+◌, ◌-◌, ◌*◌, ◌≤◌, ◌<◌, min}
use native.Mathlib.Nat.{mul-le-mul_right}
use native.Mathlib.Omega.{arith}
use lib.ListN.{length, take, drop, length-take, length-drop}
use lib.Seq.{take-nil, drop-nil}
use denote.Ref.{Bor}
use Rattle.types.specs.declared.Limits.{Limits}
use Rattle.types.specs.declared.Row.{Row}
use Rattle.tables.specs.Words.{row_at, part_start, label_at}
use Rattle.words.specs.Limits.{LimitsFit}
use Rattle.words.specs.Parts.{LabelInside, Shows}

-- the bytes from a part's start on, so many as the label has
pub shown_at_lem : (limits : Limits) (store : Bor (List ℕ)) (k len start : ℕ) → LabelInside limits store.now k len
    → start ≡ part_start limits k
    → Shows limits store k len (record {
      ref_ptr = (store.ref_ptr.0, start + store.ref_ptr.1);
      now = take (start + len - start) (drop start store.now);
    })
unfolding label_at
shown_at_lem limits store k len start fits at =
    let count : start + len - start ≡ len = omega arith in
    let inside = fits.inside in
    record {
      bytes = rw (count, at);
      whole = rw count (simp (length-take, length-drop) (omega arith));
      block = refl;
      start = omega arith;
    }

-- by a row that was read
module _ (limits : Limits) (table : List ℕ) (k : ℕ) (row : Row) (read : row ≡ row_at table k) where
  pub inside_read : (store : List ℕ) → LabelInside limits store k (row_at table k).len
      → LabelInside limits store k row.len
  inside_read store inside = rw read inside

  pub shown_read : (store r : Bor (List ℕ)) → Shows limits store k row.len r
      → Shows limits store k (row_at table k).len r
  shown_read store r shows = rw read at shows

  pub label_read : (store label : List ℕ) → label ≡ label_at limits store k row.len
      → label ≡ label_at limits store k (row_at table k).len
  label_read store label shows = rw read at shows

-- where a slot's part starts fits a machine word
pub start_small : (limits : Limits) (k : ℕ) → LimitsFit limits → k ≤ 65535 → part_start limits k < 268435456
start_small limits k fit small =
    let narrow : limits.width * (k - 1) ≤ 4096 * (k - 1) = mul-le-mul_right (k - 1) fit.width in
    let few : 4096 * (k - 1) ≤ 268431360 = omega arith in
    omega arith

drop_clipped : (l : List ℕ) (n k : ℕ) → k ≡ min n (length l) → drop k l ≡ drop n l
drop_clipped [] n k least = drop-nil k ∙ sym (drop-nil n)
drop_clipped (a ∷ l) zero k least = let none : k ≡ 0 = omega arith in rw none
drop_clipped (a ∷ l) (suc n) zero least = absurd (omega arith)
drop_clipped (a ∷ l) (suc n) (suc k) least = drop_clipped l n k (omega arith)

-- A list taken as far as it goes.
pub take_clipped : (l : List ℕ) (n k : ℕ) → k ≡ min n (length l) → take k l ≡ take n l
take_clipped [] n k least = take-nil k ∙ sym (take-nil n)
take_clipped (a ∷ l) zero k least = let none : k ≡ 0 = omega arith in rw none
take_clipped (a ∷ l) (suc n) zero least = absurd (omega arith)
take_clipped (a ∷ l) (suc n) (suc k) least = ap (λ more. a ∷ more) (take_clipped l n k (omega arith))

-- a label is read as far as the store goes
pub label_clipped : (limits : Limits) (store : List ℕ) (slot len from start end : ℕ) → from ≡ part_start limits slot
    → start ≡ min from (length store) → end ≡ min (start + len) (length store)
    → take (end - start) (drop start store) ≡ label_at limits store slot len
unfolding label_at
label_clipped limits store slot len from start end at starts ends =
    let rest : drop start store ≡ drop from store = drop_clipped store from start starts in
    let left : length (drop from store) ≡ length store - from = length-drop from store in
    let count : end - start ≡ min len (length (drop from store)) = omega arith in
    rw rest (take_clipped (drop from store) len (end - start) count ∙ ap (λ n. take len (drop n store)) at)
