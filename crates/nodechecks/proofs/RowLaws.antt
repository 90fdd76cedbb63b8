-- The tests of a slot's row and of its part of the store.
-- `part_inside`, `part_tested`: the part lies in the store, and is tested.
-- `rest_within`: a length that leaves less than the width is 1 to the width.
-- `left_wraps`, `left_within`: the same of a wrapping difference.
-- `charge_unknown`, `charge_by_square`: the test of a charge.
-- `used_length`, `used_bytes`, `used_charge`: the test of a slot in use.
-- `used_short`: the label of a slot in use lies in its part.
use Rattle.std.proofs.Common.{◌≡◌, ℕ, ◌+◌, ◌*◌, ◌%◌, ◌^◌, ◌<◌, ◌≤◌, Bool, true, false, ◌&&◌, ◌||◌, eqb, leb, List, drop, sym, refl, ◌∙◌, mul-le-mul_left, arith, take, length, ◌-◌, length-drop, Bor, ne_eqb, le-leb, leb-true}
use native.Mathlib.Decide.{dec_le}
use lib.Seq.{take_all}
use borrow.Author.Tests.{lt-leb}
use Rattle.types.specs.declared.Limits.{Limits}
use Rattle.types.specs.declared.Row.{Row}
use Rattle.trees.specs.Charges.{unknown, is_charge}
use Rattle.trees.proofs.Views.{both_true}
use Rattle.tables.specs.Words.{part_at, label_at}
use Rattle.tables.specs.Sound.{all_zero}
use Rattle.words.specs.Parts.{LabelInside, Shows}
use Rattle.gaps.specs.Windows.{PartFits}
use Rattle.gaps.proofs.PartLaws.{part_ends}
use Rattle.nodechecks.specs.Nodes.{used_row}

-- a number is at most 100 exactly where its square is at most 10,000
square_test : (n : ℕ) → leb (n * n) 10000 ≡ leb n 100
square_test n = go (dec_le n 100)
  where
    go : Dec (n ≤ 100) → leb (n * n) 10000 ≡ leb n 100
    go (yes low) = rw (le-leb n 100 low, le-leb (n * n) 10000 (omega (arith, mul-le-mul_left n low)))
    go (no above) =
        let more : 101 ≤ n = omega arith in
        rw (lt-leb n 100 (omega arith), lt-leb (n * n) 10000 (omega (arith, mul-le-mul_left n more)))

-- a word that is 255 is a charge, and another one by its square
pub charge_unknown : (n : ℕ) → n ≡ unknown → true ≡ is_charge n
charge_unknown n is = rw is

pub charge_by_square : (n : ℕ) → (n ≡ unknown → ⊥) → leb (n * n) 10000 ≡ is_charge n
charge_by_square n other = square_test n ∙ go (leb n 100)
  where
    go : (b : Bool) → b ≡ (b || eqb n unknown)
    go true = refl
    go false = sym (ne_eqb n unknown other)

-- what a length leaves of the width, modulo 2^64, is less than the width exactly where it is 1 to the width
pub rest_within : (r len w : ℕ) → (r + len) % 2 ^ 64 ≡ w → w ≤ 4096 → len < 2 ^ 64 → r < w → (1 ≤ len) × (len ≤ w)
rest_within r len w wraps small short less = (omega arith, omega arith)

rest_beyond : (r len w : ℕ) → (r + len) % 2 ^ 64 ≡ w → r < 2 ^ 64 → w ≤ r → 1 ≤ len → len ≤ w → ⊥
rest_beyond r len w wraps fits more some short = omega arith

-- a wrapping difference is such a rest
abbrev left_of : (w len : ℕ) → ℕ
left_of w len = (w + (2 ^ 64 - len)) % 2 ^ 64

pub left_wraps : (w len : ℕ) → w ≤ 4096 → len < 2 ^ 64 → (left_of w len + len) % 2 ^ 64 ≡ w
left_wraps w len small short = omega arith

pub left_within : (w len : ℕ) → w ≤ 4096 → len < 2 ^ 64 → left_of w len < w → (1 ≤ len) × (len ≤ w)
left_within w len small short = rest_within _ len w (left_wraps w len small short) small short

-- the part lies in the store
pub part_inside : (limits : Limits) (store : List ℕ) (k first : ℕ) → PartFits limits store k first
    → LabelInside limits store k limits.width
part_inside limits store k first fits =
    record { low = fits.low; inside = part_ends limits store k first fits }

-- the part that is shown is tested
pub part_tested : (limits : Limits) (store part : Bor (List ℕ)) (k first : ℕ) (r : Bool)
    → Shows limits store k limits.width part → r ≡ all_zero (take (length part.now - first) (drop first part.now))
    → r ≡ all_zero (drop first (part_at limits store.now k))
unfolding part_at label_at
part_tested limits store part k first r shows e =
    let whole : length (drop first part.now) ≤ length part.now - first = omega (arith, length-drop first part.now) in
    rw (take_all _ _ whole, shows.bytes) at e

module _ (limits : Limits) (store : List ℕ) (k : ℕ) (row : Row) where
  -- a slot in use has a length of 1 to the width
  pub used_length : (r : ℕ) → (r + row.len) % 2 ^ 64 ≡ limits.width → r < 2 ^ 64 → limits.width ≤ r
      → false ≡ used_row limits store k row
  unfolding used_row
  used_length r wraps fits more = go (dec_le 1 row.len) (dec_le row.len limits.width)
    where
      go : Dec (1 ≤ row.len) → Dec (row.len ≤ limits.width)
          → false ≡ (leb 1 row.len && (leb row.len limits.width
          && (is_charge row.charge && all_zero (drop row.len (part_at limits store k)))))
      go (no none) short = rw (lt-leb 1 row.len (omega arith))
      go (yes some) (no long) = rw (le-leb 1 row.len some, lt-leb row.len limits.width (omega arith))
      go (yes some) (yes short) = absurd (rest_beyond r row.len limits.width wraps fits more some short)

  -- the bytes after the label's end are zero
  pub used_bytes : (t : Bool) → 1 ≤ row.len → row.len ≤ limits.width
      → t ≡ all_zero (drop row.len (part_at limits store k)) → t ≡ false → false ≡ used_row limits store k row
  unfolding used_row
  used_bytes t p q e f = rw (le-leb _ _ p, le-leb _ _ q, sym e ∙ f) (go (is_charge row.charge))
    where
      go : (b : Bool) → false ≡ (b && false)
      go true = refl
      go false = refl

  -- word 7 decides then: it is a charge
  pub used_charge : (t r : Bool) → 1 ≤ row.len → row.len ≤ limits.width
      → t ≡ all_zero (drop row.len (part_at limits store k)) → t ≡ true → r ≡ is_charge row.charge
      → r ≡ used_row limits store k row
  unfolding used_row
  used_charge t r p q e f z = rw (le-leb _ _ p, le-leb _ _ q, sym e ∙ f) (z ∙ go (is_charge row.charge))
    where
      go : (b : Bool) → b ≡ (b && true)
      go true = refl
      go false = refl

  -- a slot in use has a label that lies in its part
  pub used_short : used_row limits store k row ≡ true → row.len ≤ limits.width
  unfolding used_row
  used_short e = leb-true _ _ ((both_true _ _).0 ((both_true (leb 1 row.len) _).0 e).1).0
