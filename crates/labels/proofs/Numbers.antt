-- What a test of two numbers finds, as views indexed by its result; and the numbers of bytes.
-- `ordered`: `compare m n` says whether m is smaller, equal or larger.
-- `ltb_view`, `leb_view`, `eqb_view`: `ltb`, `leb` and `eqb` say whether m < n, m ≤ n and m ≡ n.
-- `number_view`: a capital letter has its small letter's number, any other byte its own.
-- `number_positive`: the number of a byte is at least 1.
use mathlib.Core.Bool.{Bool, true, false, ◌&&◌, cond}
use mathlib.Core.Path.{◌≡◌, refl, ap}
use Prim.Native.Nat.{ℕ, zero, suc, ◌+◌, ◌≤◌, ◌<◌, compare, Ordering}
use Prim.Native.Nat.compare
use native.Mathlib.Omega.{arith}
use lib.Dec.{ltb, leb, eqb}
use borrow.Author.Tests.{ltb-true, ltb-false, leb-true, leb-false, eqb-true, eqb-false}
use Rattle.labels.specs.Labels.{number_of}

-- what a comparison of two numbers finds
pub data Ordered (m n : ℕ) : Ordering → Type 0 where
  is_lt : m < n → Ordered m n Ordering.lt
  is_eq : m ≡ n → Ordered m n Ordering.eq
  is_gt : n < m → Ordered m n Ordering.gt

-- the next numbers lie as these do
ordered_suc : {m n : ℕ} {o : Ordering} → Ordered m n o → Ordered (suc m) (suc n) o
ordered_suc (is_lt less) = is_lt (omega arith)
ordered_suc (is_eq equal) = is_eq (ap suc equal)
ordered_suc (is_gt more) = is_gt (omega arith)

-- a comparison finds how the numbers lie
pub ordered : (m n : ℕ) → Ordered m n (compare m n)
ordered zero zero = rw compare.zero-zero (is_eq refl)
ordered zero (suc n) = rw compare.zero-suc (is_lt (omega arith))
ordered (suc m) zero = rw compare.suc-zero (is_gt (omega arith))
ordered (suc m) (suc n) = rw compare.suc-suc (ordered_suc (ordered m n))

-- what the test m < n finds
pub data Ltb (m n : ℕ) : Bool → Type 0 where
  lt_yes : m < n → Ltb m n true
  lt_no : n ≤ m → Ltb m n false

-- the test m < n finds whether it is so
pub ltb_view : (m n : ℕ) → Ltb m n (ltb m n)
ltb_view m n = go (ltb m n) refl
  where
    go : (b : Bool) → ltb m n ≡ b → Ltb m n b
    go true e = lt_yes (ltb-true m n e)
    go false e = lt_no (ltb-false m n e)

-- what the test m ≤ n finds
pub data Leb (m n : ℕ) : Bool → Type 0 where
  le_yes : m ≤ n → Leb m n true
  le_no : n < m → Leb m n false

-- the test m ≤ n finds whether it is so
pub leb_view : (m n : ℕ) → Leb m n (leb m n)
leb_view m n = go (leb m n) refl
  where
    go : (b : Bool) → leb m n ≡ b → Leb m n b
    go true e = le_yes (leb-true m n e)
    go false e = le_no (leb-false m n e)

-- what the test m ≡ n finds
pub data Eqb (m n : ℕ) : Bool → Type 0 where
  eq_yes : m ≡ n → Eqb m n true
  eq_no : (m ≡ n → ⊥) → Eqb m n false

-- the test m ≡ n finds whether it is so
pub eqb_view : (m n : ℕ) → Eqb m n (eqb m n)
eqb_view m n = go (eqb m n) refl
  where
    go : (b : Bool) → eqb m n ≡ b → Eqb m n b
    go true e = eq_yes (eqb-true m n e)
    go false e = eq_no (eqb-false m n e)

-- what the number of a byte is
pub data Numbered (byte : ℕ) : ℕ → Type 0 where
  of_capital : 65 ≤ byte → byte ≤ 90 → Numbered byte (byte + 32 + 1)
  of_other : (65 ≤ byte → byte ≤ 90 → ⊥) → Numbered byte (byte + 1)

-- a capital letter has its small letter's number, any other byte its own
pub number_view : (byte : ℕ) → Numbered byte (number_of byte)
unfolding number_of
number_view byte = go (leb_view 65 byte) (leb_view byte 90)
  where
    go : {low high : Bool} → Leb 65 byte low → Leb byte 90 high
        → Numbered byte (cond (low && high) (byte + 32) byte + 1)
    go (le_yes low) (le_yes high) = of_capital low high
    go (le_yes low) (le_no high) = of_other (λ p q. omega arith)
    go (le_no low) (le_yes high) = of_other (λ p q. omega arith)
    go (le_no low) (le_no high) = of_other (λ p q. omega arith)

-- a byte's number is more than the end's
pub number_positive : (byte : ℕ) → 1 ≤ number_of byte
number_positive byte = go (number_view byte)
  where
    go : {n : ℕ} → Numbered byte n → 1 ≤ n
    go (of_capital low high) = omega arith
    go (of_other outside) = omega arith
