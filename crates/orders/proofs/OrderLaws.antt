-- The order by two bytes.
-- `decided`, `compare_decided`: it says how the comparison of their numbers goes on.
-- `same_bytes`, `by_shown`: it is what the bytes show, where they are the same or show one.
use Prim.Native.Nat.{ℕ, ◌<◌, compare, Ordering as Compared}
use mathlib.Core.Path.{◌≡◌, refl, ap, ◌∙◌}
use mathlib.Core.Bool.{Bool, true, false, ◌&&◌, cond, true≢false}
use native.Mathlib.Omega.{arith}
use Rattle.std.specs.Ordering.{MatchOrdering}
use Rattle.std.specs.declared.cmp.Ordering.{Ordering}
use Rattle.std.specs.declared.cmp.Ordering.TheVariants.{Less, Equal, Greater}
use Rattle.std.specs.Cmp.{nat_cmp_is}
use Rattle.labels.specs.Labels.{Comparison, smaller, larger, number_of, compare_numbers}
use Rattle.labels.proofs.Numbers.{Ordered, is_lt, is_eq, is_gt, ordered, Ltb, lt_yes, lt_no, ltb_view}
use Rattle.labels.proofs.Numbers.{Leb, le_yes, le_no, leb_view, Numbered, of_capital, of_other, number_view}
use Rattle.orders.specs.Orders.{by_numbers, parts, shown}

-- what an order by the bytes at place i leaves: it ends the comparison, or the further places do
abbrev pub decided : Ordering → ℕ → Comparison → Comparison
decided Less i further = smaller i
decided Equal i further = further
decided Greater i further = larger i

module _ (a b : ℕ) where
  -- the order of their numbers
  pub by_less : number_of a < number_of b → Less ≡ by_numbers a b
  unfolding by_numbers
  by_less less = nat_cmp_is (number_of a) (number_of b) Less less

  pub by_equal : number_of a ≡ number_of b → Equal ≡ by_numbers a b
  unfolding by_numbers
  by_equal equal = nat_cmp_is (number_of a) (number_of b) Equal equal

  pub by_more : number_of b < number_of a → Greater ≡ by_numbers a b
  unfolding by_numbers
  by_more more = nat_cmp_is (number_of a) (number_of b) Greater more

  -- the comparison of their numbers, by their order
  pub compare_decided : (i : ℕ) (further : Comparison)
      → compare_numbers (compare (number_of a) (number_of b)) i further ≡ decided (by_numbers a b) i further
  compare_decided i further = go (ordered (number_of a) (number_of b))
    where
      go : {o : Compared} → Ordered (number_of a) (number_of b) o
          → compare_numbers o i further ≡ decided (by_numbers a b) i further
      go (is_lt less) = rw (← by_less less)
      go (is_eq equal) = rw (← by_equal equal)
      go (is_gt more) = rw (← by_more more)

  -- a byte and itself
  pub same_bytes : a ≡ b → Equal ≡ by_numbers a b
  same_bytes same = by_equal (ap number_of same)

-- of two bytes that do not part from their numbers, the smaller has the smaller number
numbers_kept : (a b : ℕ) → a < b → parts a b ≡ false → number_of a < number_of b
unfolding parts
numbers_kept a b less kept = go (number_view a) (number_view b) (leb_view 65 a) (leb_view a 90) (ltb_view 90 b) kept
  where
    go : {m n : ℕ} {low high above : Bool} → Numbered a m → Numbered b n → Leb 65 a low → Leb a 90 high
        → Ltb 90 b above → (low && high) && above ≡ false → m < n
    go (of_capital p q) (of_capital r s) low high above kept = omega arith
    go (of_capital p q) (of_other outside) (le_yes low) (le_yes high) (lt_yes above) kept = absurd (true≢false kept)
    go (of_capital p q) (of_other outside) (le_yes low) (le_yes high) (lt_no within) kept =
        absurd (outside (omega arith) within)
    go (of_capital p q) (of_other outside) (le_yes low) (le_no high) above kept = absurd (omega arith)
    go (of_capital p q) (of_other outside) (le_no low) high above kept = absurd (omega arith)
    go (of_other outside) (of_capital p q) low high above kept = omega arith
    go (of_other outside) (of_other beyond) low high above kept = omega arith

-- what different bytes show, and where they show none the order of their numbers, as P says
pub by_shown : {P : Type 0} (a b : ℕ) (o r : Ordering) → (a ≡ b → ⊥) → o ≡ shown a b
    → MatchOrdering o (r ≡ Less) P (r ≡ Greater) → (P → r ≡ by_numbers a b) → r ≡ by_numbers a b
unfolding shown
by_shown {P} a b o r other is so otherwise = go (ltb_view a b) (parts a b) refl (parts b a) refl (rw is at so)
  where
    go : {less : Bool} → Ltb a b less → (one : Bool) → parts a b ≡ one → (two : Bool) → parts b a ≡ two
        → MatchOrdering (cond less (cond one Equal Less) (cond two Equal Greater)) (r ≡ Less) P (r ≡ Greater)
        → r ≡ by_numbers a b
    go (lt_yes less) true one two also so = otherwise so
    go (lt_yes less) false one two also so = so ∙ by_less a b (numbers_kept a b less one)
    go (lt_no more) one also true two so = otherwise so
    go (lt_no more) one also false two so = so ∙ by_more a b (numbers_kept b a (omega arith) two)
