-- Neighbours in order towards a side, upward or not: what holds on both sides is said once.
-- `Ascend`: the first lies before the second towards the side, and parts from it at a place.
-- `gap_ascends`: neighbours whose gap is a place ascend, and part there.
-- A label x lies in a window of the neighbours near and far, which part at place m, and was compared with the near one.
-- `late_right`: where these part after m, x and far part at m.
-- `open_starts`: where they part at m, x and far may be compared from m on.
-- `outer_place`: in order, m is the smaller of the places where x parts from both.
use Prim.Native.Nat.{ℕ, suc, ◌≤◌, ◌<◌, min, max}
use mathlib.Core.Path.{◌≡◌, refl, sym, ◌∙◌}
use mathlib.Core.Bool.{Bool, true, false, not, cond}
use native.Mathlib.Omega.{arith}
use lib.ListN.{length}
use Rattle.labels.specs.Labels.{Label, Comparison, place_of, difference_place}
use Rattle.labels.specs.Labels.{Finds, is_smaller_lem, is_same, is_larger}
use Rattle.labels.specs.Neighbours.{Neighbour, none_below, held, none_above, difference}
use Rattle.labels.proofs.Numbers.{Ltb, lt_yes, lt_no, ltb_view}
use Rattle.labels.proofs.Order.{number_with, Below, below_trans, place_unique, below_of_smaller}
use Rattle.labels.proofs.Compare.{compares_by_places}
use Rattle.labels.proofs.Difference.{below_is_before, difference_is, difference_symmetric, difference_first}
use Rattle.trees.proofs.Passing.{false_not_true}
use Rattle.gaps.specs.Windows.{is_before, MayStart}
use Rattle.gaps.specs.Gapped.{wrong, parted, gap_of, gap_toward}
use Rattle.gaps.proofs.OrderTests.{before_of_test, test_of_before}

-- ---- the order towards a side

-- a lies before b towards a side, and i is their difference place
abbrev pub Ascend : (upward : Bool) → Neighbour → Neighbour → ℕ → Type 0
Ascend false a b i = Below b a i
Ascend true a b i = Below a b i

-- they agree before that place
agreed : (upward : Bool) (a b : Neighbour) (i : ℕ) → Ascend upward a b i
    → (j : ℕ) → j < i → number_with a j ≡ number_with b j
agreed false a b i ascend j before = sym (ascend.agree j before)
agreed true a b i ascend j before = ascend.agree j before

-- it is the computed one
ascend_place : (upward : Bool) (a b : Neighbour) (i : ℕ) → Ascend upward a b i → difference a b ≡ i
ascend_place false a b i ascend = difference_symmetric a b ∙ difference_is b a ascend
ascend_place true a b i ascend = difference_is a b ascend

-- what lies before b lies before all that agree with b up to their difference place
ascend_alike : (upward : Bool) (a b c : Neighbour) (i : ℕ) → Ascend upward a b i
    → ((j : ℕ) → j ≤ i → number_with c j ≡ number_with b j) → Ascend upward a c i
ascend_alike false a b c i ascend alike =
    record {
      agree = λ j before. alike j (omega arith) ∙ ascend.agree j before;
      less = omega (arith, ascend.less, alike i (omega arith));
    }
ascend_alike true a b c i ascend alike =
    record {
      agree = λ j before. ascend.agree j before ∙ sym (alike j (omega arith));
      less = omega (arith, ascend.less, alike i (omega arith));
    }

-- ---- gaps

-- the gap of a neighbour with one that it lies before
below_gap : (a b : Neighbour) (i : ℕ) → Below a b i → parted i ≡ gap_of a b
unfolding gap_of
below_gap a b i below = rw (test_of_before a b (below_is_before below), difference_is a b below)

-- neighbours whose gap is a place
gap_below : (a b : Neighbour) (i : ℕ) → parted i ≡ gap_of a b → Below a b i
unfolding gap_of
gap_below a b i e = go (is_before a b) refl e
  where
    go : (t : Bool) → is_before a b ≡ t → parted i ≡ cond t (parted (difference a b)) wrong → Below a b i
    go true passed e = let at : i ≡ difference a b = cc in rw at (before_of_test a b passed)
    go false failed e = false_not_true cc

-- the same towards a side
ascend_gap : (upward : Bool) (a b : Neighbour) (i : ℕ) → Ascend upward a b i → parted i ≡ gap_toward (not upward) b a
ascend_gap false a b = below_gap b a
ascend_gap true a b = below_gap a b

pub gap_ascends : (upward : Bool) (a b : Neighbour) (i : ℕ) → parted i ≡ gap_toward upward a b → Ascend upward a b i
gap_ascends false a b = gap_below b a
gap_ascends true a b = gap_below a b

-- ---- a label in its window

-- labels that agree before place m, which is not beyond the first one's end, differ from there on only
agreed_place : (x y : Label) (m : ℕ) → ((j : ℕ) → j < m → number_with (held x) j ≡ number_with (held y) j)
    → m ≤ suc (length x) → m ≤ difference_place x y
unfolding difference_place
agreed_place x y m agree short = go (compares_by_places x y)
  where
    not_before : (i : ℕ) → (i < m → ⊥) → m ≤ i
    not_before i n = from (ltb_view i m)
      where
        from : {b : Bool} → Ltb i m b → m ≤ i
        from (lt_yes before) = absurd (n before)
        from (lt_no after) = after

    go : {r : Comparison} → Finds x y r → m ≤ place_of r
    go (is_smaller_lem {i} s) = not_before i (λ before. omega (arith, (below_of_smaller s).less, agree i before))
    go (is_same alike end) = omega arith
    go (is_larger {i} s) = not_before i (λ before. omega (arith, (below_of_smaller s).less, agree i before))

module _ (upward : Bool) (far near : Neighbour) (x : Label) (m i : ℕ) (window : Ascend upward far near m)
    (first : Ascend upward (held x) near i) where
  -- x and near part after the window does: x and far part where it does
  pub late_right : m < i → parted m ≡ gap_toward (not upward) (held x) far
  late_right late =
      ascend_gap upward far (held x) m
      (ascend_alike upward far near (held x) m window (λ j most. agreed upward (held x) near i first j (omega arith)))

-- they part where the window does: x and far agree before that place
pub open_starts : (upward : Bool) (far near : Neighbour) (x : Label) (m : ℕ) → Ascend upward far near m
    → Ascend upward (held x) near m → MayStart far (held x) (max 1 m)
open_starts upward none_below near x m window first =
    record { low = omega arith; high = omega (arith, ascend_place upward none_below near m window) }
open_starts upward (held y) near x m window first =
    let far : m ≤ difference_place y x =
    agreed_place y x m
    (λ j before. agreed upward (held y) near m window j before ∙ sym (agreed upward (held x) near m first j before))
    (omega (arith, difference_first y near, ascend_place upward (held y) near m window)) in
    record { low = omega arith; high = omega arith }
open_starts upward none_above near x m window first =
    record { low = omega arith; high = omega (arith, ascend_place upward none_above near m window) }

-- between neighbours p and s that part at place m, x parts from one of them there, and from the other no earlier
pub outer_place : (p s : Neighbour) (x : Label) (m i k : ℕ) → Below p s m → parted i ≡ gap_of p (held x)
    → parted k ≡ gap_of (held x) s → m ≡ min i k
outer_place p s x m i k window low high =
    place_unique window (below_trans (gap_below p (held x) i low) (gap_below (held x) s k high))
