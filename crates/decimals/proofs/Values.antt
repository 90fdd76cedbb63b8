-- The value that digits write: the laws that the tactics use, by the names of two rulesets.
--     value_of_no_digit   a byte that is no digit makes a text no value
--     value_goes_on       a digit is read into the number
--     value_above         a number above 65535 is no value, whatever comes after it
--     value_ends          with no digit left the number is the one that was written
--     value_of_nothing    no byte is no value
--     value_of_zeros      a needless zero is no value
--     value_of_one        of one byte the value is the digits' number
--     value_of_others     and so it is after another first byte than 0
use Rattle.std.proofs.Common.{◌≡◌, refl, sym, ◌∙◌, Bool, true, false, ◌&&◌, List, [], ◌∷◌, ℕ, ◌+◌, ◌-◌, ◌*◌, ◌≤◌, ◌<◌}
use Rattle.std.proofs.Common.{length, get_or, drop, drop-cons, add-one, arith, Some, None}
use native.Mathlib.Nat.{le_refl, le_trans}
use lib.Dec.{eqb-suc-zero}
use borrow.Author.Tests.{le-leb, lt-leb, ne_eqb}
use lib.ListN.{drop_of_length-le}
use Rattle.decimals.specs.Decimals.{is_digit, decimal_after}
use Rattle.decimals.specs.Values.{value_of, value_after}

and_false : (a : Bool) → (a && false) ≡ false
and_false true = refl
and_false false = refl

-- further digits make no number smaller
at_least_what_came : (n : ℕ) (text : List ℕ) → n ≤ decimal_after n text
at_least_what_came n [] = le_refl n
at_least_what_came n (byte ∷ more) = le_trans (omega arith) (at_least_what_came (10 * n + (byte - 48)) more)

above : (n : ℕ) (text : List ℕ) → 65535 < n → value_after n text ≡ None
unfolding value_after
above n text more =
    let big : 65535 < decimal_after n text = le_trans more (at_least_what_came n text) in
    rw (lt-leb (decimal_after n text) 65535 big, and_false)

-- what is left from a place on, after digits that write n, gives the value of the whole
module _ (text : List ℕ) (i n : ℕ) (so_far : value_after n (drop i text) ≡ value_after 0 text) where
  -- with no digit left the number is the one that was written
  pub value_ends : length text ≤ i → n ≤ 65535 → Some n ≡ value_after 0 text
  unfolding value_after
  value_ends past small = rw (drop_of_length-le text past, le-leb n 65535 small) at so_far

  module _ (inside : i < length text) (digit : Bool) (digit_is : digit ≡ is_digit (get_or text i 0)) where
    -- a byte that is no digit makes a text no value
    pub value_of_no_digit : digit ≡ false → None ≡ value_after 0 text
    unfolding value_after
    value_of_no_digit is = rw (drop-cons text i 0 inside, ← digit_is, is) at so_far

    module _ (is : digit ≡ true) where
      -- a digit is read into the number
      pub value_goes_on : (next : ℕ) → next ≡ n * 10 + (get_or text i 0 - 48)
          → value_after next (drop (i + 1) text) ≡ value_after 0 text
      unfolding value_after
      value_goes_on next by =
          let written : 10 * n + (get_or text i 0 - 48) ≡ next = omega arith in
          rw (add-one, ← written) (rw (drop-cons text i 0 inside, ← digit_is, is) at so_far)

      -- a number above 65535 is no value, whatever comes after it
      pub value_above : 65535 < n * 10 + (get_or text i 0 - 48) → None ≡ value_after 0 text
      value_above big = sym (above _ _ big) ∙ value_goes_on _ refl

-- what `number_of` needs
pub ruleset digit_laws = (value_ends, value_of_no_digit, value_goes_on, value_above)

-- no byte is no value
pub value_of_nothing : (text : List ℕ) → length text < 1 → None ≡ value_of text
unfolding value_of
value_of_nothing [] none = refl
value_of_nothing (byte ∷ more) none = absurd (omega arith)

-- a needless zero is no value
pub value_of_zeros : (text : List ℕ) → get_or text 0 0 ≡ 48 → 2 ≤ length text → None ≡ value_of text
unfolding value_of
value_of_zeros [] is two = absurd (omega arith)
value_of_zeros (byte ∷ []) is two = absurd (omega arith)
value_of_zeros (byte ∷ next ∷ more) is two = rw (is, eqb-suc-zero, and_false)

-- of one byte the value is the digits' number
pub value_of_one : (text : List ℕ) → 1 ≤ length text → length text < 2 → value_after 0 text ≡ value_of text
unfolding value_of value_after
value_of_one [] one few = absurd (omega arith)
value_of_one (byte ∷ []) one few = refl
value_of_one (byte ∷ next ∷ more) one few = absurd (omega arith)

-- and so it is after another first byte than 0
pub value_of_others : (text : List ℕ) → 1 ≤ length text → (get_or text 0 0 ≡ 48 → ⊥)
    → value_after 0 text ≡ value_of text
unfolding value_of value_after
value_of_others [] one other = absurd (omega arith)
value_of_others (byte ∷ []) one other = refl
value_of_others (byte ∷ next ∷ more) one other = rw (eqb-suc-zero, ne_eqb byte 48 other)

-- what `value_of` needs
pub ruleset value_laws = (value_of_nothing, value_of_zeros, value_of_one, value_of_others)
