-- Zeros in a list, of which several numbers are tested at once.
-- `gathered_zero`: numbers are zero where the number of all their bits is. `list_all_zero`: tested one after the other.
-- `chunks_broken`, `chunks_passed`: a list is zero where its chunks are, and what they leave.
-- `last_settles`: where it is as its end from an index on, an end that begins before settles it.
-- `last_decides`: so do the last n, where the chunks of n are zero.
use Prim.Native.Nat.{ℕ, zero, suc, ◌+◌, ◌-◌, ◌*◌, ◌/◌, ◌≤◌}
use mathlib.Core.Path.{◌≡◌, refl, sym, ap, ◌∙◌}
use mathlib.Core.List.{List, [], ◌∷◌, ◌++◌}
use mathlib.Core.Bool.{Bool, true, false, ◌&&◌}
use native.Mathlib.Omega.{arith}
use lib.Dec.{eqb}
use lib.ListN.{length, take, drop, take-append-drop}
use lib.Seq.{drop-drop}
use borrow.Author.Tests.{ne_eqb}
use Rattle.std.specs.Int.Bits.{bit_or, or_zero_l, or_add_and, and_le_r}
use Rattle.std.specs.List.{fold, list_all}
use Rattle.std.specs.Simd.{first_chunks}
use Rattle.trees.proofs.Views.{both_true}
use Rattle.tables.specs.Sound.{all_zero}

-- ---- one number of all bits

or_zero : (a b : ℕ) → eqb (bit_or a b) 0 ≡ eqb a 0 && eqb b 0
or_zero zero b = ap (λ n. eqb n 0) (or_zero_l b)
or_zero (suc a) b =
    rw (ne_eqb (suc a) 0 (λ e. omega arith))
    (ne_eqb (bit_or (suc a) b) 0 (λ e. omega (arith, or_add_and (suc a) b, and_le_r (suc a) b, e)))

both_false : (a : Bool) → a && false ≡ false
both_false true = refl
both_false false = refl

both_assoc : (a b c : Bool) → (a && b) && c ≡ a && (b && c)
both_assoc true b c = refl
both_assoc false b c = refl

gathered_from : (a : ℕ) (xs : List ℕ) → eqb (fold bit_or a xs) 0 ≡ eqb a 0 && all_zero xs
gathered_from a [] = both_true_right (eqb a 0)
  where
    both_true_right : (t : Bool) → t ≡ t && true
    both_true_right true = refl
    both_true_right false = refl
gathered_from a (x ∷ xs) = gathered_from (bit_or a x) xs ∙ rw or_zero (both_assoc (eqb a 0) (eqb x 0) (all_zero xs))

pub gathered_zero : (r : ℕ) (xs : List ℕ) → r ≡ fold bit_or 0 xs → eqb r 0 ≡ all_zero xs
gathered_zero r xs e = rw e (gathered_from 0 xs)

-- ---- one number after the other

pub list_all_zero : (xs : List ℕ) → list_all (λ n. eqb n 0) xs ≡ all_zero xs
list_all_zero [] = refl
list_all_zero (x ∷ xs) = ap (λ t. eqb x 0 && t) (list_all_zero xs)

-- ---- chunks

append_zeros : (a b : List ℕ) → all_zero (a ++ b) ≡ all_zero a && all_zero b
append_zeros [] b = refl
append_zeros (x ∷ a) b = rw (append_zeros a b) (sym (both_assoc (eqb x 0) (all_zero a) (all_zero b)))

split_zeros : (n : ℕ) (xs : List ℕ) → all_zero xs ≡ all_zero (take n xs) && all_zero (drop n xs)
split_zeros n xs = rw append_zeros at (ap all_zero (sym (take-append-drop n xs)))

chunks_zero : (n k : ℕ) (xs : List ℕ)
    → all_zero xs ≡ list_all all_zero (first_chunks n k xs) && all_zero (drop (k * n) xs)
chunks_zero n zero xs = let none : 0 * n ≡ 0 = omega arith in rw none
chunks_zero n (suc k) xs =
    let more : n + k * n ≡ suc k * n = omega arith in
    split_zeros n xs
    ∙ ap (λ t. all_zero (take n xs) && t) (chunks_zero n k (drop n xs))
    ∙ sym (both_assoc (all_zero (take n xs)) (list_all all_zero (first_chunks n k (drop n xs))) _)
    ∙ rw (drop-drop (k * n) n xs, more)

module _ (n k : ℕ) (xs : List ℕ) (t : Bool) (tested : t ≡ list_all all_zero (first_chunks n k xs)) where
  -- a chunk is not zero
  pub chunks_broken : t ≡ false → false ≡ all_zero xs
  chunks_broken f = rw (sym tested ∙ f) at (sym (chunks_zero n k xs))

  -- each is
  pub chunks_passed : t ≡ true → all_zero (drop (k * n) xs) ≡ all_zero xs
  chunks_passed e = rw (sym tested ∙ e) at (sym (chunks_zero n k xs))

-- ---- the last numbers

pub last_settles : (xs : List ℕ) (i j : ℕ) → i ≤ j → all_zero xs ≡ all_zero (drop j xs)
    → all_zero (drop i xs) ≡ all_zero xs
last_settles xs i j before e = go (all_zero (drop i xs)) refl
  where
    step : i + (j - i) ≡ j
    step = omega arith

    go : (t : Bool) → all_zero (drop i xs) ≡ t → t ≡ all_zero xs
    go true is =
        let rest = split_zeros (j - i) (drop i xs) in
        sym ((both_true (all_zero (take (j - i) (drop i xs))) _).0 (sym rest ∙ is)).1 ∙ rw (drop-drop (j - i) i xs, step) (sym e)
    go false is = sym (split_zeros i xs ∙ rw is (both_false (all_zero (take i xs))))

-- the last n decide, where the chunks of n are zero
pub last_decides : (n : ℕ) (xs last : List ℕ) (chunks : List (List ℕ)) (b c : Bool)
    → length xs - n ≤ length xs / n * n
    → chunks ≡ first_chunks n (length xs / n) xs → b ≡ list_all all_zero chunks → b ≡ true
    → last ≡ drop (length xs - n) xs → c ≡ all_zero last → c ≡ all_zero xs
last_decides n xs last chunks b c late front b_tests passed e c_tests =
    c_tests
    ∙ ap all_zero e
    ∙ last_settles xs (length xs - n) (length xs / n * n) late
    (sym (chunks_passed n (length xs / n) xs b (b_tests ∙ ap (list_all all_zero) front) passed))
