-- Capital and small letters name one player.
-- `numbers_are_letters`: bytes have one number exactly when they are the same letter.
-- `alike_is_respelled`: labels are alike exactly when they are two spellings of one name.
use mathlib.Core.List.{[], ◌∷◌}
use mathlib.Core.Path.{◌≡◌, refl, sym, ap}
use Prim.Native.Nat.{ℕ, zero, suc, ◌+◌, ◌≤◌}
use native.Mathlib.Omega.{arith}
use lib.ListN.{length}
use Rattle.labels.specs.Labels.{Label, number_of, number_at, Alike}
use Rattle.labels.specs.Letters.{SameLetter, same_byte, capital_first, small_first}
use Rattle.labels.specs.Letters.{Respelled, none_left, next_letter, NumbersAreLetters, AlikeIsRespelled}
use Rattle.labels.proofs.Numbers.{Numbered, of_capital, of_other, number_view}

-- a capital letter and its small letter have one number
capital_number : (a : ℕ) → 65 ≤ a → a ≤ 90 → number_of a ≡ number_of (a + 32)
capital_number a low high = go (number_view a) (number_view (a + 32))
  where
    go : {m n : ℕ} → Numbered a m → Numbered (a + 32) n → m ≡ n
    go (of_capital p q) (of_capital r s) = omega arith
    go (of_capital p q) (of_other outside) = omega arith
    go (of_other outside) other = absurd (outside low high)

-- the same letter has one number
pub letter_number : {a b : ℕ} → SameLetter a b → number_of a ≡ number_of b
letter_number (same_byte a) = refl
letter_number (capital_first a low high) = capital_number a low high
letter_number (small_first a low high) = sym (capital_number a low high)

-- bytes with one number are the same letter
pub number_letter : (a b : ℕ) → number_of a ≡ number_of b → SameLetter a b
number_letter a b equal = go (number_view a) (number_view b) equal
  where
    go : {m n : ℕ} → Numbered a m → Numbered b n → m ≡ n → SameLetter a b
    go (of_capital low high) (of_capital p q) e = let same : a ≡ b = omega arith in rw same (same_byte b)
    go (of_capital low high) (of_other outside) e =
        let small : b ≡ a + 32 = omega arith in rw small (capital_first a low high)
    go (of_other outside) (of_capital low high) e =
        let small : a ≡ b + 32 = omega arith in rw small (small_first b low high)
    go (of_other outside) (of_other beyond) e = let same : a ≡ b = omega arith in rw same (same_byte b)

-- Bytes have one number exactly when they are the same letter.
pub numbers_are_letters : NumbersAreLetters
numbers_are_letters = record { one_number = letter_number; one_letter = number_letter }

-- two spellings have the same numbers
numbers_of_respelled : {x y : Label} → Respelled x y → (j : ℕ) → number_at x j ≡ number_at y j
numbers_of_respelled none_left j = refl
numbers_of_respelled (next_letter letter rest) zero = refl
numbers_of_respelled (next_letter letter rest) (suc zero) = letter_number letter
numbers_of_respelled (next_letter letter rest) (suc (suc j)) = numbers_of_respelled rest (suc j)

-- and are as long as each other
lengths_of_respelled : {x y : Label} → Respelled x y → length x ≡ length y
lengths_of_respelled none_left = refl
lengths_of_respelled (next_letter letter rest) = ap suc (lengths_of_respelled rest)

-- the rests of labels that are alike
alike_rest : {a b : ℕ} {x y : Label} → Alike (a ∷ x) (b ∷ y) → Alike x y
alike_rest {x} {y} alike = record { numbers = agreed; lengths = omega (arith, alike.lengths) }
  where
    agreed : (j : ℕ) → number_at x j ≡ number_at y j
    agreed zero = refl
    agreed (suc j) = alike.numbers (suc (suc j))

-- labels that are alike are two spellings
respelled_of_alike : (x y : Label) → Alike x y → Respelled x y
respelled_of_alike [] [] alike = none_left
respelled_of_alike [] (b ∷ y) alike = absurd (omega (arith, alike.lengths))
respelled_of_alike (a ∷ x) [] alike = absurd (omega (arith, alike.lengths))
respelled_of_alike (a ∷ x) (b ∷ y) alike =
    next_letter (number_letter a b (alike.numbers 1)) (respelled_of_alike x y (alike_rest alike))

-- Labels are alike exactly when they are two spellings of one name.
pub alike_is_respelled : AlikeIsRespelled
alike_is_respelled = record {
  alike = λ spelt. record { numbers = numbers_of_respelled spelt; lengths = lengths_of_respelled spelt };
  respelled = respelled_of_alike;
}
