-- M-104 of document 02, "Capital and small letters name one player", said of bytes and of labels with no place number.
use Rattle.std.specs.Prelude.{[], ◌∷◌, ◌≡◌, ℕ, ◌+◌, ◌≤◌}
use Rattle.labels.specs.Labels.{Label, number_of, Alike}

-- two bytes that are the same, or one letter in either case
pub data SameLetter : ℕ → ℕ → Type 0 where
  same_byte : (a : ℕ) → SameLetter a a
  capital_first : (a : ℕ) → 65 ≤ a → a ≤ 90 → SameLetter a (a + 32)
  small_first : (a : ℕ) → 65 ≤ a → a ≤ 90 → SameLetter (a + 32) a

-- two spellings of one name: as long as each other, the same letter at each place
pub data Respelled : Label → Label → Type 0 where
  none_left : Respelled [] []
  next_letter : {a b : ℕ} {x y : Label} → SameLetter a b → Respelled x y → Respelled (a ∷ x) (b ∷ y)

-- The claim: two bytes have one number exactly when they are the same letter in either case or the same byte.
pub record NumbersAreLetters : Type 0 where
  pub one_number : {a b : ℕ} → SameLetter a b → number_of a ≡ number_of b
  pub one_letter : (a b : ℕ) → number_of a ≡ number_of b → SameLetter a b

-- The claim: two labels are alike exactly when they are two spellings of one name.
pub record AlikeIsRespelled : Type 0 where
  pub alike : {x y : Label} → Respelled x y → Alike x y
  pub respelled : (x y : Label) → Alike x y → Respelled x y
