-- Bytes read as one number, and what a test of eight of them says.
use Rattle.std.specs.Prelude.{ℕ, ◌+◌, ◌*◌, ◌<◌, List, [], ◌∷◌, ◌≡◌, Bool, true, take, drop}
use Rattle.labels.specs.Labels.{Label}

-- a number made of bytes, the first of them lowest
pub data Packed : ℕ → List ℕ → Type 0 where
  packs_none : Packed 0 []
  packs : (a r : ℕ) {l : List ℕ} → a < 256 → Packed r l → Packed (a + 256 * r) (a ∷ l)

-- a test of eight bytes at index i of two labels, true only where they are the same
pub record SameEight (found : Bool) (x y : Label) (i : ℕ) : Type 0 where
  pub same : found ≡ true → take 8 (drop i x) ≡ take 8 (drop i y)
