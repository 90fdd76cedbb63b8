-- 'Order of labels, and places' of document 01, with the place numbers of M-104 of document 02.
use Rattle.std.specs.Prelude.{Bool, ◌&&◌, cond, List, [], ◌∷◌, ◌≡◌, leb, length, drop}
use Prim.Native.Nat.{ℕ, zero, suc, ◌+◌, ◌-◌, ◌≤◌, ◌<◌, compare, Ordering}

-- a label: its bytes
abbrev pub Label : Type 0
Label = List ℕ

-- "A to Z": bytes 65 to 90
abbrev pub is_capital : ℕ → Bool
is_capital byte = leb 65 byte && leb byte 90

-- "treats A to Z as a to z": a capital letter as its small letter, which is 32 above it, any other byte as itself
abbrev pub folded : ℕ → ℕ
folded byte = cond (is_capital byte) (byte + 32) byte

-- the number that stands for a byte: "its byte plus 1", the byte that it is treated as
unfoldable pub number_of : ℕ → ℕ
number_of byte = folded byte + 1

-- "Places are counted from 1. Place i of a label of length n holds its byte plus 1 when i is at most n, and 0 (the end)
-- at place n + 1."
abbrev pub number_at : Label → ℕ → ℕ
number_at x zero = 0
number_at [] (suc i) = 0
number_at (byte ∷ x) (suc zero) = number_of byte
number_at (byte ∷ x) (suc (suc i)) = number_at x (suc i)

-- "The difference place of two unlike labels is the first place where they hold different numbers; the smaller number
-- there is the smaller label."
pub record SmallerAt (x y : Label) (i : ℕ) : Type 0 where
  pub place : 1 ≤ i
  pub before : (j : ℕ) → 1 ≤ j → j < i → number_at x j ≡ number_at y j
  pub there : number_at x i < number_at y i

-- two labels that differ at no place
pub record Alike (x y : Label) : Type 0 where
  pub numbers : (j : ℕ) → number_at x j ≡ number_at y j
  pub lengths : length x ≡ length y

-- what a comparison of two labels finds: the first smaller or larger, at the difference place, or both alike, at the
-- place of their shared end
pub data Comparison : Type 0 where
  smaller : ℕ → Comparison
  same : ℕ → Comparison
  larger : ℕ → Comparison

-- by the order of the two numbers at place i; further is what the places after it give
abbrev pub compare_numbers : Ordering → ℕ → Comparison → Comparison
compare_numbers Ordering.lt i further = smaller i
compare_numbers Ordering.eq i further = further
compare_numbers Ordering.gt i further = larger i

-- what is left of two labels, whose first bytes stand at place i
abbrev pub compare_at : ℕ → Label → Label → Comparison
compare_at i [] [] = same i
compare_at i [] (b ∷ y) = smaller i
compare_at i (a ∷ x) [] = larger i
compare_at i (a ∷ x) (b ∷ y) = compare_numbers (compare (number_of a) (number_of b)) i (compare_at (suc i) x y)

-- the whole labels
unfoldable pub compare_labels : Label → Label → Comparison
compare_labels x y = compare_at 1 x y

-- "examines places d, d + 1 and on of both labels up to the first difference or the shared end"
unfoldable pub compare_from : ℕ → Label → Label → Comparison
compare_from d x y = compare_at d (drop (d - 1) x) (drop (d - 1) y)

-- the place at which a comparison ends
abbrev pub place_of : Comparison → ℕ
place_of (smaller i) = i
place_of (same i) = i
place_of (larger i) = i

unfoldable pub difference_place : Label → Label → ℕ
difference_place x y = place_of (compare_labels x y)

-- what a comparison finds is so
pub data Finds (x y : Label) : Comparison → Type 0 where
  is_smaller_lem : {i : ℕ} → SmallerAt x y i → Finds x y (smaller i)
  is_same : {i : ℕ} → Alike x y → i ≡ suc (length x) → Finds x y (same i)
  is_larger : {i : ℕ} → SmallerAt y x i → Finds x y (larger i)

-- The claim: a comparison finds the difference place and the order as the two sentences have them, or that the labels
-- are alike.
abbrev pub ComparesByPlaces : Type 0
ComparesByPlaces = (x y : Label) → Finds x y (compare_labels x y)
