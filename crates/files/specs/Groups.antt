-- Numbers as a saved file has them (M-105 of document 02): "Numbers are written in groups of seven bits, the lowest
-- group first, the top bit set on all groups but the last, and never more groups than needed; 0 takes one."
use Rattle.std.specs.Prelude.{List, [], ◌∷◌, ◌++◌, true, false, ◌≡◌, ℕ, zero, suc, ◌+◌, ◌-◌, ◌*◌, ◌/◌, ◌%◌, ◌≤◌, ◌<◌, ltb, length}

-- the groups of a number, with so many before the last one at most
unfoldable pub groups_within : (most : ℕ) → ℕ → List ℕ
groups_within zero n = n ∷ []
groups_within (suc most) n =
    elim (ltb n 128) [
      | true ↦ n ∷ []
      | false ↦ (128 + n % 128) ∷ groups_within most (n / 128)
    ]

-- the groups of a number, which has no more of them before the last one than it counts
unfoldable pub groups_of : ℕ → List ℕ
groups_of n = groups_within n n

-- "groups of seven bits, the lowest group first, the top bit set on all groups but the last", needed or not: bytes that
-- are a number so written
pub data InGroups : List ℕ → ℕ → Type 0 where
  last_group : (n : ℕ) → n < 128 → InGroups (n ∷ []) n
  lower_group : (n : ℕ) (more : List ℕ) → InGroups more (n / 128) → InGroups ((128 + n % 128) ∷ more) n

-- a number read from the front of bytes, with those after it; or none, as where they end first
pub data NumberRead : Type 0 where
  no_number : NumberRead
  number : (n : ℕ) (rest : List ℕ) → NumberRead

abbrev pub above : ℕ → NumberRead → NumberRead
above low no_number = no_number
above low (number n rest) = number (low + 128 * n) rest

unfoldable pub read_number : List ℕ → NumberRead
read_number [] = no_number
read_number (byte ∷ rest) =
    elim (ltb byte 128) [
      | true ↦ number byte rest
      | false ↦ above (byte - 128) (read_number rest)
    ]

-- The claim.
pub record NumbersInGroups : Type 0 where
  pub in_groups : (n : ℕ) → InGroups (groups_of n) n
  -- "never more groups than needed": no shorter writing exists, and no other one as short
  pub shortest : (n : ℕ) (bytes : List ℕ) → InGroups bytes n → length (groups_of n) ≤ length bytes
  pub only : (n : ℕ) (bytes : List ℕ) → InGroups bytes n → length bytes ≤ length (groups_of n) → bytes ≡ groups_of n
  -- "0 takes one"
  pub of_zero : groups_of 0 ≡ 0 ∷ []
  -- read back, groups give the number, whatever follows
  pub read_back : (n : ℕ) (rest : List ℕ) → read_number (groups_of n ++ rest) ≡ number n rest
