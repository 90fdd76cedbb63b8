-- The groups of a number, one after the other.
-- `groups_of_last`: a number below 128 is its own group. `groups_of_lower`: of any other the lowest seven bits come
-- first, with the top bit, then the groups of what is left.
-- `some_group`: there is one at least. `groups_few`: there are few of them.
-- `count_of_lower`, `count_of_last`: how many there are.
use mathlib.Core.List.{List, [], ◌∷◌}
use mathlib.Core.Bool.{Bool}
use mathlib.Core.Path.{◌≡◌, refl, ap, ◌∙◌}
use Prim.Native.Nat.{ℕ, zero, suc, ◌+◌, ◌/◌, ◌%◌, ◌≤◌, ◌<◌}
use native.Mathlib.Omega.{arith}
use lib.ListN.{length}
use borrow.Author.Tests.{lt-ltb, le-ltb}
use Rattle.labels.proofs.Numbers.{Ltb, lt_yes, lt_no, ltb_view}
use Rattle.files.specs.Groups.{groups_within, groups_of}

within_zero : (n : ℕ) → groups_within zero n ≡ n ∷ []
unfolding groups_within
within_zero n = refl

within_small : (most n : ℕ) → n < 128 → groups_within most n ≡ n ∷ []
unfolding groups_within
within_small zero n small = within_zero n
within_small (suc most) n small = rw (lt-ltb n 128 small, groups_within)

within_large : (most n : ℕ) → 128 ≤ n → groups_within (suc most) n ≡ (128 + n % 128) ∷ groups_within most (n / 128)
unfolding groups_within
within_large most n large = rw (le-ltb n 128 large, groups_within)

-- a number is written the same however many groups are at hand, where there are enough
within_enough : (few many n : ℕ) → n ≤ few → n ≤ many → groups_within few n ≡ groups_within many n
within_enough zero many n low up = rw (within_small zero n (omega arith), within_small many n (omega arith))
within_enough (suc few) zero n low up = rw (within_small (suc few) n (omega arith), within_small zero n (omega arith))
within_enough (suc few) (suc many) n low up =
    by_test (ltb_view n 128) (λ large. within_enough few many (n / 128) (omega arith) (omega arith))
  where
    by_test : {b : Bool} → Ltb n 128 b → (128 ≤ n → groups_within few (n / 128) ≡ groups_within many (n / 128))
        → groups_within (suc few) n ≡ groups_within (suc many) n
    by_test (lt_yes small) deeper = rw (within_small (suc few) n small, within_small (suc many) n small)
    by_test (lt_no large) deeper = rw (within_large few n large, within_large many n large, deeper large)

-- A number below 128 is its own group.
pub groups_of_last : (n : ℕ) → n < 128 → groups_of n ≡ n ∷ []
unfolding groups_of
groups_of_last n small = within_small n n small

-- Of any other the lowest seven bits come first, with the top bit, then the groups of what is left.
pub groups_of_lower : (n : ℕ) → 128 ≤ n → groups_of n ≡ (128 + n % 128) ∷ groups_of (n / 128)
unfolding groups_of
groups_of_lower zero large = absurd (omega arith)
groups_of_lower (suc n) large =
    within_large n (suc n) large
    ∙ ap (λ (more : List ℕ). (128 + suc n % 128) ∷ more)
    (within_enough n (suc n / 128) (suc n / 128) (omega arith) (omega arith))

-- There is one at least.
pub some_group : (n : ℕ) → 1 ≤ length (groups_of n)
some_group n = by_test (ltb_view n 128)
  where
    by_test : {b : Bool} → Ltb n 128 b → 1 ≤ length (groups_of n)
    by_test (lt_yes small) = rw (groups_of_last n small) (omega arith)
    by_test (lt_no large) = rw (groups_of_lower n large) (omega arith)

-- There are few: one for every 128 that it counts, and one.
few_within : (most n : ℕ) → length (groups_within most n) ≤ 1 + n / 128
few_within zero n = rw within_zero (omega arith)
few_within (suc most) n = by_test (ltb_view n 128) (few_within most (n / 128))
  where
    by_test : {b : Bool} → Ltb n 128 b → length (groups_within most (n / 128)) ≤ 1 + n / 128 / 128
        → length (groups_within (suc most) n) ≤ 1 + n / 128
    by_test (lt_yes small) deeper = rw (within_small (suc most) n small) (omega arith)
    by_test (lt_no large) deeper = rw (within_large most n large) (omega arith)

pub groups_few : (n : ℕ) → length (groups_of n) ≤ 1 + n / 128
unfolding groups_of
groups_few n = few_within n n

-- What is left of a number takes one group less.
pub count_of_lower : (n : ℕ) → 128 ≤ n → length (groups_of n) ≡ 1 + length (groups_of (n / 128))
count_of_lower n large = let is = ap length (groups_of_lower n large) in omega arith

pub count_of_last : (n : ℕ) → n < 128 → length (groups_of n) ≡ 1
count_of_last n small = ap length (groups_of_last n small)
