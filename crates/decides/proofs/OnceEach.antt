-- Lists of numbers in which no number stands twice.
-- `first_or_after`, `once_more`: what occurs in a list with one more number in front, and how often.
-- `all_append`, `all_occurring`, `all_of_occurring`: what is so of all numbers of a list is so of each that occurs.
-- `exactly_of_distinct`: n numbers of 1 to n, none of them twice, are exactly the numbers 1 to n.
use mathlib.Core.List.{List, [], ◌∷◌, ◌++◌}
use mathlib.Core.Path.{◌≡◌, refl, ap}
use mathlib.Core.Bool.{Bool, true, false}
use Prim.Native.Nat.{ℕ, zero, suc, ◌+◌, ◌≤◌, ◌<◌}
use native.Mathlib.Omega.{arith}
use native.Mathlib.Decide.{dec_le}
use lib.Dec.{eqb}
use lib.ListN.{length}
use borrow.Author.Tests.{eqb-true, eq-eqb, ne_eqb}
use Rattle.trees.specs.Valid.{one_if, occurrences}
use Rattle.trees.proofs.Counts.{Exactly}

-- What occurs in a list stands first in it or occurs after.
pub first_or_after : {A : Type 0} (k j : ℕ) (list : List ℕ) → (k ≡ j → A) → (1 ≤ occurrences k list → A)
    → 1 ≤ occurrences k (j ∷ list) → A
first_or_after {A} k j list first after occurs = go (eqb k j) refl
  where
    go : (b : Bool) → eqb k j ≡ b → A
    go true e = first (eqb-true k j e)
    go false e = after (omega (arith, ap one_if e))

-- One more number before a list in which none stands twice, and which it does not occur in.
pub once_more : (k j : ℕ) (list : List ℕ) → (k ≡ j → 1 ≤ occurrences k list → ⊥) → occurrences k list ≤ 1
    → occurrences k (j ∷ list) ≤ 1
once_more k j list new once = go (eqb k j) refl (dec_le 1 (occurrences k list))
  where
    go : (b : Bool) → eqb k j ≡ b → Dec (1 ≤ occurrences k list) → one_if (eqb k j) + occurrences k list ≤ 1
    go true e (yes again) = absurd (new (eqb-true k j e) again)
    go true e (no never) = omega (arith, ap one_if e)
    go false e d = omega (arith, ap one_if e)

-- each number of the list is such
pub data All (P : ℕ → Type 0) : List ℕ → Type 0 where
  all_none : All P []
  all_more : {k : ℕ} {list : List ℕ} → P k → All P list → All P (k ∷ list)

module _ {P : ℕ → Type 0} where
  -- What is so of all numbers of two lists is so of all of both.
  pub all_append : {a b : List ℕ} → All P a → All P b → All P (a ++ b)
  all_append all_none of_b = of_b
  all_append (all_more here of_a) of_b = all_more here (all_append of_a of_b)

  -- What is so of all numbers of a list is so of each that occurs in it.
  pub all_occurring : {list : List ℕ} → All P list → (k : ℕ) → 1 ≤ occurrences k list → P k
  all_occurring all_none k occurs = absurd (omega arith)
  all_occurring (all_more {k = j} {list} here there) k occurs =
      first_or_after k j list (λ first. rw first here) (all_occurring there k) occurs

  -- What is so of each number that occurs in a list is so of all its numbers.
  pub all_of_occurring : (list : List ℕ) → ((k : ℕ) → 1 ≤ occurrences k list → P k) → All P list
  all_of_occurring [] each = all_none
  all_of_occurring (j ∷ list) each =
      all_more (each j (omega (arith, ap one_if (eq-eqb j j refl))))
      (all_of_occurring list (λ k occurs. each k (omega arith)))

-- a number is one of 1 to n
pub record InRange (n k : ℕ) : Type 0 where
  pub low : 1 ≤ k
  pub high : k ≤ n

-- how many numbers of a list are among 1 to n
abbrev count_up_to : ℕ → List ℕ → ℕ
count_up_to zero list = 0
count_up_to (suc n) list = occurrences (suc n) list + count_up_to n list

count_of_none : (n : ℕ) → count_up_to n [] ≡ 0
count_of_none zero = refl
count_of_none (suc n) = omega (arith, count_of_none n)

-- One more number above n leaves the count; one of 1 to n adds one.
count_beyond : (n j : ℕ) (list : List ℕ) → n < j → count_up_to n (j ∷ list) ≡ count_up_to n list
count_beyond zero j list beyond = refl
count_beyond (suc n) j list beyond =
    omega (arith, count_beyond n j list (omega arith), ap one_if (ne_eqb (suc n) j (λ e. omega arith)))

count_inside : (n j : ℕ) (list : List ℕ) → InRange n j → count_up_to n (j ∷ list) ≡ suc (count_up_to n list)
count_inside zero j list range = absurd (omega arith)
count_inside (suc n) j list range = go (dec_le j n) (λ inside. count_inside n j list inside)
  where
    go : Dec (j ≤ n) → (InRange n j → count_up_to n (j ∷ list) ≡ suc (count_up_to n list))
        → count_up_to (suc n) (j ∷ list) ≡ suc (count_up_to (suc n) list)
    go (yes below) further =
        omega (arith, further (omega arith), ap one_if (ne_eqb (suc n) j (λ e. omega arith)))
    go (no top) further =
        omega (arith, count_beyond n j list (omega arith), ap one_if (eq-eqb (suc n) j (omega arith)))

-- A list of numbers of 1 to n counts as long as it is.
count_of_ranged : {n : ℕ} {list : List ℕ} → All (InRange n) list → count_up_to n list ≡ length list
count_of_ranged {n} all_none = count_of_none n
count_of_ranged {n} (all_more {k} {list} here there) =
    omega (arith, count_inside n k list here, count_of_ranged there)

module _ (list : List ℕ) (distinct : (k : ℕ) → occurrences k list ≤ 1) where
  count_at_most : (n : ℕ) → count_up_to n list ≤ n
  count_at_most zero = omega arith
  count_at_most (suc n) = omega (arith, distinct (suc n), count_at_most n)

  -- Where none of 1 to n occurs twice and they are n in all, each occurs.
  each_once : (n : ℕ) → count_up_to n list ≡ n → (k : ℕ) → 1 ≤ k → k ≤ n → occurrences k list ≡ 1
  each_once zero counted k low up = absurd (omega arith)
  each_once (suc n) counted k low up =
      go (dec_le k n) (each_once n (omega (arith, distinct (suc n), count_at_most n)) k low)
    where
      go : Dec (k ≤ n) → (k ≤ n → occurrences k list ≡ 1) → occurrences k list ≡ 1
      go (yes below) further = further below
      go (no top) further =
          let last : k ≡ suc n = omega arith in
          rw last (omega (arith, distinct (suc n), count_at_most n))

  -- n numbers of 1 to n, none of them twice, are exactly the numbers 1 to n.
  pub exactly_of_distinct : {n : ℕ} → length list ≡ n → All (InRange n) list → Exactly n list
  exactly_of_distinct {n} counted ranged =
      record { counted = counted; once = each_once n (omega (arith, count_of_ranged ranged)) }
