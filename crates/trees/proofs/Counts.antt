-- How often a number stands in a list.
-- occurrences_append: the counts of two lists add up.
-- member_occurs: a member of a list occurs at least once.
-- Exactly: the list holds each of 1 to high once, and nothing more. exactly_of_test, test_of_exactly: that is the test.
-- Outside: a number that is none of 1 to high; outside_never_occurs: such a number does not occur.
-- occurs_inside, occurs_at_most_once: what occurs is one of 1 to high, and occurs once.
-- occurs_in_one_part: what occurs in one part of the list does not occur in the other.
use mathlib.Core.List.{List, [], ◌∷◌, ◌++◌, Memᴰ}
use mathlib.Core.Path.{◌≡◌, refl, ap}
use mathlib.Core.Bool.{Bool, true, false}
use Prim.Native.Nat.{ℕ, zero, suc, ◌+◌, ◌≤◌}
use native.Mathlib.Omega.{arith}
use native.Mathlib.Decide.{dec_le}
use lib.Dec.{eqb}
use lib.ListN.{length}
use borrow.Author.Tests.{eqb-true, eq-eqb, ne_eqb}
use Rattle.trees.specs.Valid.{one_if, occurrences, once_up_to, exactly_up_to}
use Rattle.trees.proofs.Views.{both_true}

-- The counts of two lists add up.
pub occurrences_append : (k : ℕ) (a b : List ℕ) → occurrences k (a ++ b) ≡ occurrences k a + occurrences k b
occurrences_append k [] b = omega arith
occurrences_append k (j ∷ a) b = omega (arith, occurrences_append k a b)

-- A member of a list occurs at least once.
pub member_occurs : {k : ℕ} {list : List ℕ} → Memᴰ k list → 1 ≤ occurrences k list
member_occurs {k} (Memᴰ.head {x} here) = omega (arith, ap one_if (eq-eqb k x here))
member_occurs (Memᴰ.tail there) = omega (arith, member_occurs there)

-- the list holds each of 1 to high once, and has no more than high numbers
pub record Exactly (high : ℕ) (list : List ℕ) : Type 0 where
  pub counted : length list ≡ high
  pub once : (k : ℕ) → 1 ≤ k → k ≤ high → occurrences k list ≡ 1

once_of_test : (n : ℕ) (list : List ℕ) → once_up_to n list ≡ true
    → (k : ℕ) → 1 ≤ k → k ≤ n → occurrences k list ≡ 1
once_of_test zero list passed k low up = absurd (omega arith)
once_of_test (suc n) list passed k low up =
    go (dec_le k n) (once_of_test n list parts.1 k low)
  where
    parts : (eqb (occurrences (suc n) list) 1 ≡ true) × (once_up_to n list ≡ true)
    parts = (both_true (eqb (occurrences (suc n) list) 1) (once_up_to n list)).0 passed

    go : Dec (k ≤ n) → (k ≤ n → occurrences k list ≡ 1) → occurrences k list ≡ 1
    go (yes less) further = further less
    go (no last) further =
        let top : k ≡ suc n = omega arith in
        rw top (eqb-true (occurrences (suc n) list) 1 parts.0)

test_of_once : (n : ℕ) (list : List ℕ) → ((k : ℕ) → 1 ≤ k → k ≤ n → occurrences k list ≡ 1)
    → once_up_to n list ≡ true
test_of_once zero list once = refl
test_of_once (suc n) list once =
    rw (eq-eqb (occurrences (suc n) list) 1 (once (suc n) (omega arith) (omega arith)))
    (test_of_once n list (λ k low up. once k low (omega arith)))

-- The test for exactly 1 to high says so.
pub exactly_of_test : (high : ℕ) (list : List ℕ) → exactly_up_to high list ≡ true → Exactly high list
exactly_of_test high list passed =
    let parts = (both_true (eqb (length list) high) (once_up_to high list)).0 passed in
    record { counted = eqb-true (length list) high parts.0; once = once_of_test high list parts.1 }

pub test_of_exactly : {high : ℕ} {list : List ℕ} → Exactly high list → exactly_up_to high list ≡ true
test_of_exactly {high} {list} exact =
    rw (eq-eqb (length list) high exact.counted) (test_of_once high list exact.once)

-- a number that is none of 1 to n
abbrev pub Outside : ℕ → ℕ → Type 0
Outside n k = (i : ℕ) → 1 ≤ i → i ≤ n → k ≡ i → ⊥

-- how many numbers of a list are among 1 to n
abbrev count_up_to : ℕ → List ℕ → ℕ
count_up_to zero list = 0
count_up_to (suc n) list = occurrences (suc n) list + count_up_to n list

count_up_to_cons : (n j : ℕ) (list : List ℕ) → count_up_to n (j ∷ list) ≡ count_up_to n (j ∷ []) + count_up_to n list
count_up_to_cons zero j list = omega arith
count_up_to_cons (suc n) j list = omega (arith, count_up_to_cons n j list)

-- One number is at most one of 1 to n and a number outside them.
counts_once : (n j k : ℕ) → Outside n k → count_up_to n (j ∷ []) + one_if (eqb k j) ≤ 1
counts_once zero j k out = go (eqb k j)
  where
    go : (b : Bool) → 0 + one_if b ≤ 1
    go true = omega arith
    go false = omega arith
counts_once (suc n) j k out =
    go (eqb k j) refl (counts_once n j k (λ i low up. out i low (omega arith)))
    (counts_once n j (suc n) (λ i low up equal. omega arith))
  where
    go : (b : Bool) → eqb k j ≡ b → count_up_to n (j ∷ []) + one_if (eqb k j) ≤ 1
        → count_up_to n (j ∷ []) + one_if (eqb (suc n) j) ≤ 1 → count_up_to (suc n) (j ∷ []) + one_if (eqb k j) ≤ 1
    go true here below top =
        let equal : k ≡ j = eqb-true k j here in
        let apart : (suc n ≡ j → ⊥) = λ top. out (suc n) (omega arith) (omega arith) (omega arith) in
        omega (arith, ap one_if (ne_eqb (suc n) j apart))
    go false elsewhere below top = omega (arith, ap one_if elsewhere)

-- A list has room for its numbers among 1 to n and those equal to a number outside them.
count_fits : (n k : ℕ) (list : List ℕ) → Outside n k → count_up_to n list + occurrences k list ≤ length list
count_fits n k [] out = go n
  where
    go : (n : ℕ) → count_up_to n [] + 0 ≤ 0
    go zero = omega arith
    go (suc n) = omega (arith, go n)
count_fits n k (j ∷ list) out =
    omega (arith, count_up_to_cons n j list, counts_once n j k out, count_fits n k list out)

count_of_once : (n : ℕ) (list : List ℕ) → ((k : ℕ) → 1 ≤ k → k ≤ n → occurrences k list ≡ 1) → count_up_to n list ≡ n
count_of_once zero list once = refl
count_of_once (suc n) list once =
    omega (arith, once (suc n) (omega arith) (omega arith), count_of_once n list (λ k low up. once k low (omega arith)))

module _ {high : ℕ} {list : List ℕ} (exact : Exactly high list) where
  -- A number outside 1 to high does not occur.
  pub outside_never_occurs : (k : ℕ) → Outside high k → occurrences k list ≡ 0
  outside_never_occurs k out =
      omega (arith, count_fits high k list out, count_of_once high list exact.once, exact.counted)

  -- What occurs is one of 1 to high.
  pub occurs_inside : (k : ℕ) → 1 ≤ occurrences k list → (1 ≤ k) × (k ≤ high)
  occurs_inside k occurs = (low (dec_le 1 k), up (dec_le k high))
    where
      low : Dec (1 ≤ k) → 1 ≤ k
      low (yes inside) = inside
      low (no below) = absurd (omega (arith, outside_never_occurs k (λ i from to equal. omega arith)))

      up : Dec (k ≤ high) → k ≤ high
      up (yes inside) = inside
      up (no above) = absurd (omega (arith, outside_never_occurs k (λ i from to equal. omega arith)))

  -- No number occurs twice.
  pub occurs_at_most_once : (k : ℕ) → occurrences k list ≤ 1
  occurs_at_most_once k = go (dec_le 1 (occurrences k list))
    where
      go : Dec (1 ≤ occurrences k list) → occurrences k list ≤ 1
      go (yes occurs) = omega (arith, exact.once k (occurs_inside k occurs).0 (occurs_inside k occurs).1)
      go (no never) = omega arith

-- What occurs in one part does not occur in the other.
pub occurs_in_one_part : {high : ℕ} (a b : List ℕ) → Exactly high (a ++ b)
    → (k : ℕ) → occurrences k a + occurrences k b ≤ 1
occurs_in_one_part a b exact k = omega (arith, occurs_at_most_once exact k, occurrences_append k a b)
