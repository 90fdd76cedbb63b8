-- Numbers as a saved file has them.
-- `numbers_in_groups`: the groups of a number are that number written in groups, with none more than needed; read back,
-- they give it.
-- `groups_ascend`: a larger number has no fewer groups.
use mathlib.Core.List.{List, ◌∷◌, ◌++◌}
use mathlib.Core.Bool.{Bool}
use mathlib.Core.Path.{◌≡◌, sym, ap}
use Prim.Native.Nat.{ℕ, zero, suc, ◌+◌, ◌-◌, ◌*◌, ◌/◌, ◌%◌, ◌≤◌}
use native.Mathlib.Omega.{arith}
use lib.ListN.{length}
use Rattle.labels.proofs.Numbers.{Ltb, lt_yes, lt_no, ltb_view}
use Rattle.files.specs.Groups.{groups_of, InGroups, last_group, lower_group, number, read_number}
use Rattle.files.specs.Groups.{NumbersInGroups}
use Rattle.files.proofs.GroupLaws.{groups_of_last, groups_of_lower, some_group}
use Rattle.files.proofs.NumberReads.{read_last, read_lower}

-- The groups of a number are that number written in groups.
in_groups_within : (most n : ℕ) → n ≤ most → InGroups (groups_of n) n
in_groups_within zero n low = rw (groups_of_last n (omega arith)) (last_group n (omega arith))
in_groups_within (suc most) n low =
    by_test (ltb_view n 128) (λ large. in_groups_within most (n / 128) (omega arith))
  where
    by_test : {b : Bool} → Ltb n 128 b → (128 ≤ n → InGroups (groups_of (n / 128)) (n / 128)) → InGroups (groups_of n) n
    by_test (lt_yes small) deeper = rw (groups_of_last n small) (last_group n small)
    by_test (lt_no large) deeper = rw (groups_of_lower n large) (lower_group n _ (deeper large))

-- No writing of a number is shorter.
none_shorter : {bytes : List ℕ} {n : ℕ} → InGroups bytes n → length (groups_of n) ≤ length bytes
none_shorter (last_group n small) = rw (groups_of_last n small) (omega arith)
none_shorter (lower_group n more upper) = by_test (ltb_view n 128) (none_shorter upper)
  where
    by_test : {b : Bool} → Ltb n 128 b → length (groups_of (n / 128)) ≤ length more
        → length (groups_of n) ≤ suc (length more)
    by_test (lt_yes small) deeper = rw (groups_of_last n small) (omega arith)
    by_test (lt_no large) deeper = rw (groups_of_lower n large) (omega arith)

-- No other writing is as short.
no_other : {bytes : List ℕ} {n : ℕ} → InGroups bytes n → length bytes ≤ length (groups_of n) → bytes ≡ groups_of n
no_other (last_group n small) short = sym (groups_of_last n small)
no_other (lower_group n more upper) short =
    by_test (ltb_view n 128) (none_shorter upper) short (λ shorter. no_other upper shorter)
  where
    by_test : {b : Bool} → Ltb n 128 b → length (groups_of (n / 128)) ≤ length more
        → suc (length more) ≤ length (groups_of n)
        → (length more ≤ length (groups_of (n / 128)) → more ≡ groups_of (n / 128))
        → (128 + n % 128) ∷ more ≡ groups_of n
    by_test (lt_yes small) some short deeper =
        absurd (omega (arith, some_group (n / 128), ap length (groups_of_last n small)))
    by_test (lt_no large) some short deeper =
        rw (groups_of_lower n large, deeper (omega (arith, ap length (groups_of_lower n large))))

-- Read back, the groups of a number give it, whatever follows.
read_within : (most n : ℕ) (rest : List ℕ) → n ≤ most → read_number (groups_of n ++ rest) ≡ number n rest
read_within zero n rest low = rw (groups_of_last n (omega arith)) (read_last n rest (omega arith))
read_within (suc most) n rest low =
    by_test (ltb_view n 128) (λ large. read_within most (n / 128) rest (omega arith))
  where
    by_test : {b : Bool} → Ltb n 128 b
        → (128 ≤ n → read_number (groups_of (n / 128) ++ rest) ≡ number (n / 128) rest)
        → read_number (groups_of n ++ rest) ≡ number n rest
    by_test (lt_yes small) deeper = rw (groups_of_last n small) (read_last n rest small)
    by_test (lt_no large) deeper =
        let whole : 128 + n % 128 - 128 + 128 * (n / 128) ≡ n = omega arith in
        rw (
          groups_of_lower n large,
          read_lower (128 + n % 128) (groups_of (n / 128) ++ rest) (omega arith),
          deeper large,
          whole,
        )

-- Numbers are written in groups of seven bits, never more than needed, and read back.
pub numbers_in_groups : NumbersInGroups
numbers_in_groups = record {
  in_groups = λ n. in_groups_within n n (omega arith);
  shortest = λ n bytes written. none_shorter written;
  only = λ n bytes written short. no_other written short;
  of_zero = groups_of_last 0 (omega arith);
  read_back = λ n rest. read_within n n rest (omega arith);
}

-- A number up to so much has no fewer groups than a smaller one.
ascend_within : (most m n : ℕ) → n ≤ most → m ≤ n → length (groups_of m) ≤ length (groups_of n)
ascend_within zero m n low up =
    rw (groups_of_last m (omega arith), groups_of_last n (omega arith)) (omega arith)
ascend_within (suc most) m n low up =
    by_test (ltb_view m 128) (ltb_view n 128)
    (λ large. ascend_within most (m / 128) (n / 128) (omega arith) (omega arith))
  where
    by_test : {b c : Bool} → Ltb m 128 b → Ltb n 128 c
        → (128 ≤ n → length (groups_of (m / 128)) ≤ length (groups_of (n / 128)))
        → length (groups_of m) ≤ length (groups_of n)
    by_test (lt_yes small) of_n deeper = rw (groups_of_last m small) (some_group n)
    by_test (lt_no large) (lt_yes small) deeper = absurd (omega arith)
    by_test (lt_no large) (lt_no more) deeper =
        rw (groups_of_lower m large, groups_of_lower n more) (omega (arith, deeper more))

-- A larger number has no fewer groups.
pub groups_ascend : (m n : ℕ) → m ≤ n → length (groups_of m) ≤ length (groups_of n)
groups_ascend m n up = ascend_within n m n (omega arith) up
