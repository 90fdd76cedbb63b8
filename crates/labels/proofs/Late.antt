-- A comparison that starts late.
-- `compare_equal`: a place where the numbers are equal leaves it to the further ones.
-- `compare_late`: it finds what the whole comparison finds, if that ends at its first place or later.
use mathlib.Core.List.{[], ◌∷◌}
use mathlib.Core.Path.{◌≡◌, refl, sym, ap, ◌∙◌}
use Prim.Native.Nat.{ℕ, zero, suc, ◌-◌, ◌≤◌, ◌<◌, compare, Ordering}
use native.Mathlib.Omega.{arith}
use lib.ListN.{length, drop}
use Rattle.labels.specs.Labels.{Label, number_of, number_at, Comparison, compare_numbers, compare_at, compare_labels}
use Rattle.labels.specs.Labels.{compare_from, place_of, Finds, is_smaller_lem, is_same, is_larger}
use Rattle.labels.proofs.Numbers.{Ordered, is_lt, is_eq, is_gt, ordered, number_positive}
use Rattle.labels.proofs.Compare.{later, next_place, compares_by_places}
use Rattle.labels.proofs.Ends.{ends_of_labels}

-- labels agree at each place before the one where their comparison ends
agree_before_end : {x y : Label} {r : Comparison} → Finds x y r
    → (j : ℕ) → j < place_of r → number_at x j ≡ number_at y j
agree_before_end found zero early = refl
agree_before_end (is_smaller_lem s) (suc j) early = s.before (suc j) (omega arith) early
agree_before_end (is_same alike end) (suc j) early = alike.numbers (suc j)
agree_before_end (is_larger s) (suc j) early = sym (s.before (suc j) (omega arith) early)

-- equal numbers leave it to the further places
pub compare_equal : (i m n : ℕ) (r : Comparison) → m ≡ n → compare_numbers (compare m n) i r ≡ r
compare_equal i m n r equal = go (ordered m n)
  where
    go : {o : Ordering} → Ordered m n o → compare_numbers o i r ≡ r
    go (is_lt less) = absurd (omega arith)
    go (is_eq e) = refl
    go (is_gt more) = absurd (omega arith)

-- places that agree may be passed over
compare_dropped : (d : ℕ) (x c : Label) → d ≤ length x → ((j : ℕ) → j ≤ d → number_at x j ≡ number_at c j)
    → compare_at (suc d) (drop d x) (drop d c) ≡ compare_at 1 x c
compare_dropped zero x c short agree = refl
compare_dropped (suc d) [] c short agree = absurd (omega arith)
compare_dropped (suc d) (a ∷ x) [] short agree = absurd (omega (arith, agree 1 (omega arith), number_positive a))
compare_dropped (suc d) (a ∷ x) (b ∷ c) short agree =
    next_place (suc d) (drop d x) (drop d c)
    ∙ ap later (compare_dropped d x c (omega arith) rest)
    ∙ sym (next_place 1 x c)
    ∙ sym (compare_equal 1 (number_of a) (number_of b) (compare_at 2 x c) (agree 1 (omega arith)))
  where
    rest : (j : ℕ) → j ≤ d → number_at x j ≡ number_at c j
    rest zero early = refl
    rest (suc j) early = agree (suc (suc j)) (omega arith)

-- a comparison from place d finds what the whole one finds, if that ends at place d or later
pub compare_late : (d : ℕ) (x c : Label) → 1 ≤ d → d ≤ place_of (compare_labels x c)
    → compare_from d x c ≡ compare_labels x c
unfolding compare_from compare_labels
compare_late zero x c positive reached = absurd (omega arith)
compare_late (suc d) x c positive reached = rw before (compare_dropped d x c short agreed)
  where
    before : suc d - 1 ≡ d
    before = omega arith

    short : d ≤ length x
    short = omega (arith, (ends_of_labels x c).first)

    agreed : (j : ℕ) → j ≤ d → number_at x j ≡ number_at c j
    agreed j early = agree_before_end (compares_by_places x c) j (omega arith)
