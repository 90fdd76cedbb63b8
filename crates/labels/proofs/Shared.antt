-- The leading bytes that labels share.
-- `place_after_shared`: a comparison ends at the place after them.
-- `shared_within`, `most_within`: they are no more than the label's bytes.
-- `most_of_append`: the most shared with the labels of two lists is the larger of the most shared with those of each.
use mathlib.Core.Bool.{Bool, cond}
use mathlib.Core.List.{List, [], ◌∷◌, ◌++◌}
use mathlib.Core.Path.{◌≡◌}
use Prim.Native.Nat.{ℕ, suc, ◌+◌, ◌≤◌, max, Ordering}
use native.Mathlib.Omega.{arith}
use lib.ListN.{length}
use Rattle.labels.specs.Labels.{Label, number_of, Comparison, compare_numbers, compare_at, compare_labels, place_of}
use Rattle.labels.specs.Labels.{difference_place}
use Rattle.labels.specs.Shared.{shared_bytes, most_shared}
use Rattle.labels.proofs.Numbers.{Ordered, is_lt, is_eq, is_gt, ordered, Eqb, eq_yes, eq_no, eqb_view}
use Rattle.labels.proofs.Ends.{ends_of_labels}

-- where a comparison of two numbers and of the further places ends, by whether the numbers are the same
place_of_numbers : {m n : ℕ} {o : Ordering} {b : Bool} (i shared : ℕ) (r : Comparison) → Ordered m n o → Eqb m n b
    → place_of r ≡ suc i + shared → place_of (compare_numbers o i r) ≡ i + cond b (suc shared) 0
place_of_numbers i shared r (is_lt less) (eq_yes equal) further = absurd (omega arith)
place_of_numbers i shared r (is_lt less) (eq_no unlike) further = omega arith
place_of_numbers i shared r (is_eq equal) (eq_yes same) further = omega arith
place_of_numbers i shared r (is_eq equal) (eq_no unlike) further = absurd (unlike equal)
place_of_numbers i shared r (is_gt more) (eq_yes equal) further = absurd (omega arith)
place_of_numbers i shared r (is_gt more) (eq_no unlike) further = omega arith

-- a comparison of what is left of two labels ends so many places further
place_past_shared : (i : ℕ) (x y : Label) → place_of (compare_at i x y) ≡ i + shared_bytes x y
place_past_shared i [] [] = omega arith
place_past_shared i [] (b ∷ y) = omega arith
place_past_shared i (a ∷ x) [] = omega arith
place_past_shared i (a ∷ x) (b ∷ y) =
    place_of_numbers i (shared_bytes x y) (compare_at (suc i) x y) (ordered (number_of a) (number_of b))
    (eqb_view (number_of a) (number_of b)) (place_past_shared (suc i) x y)

-- a comparison ends at the place after the bytes that both labels share
pub place_after_shared : (x y : Label) → difference_place x y ≡ suc (shared_bytes x y)
unfolding compare_labels difference_place
place_after_shared x y = omega (arith, place_past_shared 1 x y)

-- a label shares no more bytes than it has
pub shared_within : (x y : Label) → shared_bytes x y ≤ length x
unfolding difference_place
shared_within x y = omega (arith, place_after_shared x y, (ends_of_labels x y).first)

-- nor does it with any label held
pub most_within : (x : Label) (held : List Label) → most_shared x held ≤ length x
most_within x [] = omega arith
most_within x (y ∷ more) = omega (arith, shared_within x y, most_within x more)

-- the most shared with the labels of two lists is the larger of the most shared with those of each
pub most_of_append : (x : Label) (one other : List Label)
    → most_shared x (one ++ other) ≡ max (most_shared x one) (most_shared x other)
most_of_append x [] other = omega arith
most_of_append x (y ∷ more) other = omega (arith, most_of_append x more other)
