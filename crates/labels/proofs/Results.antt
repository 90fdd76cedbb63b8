-- The result of a comparison and the order, each from the other.
-- `found_unique`: two labels lie in one way only.  `compare_is`: so the comparison's result is that way.
-- `below_when_smaller`, `below_when_larger`, `alike_when_same`: the order, from the result.
-- `compare_smaller`, `compare_larger`, `compare_same`: the result, from the order.
-- `finds_mirrored`, `compare_mirrored`: the labels the other way round lie the other way round.
use mathlib.Core.Path.{◌≡◌, refl, sym, ap, ◌∙◌}
use Prim.Native.Nat.{ℕ, suc}
use lib.ListN.{length}
use Rattle.labels.specs.Labels.{Label, Alike, Comparison, smaller, same, larger, compare_labels}
use Rattle.labels.specs.Labels.{Finds, is_smaller_lem, is_same, is_larger}
use Rattle.labels.specs.Neighbours.{held}
use Rattle.labels.proofs.Order.{Below, place_unique, below_asymmetric, below_of_smaller, smaller_of_below}
use Rattle.labels.proofs.Alike.{alike_sym, alike_not_below}
use Rattle.labels.proofs.Compare.{compares_by_places}

-- two labels lie in one way only
pub found_unique : {x y : Label} {r q : Comparison} → Finds x y r → Finds x y q → r ≡ q
found_unique (is_smaller_lem s) (is_smaller_lem t) = ap smaller (place_unique (below_of_smaller s) (below_of_smaller t))
found_unique (is_smaller_lem s) (is_same alike end) = absurd (alike_not_below alike (below_of_smaller s))
found_unique (is_smaller_lem s) (is_larger t) = absurd (below_asymmetric (below_of_smaller s) (below_of_smaller t))
found_unique (is_same alike end) (is_smaller_lem t) = absurd (alike_not_below alike (below_of_smaller t))
found_unique (is_same alike end) (is_same like stop) = ap same (end ∙ sym stop)
found_unique (is_same alike end) (is_larger t) = absurd (alike_not_below (alike_sym alike) (below_of_smaller t))
found_unique (is_larger s) (is_smaller_lem t) = absurd (below_asymmetric (below_of_smaller s) (below_of_smaller t))
found_unique (is_larger s) (is_same alike end) = absurd (alike_not_below (alike_sym alike) (below_of_smaller s))
found_unique (is_larger s) (is_larger t) = ap larger (place_unique (below_of_smaller s) (below_of_smaller t))

-- what is so is what the comparison finds
pub compare_is : {x y : Label} {r : Comparison} → Finds x y r → compare_labels x y ≡ r
compare_is {x} {y} found = found_unique (compares_by_places x y) found

-- what the comparison finds is so
finds_when : {x y : Label} {r : Comparison} → compare_labels x y ≡ r → Finds x y r
finds_when {x} {y} e = rw e at (compares_by_places x y)

module _ {x y : Label} {i : ℕ} where
  -- a label below another compares smaller
  pub compare_smaller : Below (held x) (held y) i → compare_labels x y ≡ smaller i
  compare_smaller below = compare_is (is_smaller_lem (smaller_of_below below))

  -- a label above another compares larger
  pub compare_larger : Below (held y) (held x) i → compare_labels x y ≡ larger i
  compare_larger below = compare_is (is_larger (smaller_of_below below))

  -- what each finding says
  found_smaller : Finds x y (smaller i) → Below (held x) (held y) i
  found_smaller (is_smaller_lem s) = below_of_smaller s

  found_larger : Finds x y (larger i) → Below (held y) (held x) i
  found_larger (is_larger s) = below_of_smaller s

  found_same : Finds x y (same i) → Alike x y
  found_same (is_same alike end) = alike

  -- a label that compares smaller is below
  pub below_when_smaller : compare_labels x y ≡ smaller i → Below (held x) (held y) i
  below_when_smaller e = found_smaller (finds_when e)

  -- a label that compares larger is above
  pub below_when_larger : compare_labels x y ≡ larger i → Below (held y) (held x) i
  below_when_larger e = found_larger (finds_when e)

  -- labels that compare the same are alike
  pub alike_when_same : compare_labels x y ≡ same i → Alike x y
  alike_when_same e = found_same (finds_when e)

-- labels that are alike compare the same, up to the place after their end
pub compare_same : {x y : Label} → Alike x y → compare_labels x y ≡ same (suc (length x))
compare_same alike = compare_is (is_same alike refl)

-- a finding, seen from the second label
abbrev pub mirrored : Comparison → Comparison
mirrored (smaller i) = larger i
mirrored (same i) = same i
mirrored (larger i) = smaller i

-- what is found of two labels is found mirrored the other way round
pub finds_mirrored : {x y : Label} {r : Comparison} → Finds x y r → Finds y x (mirrored r)
finds_mirrored (is_smaller_lem s) = is_larger s
finds_mirrored (is_same alike end) = is_same (alike_sym alike) (end ∙ ap suc alike.lengths)
finds_mirrored (is_larger s) = is_smaller_lem s

-- the comparison the other way round gives the mirrored result
pub compare_mirrored : (x y : Label) → compare_labels y x ≡ mirrored (compare_labels x y)
compare_mirrored x y = compare_is (finds_mirrored (compares_by_places x y))
