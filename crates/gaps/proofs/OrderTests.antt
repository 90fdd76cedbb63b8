-- The test of the order of two neighbours.
-- `before_of_test`, `test_of_before`: it is true exactly for what lies before.
use mathlib.Core.Path.{◌≡◌, refl}
use mathlib.Core.Bool.{true}
use Rattle.labels.specs.Neighbours.{Neighbour, none_below, held, none_above}
use Rattle.labels.proofs.Order.{below_none_below, none_above_below}
use Rattle.labels.proofs.Order.{none_below_held, held_none_above, none_below_none_above}
use Rattle.labels.proofs.Difference.{Before, below_is_before}
use Rattle.trees.proofs.Linked.{before_of_smaller, smaller_of_before}
use Rattle.trees.proofs.Passing.{false_not_true}
use Rattle.gaps.specs.Windows.{is_before}

-- A neighbour that passes the test of the order lies before the other.
pub before_of_test : (a b : Neighbour) → is_before a b ≡ true → Before a b
before_of_test none_below none_below passed = false_not_true passed
before_of_test none_below (held y) passed = below_is_before (none_below_held y)
before_of_test none_below none_above passed = below_is_before none_below_none_above
before_of_test (held x) none_below passed = false_not_true passed
before_of_test (held x) (held y) passed = before_of_smaller x y passed
before_of_test (held x) none_above passed = below_is_before (held_none_above x)
before_of_test none_above b passed = false_not_true passed

-- A neighbour that lies before another passes it.
pub test_of_before : (a b : Neighbour) → Before a b → is_before a b ≡ true
test_of_before none_below none_below before = absurd (below_none_below before)
test_of_before none_below (held y) before = refl
test_of_before none_below none_above before = refl
test_of_before (held x) none_below before = absurd (below_none_below before)
test_of_before (held x) (held y) before = smaller_of_before before
test_of_before (held x) none_above before = refl
test_of_before none_above b before = absurd (none_above_below before)
