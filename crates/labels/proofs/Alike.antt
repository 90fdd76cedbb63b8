-- Labels that differ at no place.
-- `alike_refl`, `alike_sym`, `alike_trans`: `Alike` is an equivalence.
-- `below_alike`, `alike_below`: a label like another lies as it does.
-- `alike_not_below`: of two labels that are alike none is below the other.
use mathlib.Core.Path.{◌≡◌, refl, sym, ◌∙◌}
use Prim.Native.Nat.{ℕ, zero, suc}
use native.Mathlib.Omega.{arith}
use Rattle.labels.specs.Labels.{Label, Alike}
use Rattle.labels.specs.Neighbours.{Neighbour, held}
use Rattle.labels.proofs.Order.{number_with, Below, below_irreflexive}

-- a label is like itself
pub alike_refl : (x : Label) → Alike x x
alike_refl x = record { numbers = λ j. refl; lengths = refl }

-- a label is like each that is like it
pub alike_sym : {x y : Label} → Alike x y → Alike y x
alike_sym alike = record { numbers = λ j. sym (alike.numbers j); lengths = sym alike.lengths }

-- labels like the same label are alike
pub alike_trans : {x y z : Label} → Alike x y → Alike y z → Alike x z
alike_trans first second =
    record { numbers = λ j. first.numbers j ∙ second.numbers j; lengths = first.lengths ∙ second.lengths }

-- the same numbers at all places, the made-up place 0 too
abbrev SameNumbers : Neighbour → Neighbour → Type 0
SameNumbers a b = (j : ℕ) → number_with a j ≡ number_with b j

-- labels that are alike have the same numbers
numbers_of_alike : {x y : Label} → Alike x y → SameNumbers (held x) (held y)
numbers_of_alike alike zero = refl
numbers_of_alike alike (suc j) = alike.numbers (suc j)

-- the order reads nothing but the numbers
below_by_numbers : {a b c d : Neighbour} {i : ℕ} → Below b c i → SameNumbers a b → SameNumbers d c → Below a d i
below_by_numbers {i = i} below low high = record {
  agree = λ j early. low j ∙ below.agree j early ∙ sym (high j);
  less = omega (arith, below.less, low i, high i);
}

-- what is below a label is below each label like it
pub below_alike : {p : Neighbour} {x c : Label} {i : ℕ} → Below p (held c) i → Alike x c → Below p (held x) i
below_alike below alike = below_by_numbers below (λ j. refl) (numbers_of_alike alike)

-- what is above a label is above each label like it
pub alike_below : {s : Neighbour} {x c : Label} {i : ℕ} → Below (held c) s i → Alike x c → Below (held x) s i
alike_below below alike = below_by_numbers below (numbers_of_alike alike) (λ j. refl)

-- of two labels that are alike none is below the other
pub alike_not_below : {x y : Label} {i : ℕ} → Alike x y → Below (held x) (held y) i → ⊥
alike_not_below alike below = below_irreflexive (below_alike below alike)
