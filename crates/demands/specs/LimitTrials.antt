-- Limits on the places of a search that are too small, and a search that keeps to none of them (M-113 of document 02).
use Rattle.std.specs.Prelude.{cond, [], ◌∷◌, ℕ, suc, ◌-◌, max, eqb}
use Rattle.labels.specs.Labels.{Label, compare_labels}
use Rattle.labels.specs.Shared.{most_shared}
use Rattle.tables.specs.Steps.{StepRule, compare_step}
use Rattle.demands.specs.PlaceLimits.{ByteLimit}

-- a byte less
abbrev pub one_less : ByteLimit
one_less x held = most_shared x held - 1

-- by the bytes themselves instead of "M-104's place numbers"
abbrev pub same_bytes : Label → Label → ℕ
same_bytes [] y = 0
same_bytes (a ∷ x) [] = 0
same_bytes (a ∷ x) (b ∷ y) = cond (eqb a b) (suc (same_bytes x y)) 0

abbrev pub most_same : ByteLimit
most_same x [] = 0
most_same x (y ∷ more) = max (same_bytes x y) (most_same x more)

-- steps that compare the whole labels at each node, and so examine the same leading places again
abbrev pub whole_step : StepRule
whole_step x c side d p s = compare_step (compare_labels x c) 1 p s
