-- The plain ordered map from labels to values and charges: an ascending list of pairs, with lookup, insertion and
-- removal, the charge of a label set, and the neighbours of a label in it.
use Rattle.std.specs.Prelude.{true, ◌⊎◌, ◌≡◌, ℕ}
use mathlib.Core.List.{List, [], ◌∷◌, map, Memᴰ}
use Rattle.std.proofs.Math.Option.{Option, none, some}
use Rattle.labels.specs.Labels.{Label, Comparison, smaller, same, larger, compare_labels}
use Rattle.trees.specs.Trees.{Entry, Tree, Side, left, right, entries}
use Rattle.trees.specs.Valid.{is_smaller}

-- a label with its value and its charge
pub record Pair : Type 0 where
  pub label : Label
  pub value : ℕ
  pub charge : ℕ

abbrev pub lookup_by : Comparison → Pair → Option Pair → Option Pair
lookup_by (smaller i) p further = none
lookup_by (same i) p further = some p
lookup_by (larger i) p further = further

-- the pair held under a label, spelled as it was stored
abbrev pub lookup : Label → List Pair → Option Pair
lookup x [] = none
lookup x (p ∷ more) = lookup_by (compare_labels x p.label) p (lookup x more)

abbrev pub insertion_by : Comparison → Pair → Pair → List Pair → List Pair → List Pair
insertion_by (smaller i) new p more further = new ∷ p ∷ more
insertion_by (same i) new p more further = p ∷ more
insertion_by (larger i) new p more further = p ∷ further

-- a pair set in at its label's place; a label that is held, however it is spelled, keeps its spelling, its value and
-- its charge
abbrev pub insertion : Pair → List Pair → List Pair
insertion new [] = new ∷ []
insertion new (p ∷ more) = insertion_by (compare_labels new.label p.label) new p more (insertion new more)

abbrev pub removal_by : Comparison → Pair → List Pair → List Pair → List Pair
removal_by (smaller i) p more further = p ∷ more
removal_by (same i) p more further = more
removal_by (larger i) p more further = p ∷ further

abbrev pub removal : Label → List Pair → List Pair
removal x [] = []
removal x (p ∷ more) = removal_by (compare_labels x p.label) p more (removal x more)

abbrev pub charging_by : Comparison → ℕ → Pair → List Pair → List Pair → List Pair
charging_by (smaller i) n p more further = p ∷ more
charging_by (same i) n p more further = record { label = p.label; value = p.value; charge = n } ∷ more
charging_by (larger i) n p more further = p ∷ further

-- "A new call sets it for a held label" (M-109 of document 02): its spelling and its value stay
abbrev pub charging : Label → ℕ → List Pair → List Pair
charging x n [] = []
charging x n (p ∷ more) = charging_by (compare_labels x p.label) n p more (charging x n more)

-- the map that a tree holds
abbrev pub pair_of : Entry → Pair
pair_of e = record { label = e.label; value = e.value; charge = e.charge }

abbrev pub map_of : Tree → List Pair
map_of t = map pair_of (entries t)

-- ---- "the nearest smaller and nearest larger held labels" (M-107 of document 02)

-- a label y on a side of x: smaller on the left, larger on the right
abbrev pub StandsOn : Side → (y x : Label) → Type 0
StandsOn left y x = is_smaller (compare_labels y x) ≡ true
StandsOn right y x = is_smaller (compare_labels x y) ≡ true

-- of the pairs of a map on a side of x the nearest, if there are any: every other one stands on that side of it too
pub data Nearest (side : Side) (x : Label) (m : List Pair) : Option Pair → Type 0 where
  no_pair : ((q : Pair) → Memᴰ q m → StandsOn side q.label x → ⊥) → Nearest side x m none
  this_pair : (p : Pair) → Memᴰ p m → StandsOn side p.label x
      → ((q : Pair) → Memᴰ q m → StandsOn side q.label x → (q ≡ p) ⊎ StandsOn side q.label p.label)
      → Nearest side x m (some p)
