-- Valid states of the plain tree: the parts of document 01's sentence on sound tables that speak of the tree and its
-- slots alone.
use Rattle.std.specs.Prelude.{List, [], ◌∷◌, ◌++◌, ◌≡◌, Bool, true, false, ◌&&◌, ℕ, zero, suc, ◌+◌, ◌≤◌, leb, eqb, length}
use Rattle.labels.specs.Labels.{Label, Comparison, smaller, same, larger, compare_labels}
use Rattle.trees.specs.Trees.{labels, slots, charges}
use Rattle.trees.specs.Charges.{all_charges}
use Rattle.trees.specs.Heights.{Balanced}
use Rattle.trees.specs.Plain.{State}

abbrev pub is_smaller : Comparison → Bool
is_smaller (smaller i) = true
is_smaller (same i) = false
is_smaller (larger i) = false

abbrev pub below_first : Label → List Label → Bool
below_first x [] = true
below_first x (y ∷ more) = is_smaller (compare_labels x y)

-- "labels ascend strictly from left to right"
abbrev pub ascends : List Label → Bool
ascends [] = true
ascends (x ∷ more) = below_first x more && ascends more

-- "A label is 1 to 64 bytes"
abbrev pub lengths_fit : ℕ → List Label → Bool
lengths_fit width [] = true
lengths_fit width (x ∷ more) = leb 1 (length x) && (leb (length x) width && lengths_fit width more)

abbrev pub one_if : Bool → ℕ
one_if true = 1
one_if false = 0

abbrev pub occurrences : ℕ → List ℕ → ℕ
occurrences k [] = 0
occurrences k (j ∷ more) = one_if (eqb k j) + occurrences k more

-- each of 1 to n stands in the list once
abbrev pub once_up_to : ℕ → List ℕ → Bool
once_up_to zero list = true
once_up_to (suc n) list = eqb (occurrences (suc n) list) 1 && once_up_to n list

-- the list holds exactly the slots up to the high mark, each once
abbrev pub exactly_up_to : ℕ → List ℕ → Bool
exactly_up_to high list = eqb (length list) high && once_up_to high list

-- a height-balanced tree whose labels ascend and fit the width, with charges of 0 to 100 or 255; its slots and the
-- freed ones together are those up to the high mark, each once; the high mark is within the capacity
pub record Valid (capacity width : ℕ) (s : State) : Type 0 where
  pub balanced : Balanced s.tree
  pub ascending : ascends (labels s.tree) ≡ true
  pub fitting : lengths_fit width (labels s.tree) ≡ true
  pub charges_fit : all_charges (charges s.tree) ≡ true
  pub allotted : exactly_up_to s.high (slots s.tree ++ s.freed) ≡ true
  pub within : s.high ≤ capacity
