-- Strap charges (M-109 of document 02): which numbers are charges, and the charge of a label set in the plain tree.
use Rattle.std.specs.Prelude.{Bool, true, ◌&&◌, ◌||◌, List, [], ◌∷◌, ℕ, leb, eqb}
use Rattle.labels.specs.Labels.{Label, Comparison, smaller, same, larger, compare_labels}
use Rattle.trees.specs.Trees.{Entry, Tree, empty, node}

-- "255 for unknown"
abbrev pub unknown : ℕ
unknown = 255

-- "the strap's charge: 0 to 100, or 255 for unknown"
abbrev pub is_charge : ℕ → Bool
is_charge n = leb n 100 || eqb n unknown

abbrev pub all_charges : List ℕ → Bool
all_charges [] = true
all_charges (n ∷ more) = is_charge n && all_charges more

-- the node with the charge n
abbrev pub with_charge : ℕ → Entry → Entry
with_charge n e = record { label = e.label; value = e.value; slot = e.slot; charge = n }

-- l' and r': the sons with the charge set
abbrev pub charged_by : Comparison → ℕ → Tree → Entry → Tree → Tree → Tree → Tree
charged_by (smaller i) n l e r l' r' = node l' e r
charged_by (same i) n l e r l' r' = node l (with_charge n e) r
charged_by (larger i) n l e r l' r' = node l e r'

-- "A new call sets it for a held label."
abbrev pub charged : Label → ℕ → Tree → Tree
charged x n empty = empty
charged x n (node l e r) = charged_by (compare_labels x e.label) n l e r (charged x n l) (charged x n r)
