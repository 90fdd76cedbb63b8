-- The windows passed down an ordered tree are the neighbours of document 01's sentence, by one law for both sides.
-- kept, renewed: below a node the window on one side is kept, on the other it is the node's label.
-- windows_are_neighbours: the claim.
use mathlib.Core.List.{List, [], ◌∷◌}
use mathlib.Core.Bool.{true, false}
use mathlib.Core.Path.{◌≡◌, refl, sym}
use Prim.Native.Nat.{ℕ}
use Rattle.types.specs.declared.Row.{Row}
use Rattle.labels.specs.Labels.{Label}
use Rattle.labels.specs.Neighbours.{Neighbour, none_below, held, none_above}
use Rattle.labels.proofs.Results.{compare_larger}
use Rattle.labels.proofs.Difference.{Before, before_trans}
use Rattle.trees.specs.Trees.{Tree, empty, node, Side, left, right, other}
use Rattle.trees.proofs.Linked.{smaller_of_before}
use Rattle.trees.proofs.Sorted.{Between, between_of_ascends}
use Rattle.tables.specs.Written.{tree_row}
use Rattle.tables.specs.Sound.{true_prefixes}
use Rattle.tables.specs.Paths.{is_beside, beside, nearer, nearest, WindowsAre, path_row, path_prefixes}
use Rattle.tables.specs.Paths.{WindowsAreNeighbours}

-- a neighbour is on a side of a label
abbrev On : Side → Neighbour → Label → Type 0
On left n x = Before n (held x)
On right n x = Before (held x) n

-- A label on the side tests so, one on the other side does not.
beside_on : (side : Side) (x y : Label) → On side (held y) x → is_beside side x y ≡ true
beside_on left x y before = smaller_of_before before
beside_on right x y before = smaller_of_before before

not_beside : (side : Side) (x y : Label) → On (other side) (held y) x → is_beside side x y ≡ false
not_beside left x y before = rw (compare_larger before)
not_beside right x y before = rw (compare_larger before)

-- What is on a side of y is on that side of all that y is on that side of.
on_trans : (side : Side) (n : Neighbour) (x y : Label) → On side n y → On side (held y) x → On side n x
on_trans left n x y further near = before_trans further near
on_trans right n x y further near = before_trans near further

-- A label is nearer than what is on its side.
nearer_than : (side : Side) (y : Label) (n : Neighbour) → On side n y → nearer side y n ≡ held y
nearer_than side y none_below further = refl
nearer_than side y (held z) further = rw (beside_on side y z further)
nearer_than side y none_above further = refl

-- n is the nearest on a side of every label between n and o, o being on the other side
abbrev Nearest : Side → List Label → (n o : Neighbour) → Type 0
Nearest side path n o = (x : Label) → On side n x → On (other side) o x → nearest side (beside side x path) ≡ n

module _ (side : Side) (path : List Label) (y : Label) (n o : Neighbour) (near : Nearest side path n o) where
  -- Below y, on the side of n, it is still n.
  kept : On (other side) o y → Nearest side (y ∷ path) n (held y)
  kept further x within past =
      rw (not_beside side x y past) (near x within (on_trans (other side) o x y further past))

  -- Below y, on the side of o, it is y.
  renewed : On side n y → Nearest side (y ∷ path) (held y) o
  renewed further x within past =
      rw (beside_on side x y within, near x (on_trans side n x y further within) past) (nearer_than side y n further)

-- The windows of a tree are the neighbours, where they are above it.
windows_are : (t : Tree) (path : List Label) (p s : Neighbour) → Between p s t
    → Nearest left path p s → Nearest right path s p → WindowsAre path p s t
windows_are empty path p s between below above = tt
windows_are (node l e r) path p s between below above =
    let x = e.label in
    record {
      below = sym (below x between.above between.below);
      above = sym (above x between.below between.above);
      on_left_lem =
          windows_are l (x ∷ path) p (held x) between.on_left_lem
          (kept left path x p s below between.below) (renewed right path x s p above between.below);
      on_right_lem =
          windows_are r (x ∷ path) (held x) s between.on_right_lem
          (renewed left path x p s below between.above) (kept right path x s p above between.above);
    }

-- So the rows are those of the path, and the tests of place and side.
rows_by_path : (t : Tree) (path : List Label) (p s : Neighbour) → WindowsAre path p s t → (k : ℕ) (otherwise : Row)
    → tree_row p s t k otherwise ≡ path_row path t k otherwise
rows_by_path empty path p s are k otherwise = refl
rows_by_path (node l e r) path p s are k otherwise =
    let x = e.label in
    rw (
      ← are.below,
      ← are.above,
      rows_by_path r (x ∷ path) (held x) s are.on_right_lem k otherwise,
      rows_by_path l (x ∷ path) p (held x) are.on_left_lem k (path_row (x ∷ path) r k otherwise),
    )

prefixes_by_path : (table : List ℕ) (t : Tree) (path : List Label) (p s : Neighbour) → WindowsAre path p s t
    → true_prefixes table p s t ≡ path_prefixes table path t
prefixes_by_path table empty path p s are = refl
prefixes_by_path table (node l e r) path p s are =
    let x = e.label in
    rw (
      ← are.below,
      ← are.above,
      prefixes_by_path table l (x ∷ path) p (held x) are.on_left_lem,
      prefixes_by_path table r (x ∷ path) (held x) s are.on_right_lem,
    )

-- In a tree whose labels ascend the windows are the neighbours.
pub windows_are_neighbours : WindowsAreNeighbours
windows_are_neighbours t ascending =
    let windows = windows_are t [] none_below none_above (between_of_ascends t ascending)
    (λ x within past. refl) (λ x within past. refl) in
    record {
      windows = windows;
      rows = rows_by_path t [] none_below none_above windows;
      prefixes = λ table. prefixes_by_path table t [] none_below none_above windows;
    }
