-- A tree in the rows of a table as written out, where the root's place is 1.
-- `RowHeld`, `RowsOf`: the tree in the rows as written out. `rows_of_represents`: so stands a represented tree.
-- `rows_kept`: a tree stands where the rows of its slots stay.
-- `Inner`, `place_of_inner`: with a neighbour, a node's place is the same where the root's counts as 0.
-- `rep_of_inner`, `rows_of_inner`: so a tree below the root stands as turned exactly where it stands as written out.
use mathlib.Core.List.{List}
use mathlib.Core.Path.{◌≡◌, refl, sym, ◌∙◌}
use mathlib.Core.Bool.{true, false, ◌||◌}
use Prim.Native.Nat.{ℕ, ◌≤◌}
use native.Mathlib.Omega.{arith}
use lib.ListN.{length}
use Rattle.types.specs.declared.Limits.{Limits}
use Rattle.types.specs.Sizes.{table_length}
use Rattle.labels.specs.Labels.{Label, difference_place}
use Rattle.labels.specs.Neighbours.{Neighbour, none_below, held, none_above}
use Rattle.labels.proofs.Ends.{ends_of_labels}
use Rattle.labels.proofs.Clashes.{clash}
use Rattle.trees.specs.Trees.{Entry, Tree, empty, node, slots}
use Rattle.trees.specs.Valid.{occurrences}
use Rattle.trees.proofs.SlotCounts.{occurrences_of_node}
use Rattle.tables.specs.Words.{row_at}
use Rattle.tables.specs.Prefix.{place_within}
use Rattle.tables.specs.Written.{node_row}
use Rattle.tables.proofs.Represents.{Represents}
use Rattle.words.specs.Rows.{HasRow}
use Rattle.steps.proofs.Leaf.{is_held}
use Rattle.rotations.proofs.Rep.{bare_within, bare_row, Rep}
use Rattle.rotations.proofs.Frames.{own_slot}

-- the row of a node between p and q, as written out
pub record RowHeld (table : List ℕ) (p : Neighbour) (l : Tree) (e : Entry) (r : Tree) (q : Neighbour) : Type 0 where
  pub has : HasRow table e.slot
  pub row : row_at table e.slot ≡ node_row p l e r q

abbrev pub RowsOf : List ℕ → Neighbour → Neighbour → Tree → Type 0
RowsOf table p q empty = Unit {0}
RowsOf table p q (node l e r) =
    RowHeld table p l e r q × RowsOf table p (held e.label) l × RowsOf table (held e.label) q r

-- A represented tree stands in the rows.
pub rows_of_represents : (limits : Limits) (table store : List ℕ) → length table ≡ table_length limits
    → (p q : Neighbour) (t : Tree) → Represents limits table store p q t → RowsOf table p q t
rows_of_represents limits table store long p q empty stands = tt
rows_of_represents limits table store long p q (node l e r) (own, on_left_lem, on_right_lem) = (
  record { has = record { low = own.low; high = omega (arith, own.high) }; row = own.row },
  rows_of_represents limits table store long p (held e.label) l on_left_lem,
  rows_of_represents limits table store long (held e.label) q r on_right_lem,
)

-- A tree stands where the rows of its slots stay.
pub rows_kept : (before after : List ℕ) → length after ≡ length before → (p q : Neighbour) (t : Tree)
    → ((k : ℕ) → 1 ≤ k → 1 ≤ occurrences k (slots t) → row_at after k ≡ row_at before k)
    → RowsOf before p q t → RowsOf after p q t
rows_kept before after long p q empty same rows = tt
rows_kept before after long p q (node l e r) same (own, on_left_lem, on_right_lem) =
    let here : 1 ≤ occurrences e.slot (slots (node l e r)) =
    omega (arith, own_slot e.slot, occurrences_of_node e.slot l e r) in (
      record {
        has = record { low = own.has.low; high = rw long own.has.high };
        row = same e.slot own.has.low here ∙ own.row;
      },
      rows_kept before after long p (held e.label) l
          (λ k low there. same k low (omega (arith, occurrences_of_node k l e r))) on_left_lem,
      rows_kept before after long (held e.label) q r
          (λ k low there. same k low (omega (arith, occurrences_of_node k l e r))) on_right_lem,
    )

-- ---- below the root

-- a window with a label at one end or both
abbrev pub Inner : Neighbour → Neighbour → Type 0
Inner p q = (is_held p || is_held q) ≡ true

-- A window that ends at a label has one.
inner_below : (p : Neighbour) (x : Label) → Inner p (held x)
inner_below none_below x = refl
inner_below (held a) x = refl
inner_below none_above x = refl

-- A difference place is at least 1.
place_at_least_1 : (x y : Label) → 1 ≤ difference_place x y
unfolding difference_place
place_at_least_1 x y = (ends_of_labels x y).from

-- A window with no label is not such a one.
never_inner : {A : Type 0} → false ≡ true → A
never_inner wrong = clash cc

-- With a neighbour, a node's place is the same where the root's counts as 0.
pub place_of_inner : (p : Neighbour) (x : Label) (q : Neighbour) → Inner p q → place_within p x q ≡ bare_within p x q
place_of_inner (held a) x q inner = omega (arith, place_at_least_1 a x)
place_of_inner none_below x (held b) inner = omega (arith, place_at_least_1 x b)
place_of_inner none_above x (held b) inner = omega (arith, place_at_least_1 x b)
place_of_inner none_below x none_below inner = never_inner inner
place_of_inner none_below x none_above inner = never_inner inner
place_of_inner none_above x none_below inner = never_inner inner
place_of_inner none_above x none_above inner = never_inner inner

-- So is its row.
row_of_inner : (p : Neighbour) (l : Tree) (e : Entry) (r : Tree) (q : Neighbour) → Inner p q
    → node_row p l e r q ≡ bare_row p l e r q
row_of_inner p l e r q inner = rw (place_of_inner p e.label q inner)

-- A tree below the root stands as turned where it stands as written out,
pub rep_of_inner : (table : List ℕ) (p q : Neighbour) (t : Tree) → Inner p q → RowsOf table p q t → Rep table p q t
rep_of_inner table p q empty inner rows = tt
rep_of_inner table p q (node l e r) inner (own, on_left_lem, on_right_lem) = (
  record { has = own.has; row = own.row ∙ row_of_inner p l e r q inner },
  rep_of_inner table p (held e.label) l (inner_below p e.label) on_left_lem,
  rep_of_inner table (held e.label) q r refl on_right_lem,
)

-- and as written out where it stands as turned.
pub rows_of_inner : (table : List ℕ) (p q : Neighbour) (t : Tree) → Inner p q → Rep table p q t → RowsOf table p q t
rows_of_inner table p q empty inner rep = tt
rows_of_inner table p q (node l e r) inner (own, on_left_lem, on_right_lem) = (
  record { has = own.has; row = own.row ∙ sym (row_of_inner p l e r q inner) },
  rows_of_inner table p (held e.label) l (inner_below p e.label) on_left_lem,
  rows_of_inner table (held e.label) q r refl on_right_lem,
)
