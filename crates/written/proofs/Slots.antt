-- Which row and which label each slot of a valid state has, and that its tree is represented where it is written out.
-- `PartsFit`, `parts_of_fits`: where the labels of a tree fit, its root's and those of its sons do.
-- `TreeInSlots`, `ChainInSlots`: a tree and freed slots in slots of a state.
-- `tree_placed`, `chain_placed`: each node and each freed slot of a valid state in its own slot.
-- `row_above`, `label_above`: a slot above the high mark has no row and no label.
-- `represents_of_placed`: a tree in its slots is represented by the state written out.
-- `written_represents`: so is the tree of a valid state.
use mathlib.Core.List.{List, [], ◌∷◌, ◌++◌, map-append}
use mathlib.Core.Path.{◌≡◌, refl, ◌∙◌}
use Prim.Native.Nat.{ℕ, ◌+◌, ◌≤◌, ◌<◌}
use native.Mathlib.Omega.{arith}
use lib.ListN.{length}
use Rattle.types.specs.declared.Limits.{Limits}
use Rattle.labels.specs.Labels.{Label}
use Rattle.labels.specs.Neighbours.{Neighbour, none_below, held, none_above}
use Rattle.trees.specs.Trees.{Entry, Tree, empty, node, labels, slots}
use Rattle.trees.specs.Plain.{State}
use Rattle.trees.specs.Valid.{Valid, occurrences}
use Rattle.trees.proofs.Counts.{Exactly, occurrences_append, outside_never_occurs, occurs_inside, occurs_at_most_once}
use Rattle.trees.proofs.ValidSteps.{exactly_of_valid}
use Rattle.trees.proofs.MapKept.{Fits, fits_none, fits_more, fits_of_test}
use Rattle.tables.specs.Words.{label_at}
use Rattle.tables.specs.Written.{free_row, chain_row, slot_row, slot_label, written_table, written_store}
use Rattle.tables.proofs.Represents.{Represents}
use Rattle.written.proofs.Rows.{row_of_written}
use Rattle.written.proofs.Parts.{label_of_written}
use Rattle.written.proofs.Places.{row_elsewhere, label_elsewhere, chain_elsewhere}
use Rattle.written.proofs.Places.{Place, PlacedTree, PlacedChain, placed_tree, placed_chain}

-- a node's label fits, and so do those of its sons
pub record PartsFit (width : ℕ) (l : Tree) (e : Entry) (r : Tree) : Type 0 where
  pub some : 1 ≤ length e.label
  pub short : length e.label ≤ width
  pub on_left_lem : Fits width (labels l)
  pub on_right_lem : Fits width (labels r)

-- A list of labels that fit, cut around one of them.
fits_split : {width : ℕ} (front : List Label) (x : Label) (back : List Label) → Fits width (front ++ (x ∷ back))
    → Fits width front × (1 ≤ length x) × (length x ≤ width) × Fits width back
fits_split [] x back (fits_more some short rest) = (fits_none, some, short, rest)
fits_split (y ∷ front) x back (fits_more some short rest) =
    let parts = fits_split front x back rest in (fits_more some short parts.0, parts.1, parts.2, parts.3)

-- Where the labels of a tree fit, its root's and those of its sons do.
pub parts_of_fits : {width : ℕ} (l : Tree) (e : Entry) (r : Tree)
    → Fits width (labels (node l e r)) → PartsFit width l e r
parts_of_fits l e r fits =
    let parts = fits_split (labels l) e.label (labels r) (rw map-append at fits) in
    record { some = parts.1; short = parts.2; on_left_lem = parts.0; on_right_lem = parts.3 }

module _ (limits : Limits) (state : State) where
  -- the nodes of a tree in slots of the state
  abbrev pub TreeInSlots : Neighbour → Neighbour → Tree → Type 0
  TreeInSlots = PlacedTree limits.slots (slot_row state) (slot_label state)

  -- freed slots of the state, each linked to the next
  abbrev pub ChainInSlots : List ℕ → Type 0
  ChainInSlots = PlacedChain limits.slots (slot_row state) (slot_label state)

  -- A tree in its slots is represented by the state written out.
  pub represents_of_placed : (p s : Neighbour) (t : Tree) → TreeInSlots p s t → Fits limits.width (labels t)
      → Represents limits (written_table limits state) (written_store limits state) p s t
  represents_of_placed p s empty placed fits = tt
  represents_of_placed p s (node l e r) (own, on_left_lem, on_right_lem) fits =
      let parts = parts_of_fits l e r fits in (
        record {
          low = own.low;
          high = own.up;
          some = parts.some;
          short = parts.short;
          row = row_of_written limits state e.slot own.low own.up ∙ own.row_there;
          label = label own.label_there parts.short;
        },
        represents_of_placed p (held e.label) l on_left_lem parts.on_left_lem,
        represents_of_placed (held e.label) s r on_right_lem parts.on_right_lem,
      )
    where
      label : slot_label state e.slot ≡ e.label → length e.label ≤ limits.width
          → label_at limits (written_store limits state) e.slot (length e.label) ≡ e.label
      label there short = rw there at (label_of_written limits state e.slot own.low own.up (rw there short))

  module _ (valid : Valid limits.slots limits.width state) where
    exact : Exactly state.high (slots state.tree ++ state.freed)
    exact = exactly_of_valid limits.slots limits.width state valid

    both : (k : ℕ) → occurrences k (slots state.tree ++ state.freed)
        ≡ occurrences k (slots state.tree) + occurrences k state.freed
    both k = occurrences_append k (slots state.tree) state.freed

    once : (k : ℕ) → occurrences k (slots state.tree) + occurrences k state.freed ≤ 1
    once k = omega (arith, both k, occurs_at_most_once exact k)

    -- A slot above the high mark is in no node and not freed.
    nowhere : (k : ℕ) → state.high < k → occurrences k (slots state.tree) + occurrences k state.freed ≡ 0
    nowhere k above = omega (arith, both k, outside_never_occurs exact k (λ i low up equal. omega arith))

    -- The nodes of a valid state are in their slots.
    pub tree_placed : TreeInSlots none_below none_above state.tree
    tree_placed =
        placed_tree limits.slots (slot_row state) (slot_label state) none_below none_above state.tree
        (chain_row state.freed) (λ k. []) (λ k. omega (arith, once k)) there
      where
        there : (k : ℕ) → 1 ≤ occurrences k (slots state.tree)
            → Place limits.slots (slot_row state) (slot_label state) k (slot_row state k) (slot_label state k)
        there k occurs =
            let inside = occurs_inside exact k (omega (arith, both k)) in
            record { low = inside.0; up = omega arith; row_there = refl; label_there = refl }

    -- The freed slots of a valid state are linked.
    pub chain_placed : ChainInSlots state.freed
    chain_placed =
        placed_chain limits.slots (slot_row state) (slot_label state) state.freed (λ k. omega (arith, once k)) there
      where
        there : (k : ℕ) → 1 ≤ occurrences k state.freed
            → Place limits.slots (slot_row state) (slot_label state) k (chain_row state.freed k) []
        there k occurs =
            let inside = occurs_inside exact k (omega (arith, both k)) in
            let none : occurrences k (slots state.tree) ≡ 0 = omega (arith, once k) in
            record {
              low = inside.0;
              up = omega arith;
              row_there = row_elsewhere k none_below none_above state.tree (chain_row state.freed k) none;
              label_there = label_elsewhere k state.tree [] none;
            }

    -- A slot above the high mark has a row of zeros.
    pub row_above : (k : ℕ) → state.high < k → slot_row state k ≡ free_row 0
    row_above k above =
        row_elsewhere k none_below none_above state.tree (chain_row state.freed k) (omega (arith, nowhere k above))
        ∙ chain_elsewhere k state.freed (omega (arith, nowhere k above))

    -- A slot above the high mark has no label.
    pub label_above : (k : ℕ) → state.high < k → slot_label state k ≡ []
    label_above k above = label_elsewhere k state.tree [] (omega (arith, nowhere k above))

    -- The tree of a valid state is represented where it is written out.
    pub written_represents :
        Represents limits (written_table limits state) (written_store limits state) none_below none_above state.tree
    written_represents =
        represents_of_placed none_below none_above state.tree tree_placed
        (fits_of_test limits.width (labels state.tree) valid.fitting)
