-- Which row and which label of a tree a slot has.
-- `other_slot`: a number that is not counted as another is another.
-- `row_elsewhere`, `label_elsewhere`, `chain_elsewhere`: none where the slot does not occur.
-- `Place`: what a slot holds. `PlacedTree`: each node of a tree in its own slot.
-- `placed_tree`: with each slot once, a tree that is looked up slot by slot has each node in its own slot.
-- `PlacedChain`, `placed_chain`: so for the freed slots.
use mathlib.Core.Bool.{Bool, true, false}
use mathlib.Core.List.{List, [], ◌∷◌}
use mathlib.Core.Path.{◌≡◌, refl, ap, ◌∙◌}
use Prim.Native.Nat.{ℕ, ◌+◌, ◌≤◌}
use native.Mathlib.Omega.{arith}
use lib.Dec.{eqb}
use borrow.Author.Tests.{eq-eqb}
use Rattle.types.specs.declared.Row.{Row}
use Rattle.labels.specs.Labels.{Label}
use Rattle.labels.specs.Neighbours.{Neighbour, held}
use Rattle.trees.specs.Trees.{Tree, empty, node, slots}
use Rattle.trees.specs.Valid.{one_if, occurrences}
use Rattle.trees.proofs.SlotCounts.{occurrences_of_node}
use Rattle.tables.specs.Written.{first_of, node_row, free_row, tree_row, chain_row, tree_label}

-- A number that is not counted as another is another.
pub other_slot : (k j : ℕ) → one_if (eqb k j) ≡ 0 → eqb k j ≡ false
other_slot k j none = go (eqb k j) none
  where
    go : (b : Bool) → one_if b ≡ 0 → b ≡ false
    go true none = absurd (omega arith)
    go false none = refl

own_slot : (k : ℕ) → one_if (eqb k k) ≡ 1
own_slot k = ap one_if (eq-eqb k k refl)

module _ (k : ℕ) where
  -- A slot that does not occur in a tree has no row of it.
  pub row_elsewhere : (p s : Neighbour) (t : Tree) (otherwise : Row) → occurrences k (slots t) ≡ 0
      → tree_row p s t k otherwise ≡ otherwise
  row_elsewhere p s empty otherwise none = refl
  row_elsewhere p s (node l e r) otherwise none =
      let counts = occurrences_of_node k l e r in
      let apart : eqb k e.slot ≡ false = other_slot k e.slot (omega arith) in
      rw apart
      (row_elsewhere p (held e.label) l (tree_row (held e.label) s r k otherwise) (omega arith)
      ∙ row_elsewhere (held e.label) s r otherwise (omega arith))

  -- A slot that does not occur in a tree has no label of it.
  pub label_elsewhere : (t : Tree) (otherwise : Label) → occurrences k (slots t) ≡ 0
      → tree_label t k otherwise ≡ otherwise
  label_elsewhere empty otherwise none = refl
  label_elsewhere (node l e r) otherwise none =
      let counts = occurrences_of_node k l e r in
      let apart : eqb k e.slot ≡ false = other_slot k e.slot (omega arith) in
      rw apart
      (label_elsewhere l (tree_label r k otherwise) (omega arith) ∙ label_elsewhere r otherwise (omega arith))

  -- A slot that is not freed has the row of an unused slot.
  pub chain_elsewhere : (freed : List ℕ) → occurrences k freed ≡ 0 → chain_row freed k ≡ free_row 0
  chain_elsewhere [] none = refl
  chain_elsewhere (j ∷ freed) none =
      let apart : eqb k j ≡ false = other_slot k j (omega arith) in
      rw apart (chain_elsewhere freed (omega arith))

module _ (last : ℕ) (row : ℕ → Row) (label : ℕ → Label) where
  -- a slot from 1 to the last, its row and its label
  pub record Place (k : ℕ) (r : Row) (x : Label) : Type 0 where
    pub low : 1 ≤ k
    pub up : k ≤ last
    pub row_there : row k ≡ r
    pub label_there : label k ≡ x

  -- each node between its neighbours in its own slot
  abbrev pub PlacedTree : Neighbour → Neighbour → Tree → Type 0
  PlacedTree p s empty = Unit {0}
  PlacedTree p s (node l e r) =
      Place e.slot (node_row p l e r s) e.label
      × PlacedTree p (held e.label) l × PlacedTree (held e.label) s r

  -- each freed slot linked to the next
  abbrev pub PlacedChain : List ℕ → Type 0
  PlacedChain [] = Unit {0}
  PlacedChain (k ∷ more) = Place k (free_row (first_of more)) [] × PlacedChain more

  -- With each slot once, a tree that is looked up slot by slot has each node in its own slot.
  pub placed_tree : (p s : Neighbour) (t : Tree) (row_else : ℕ → Row) (label_else : ℕ → Label)
      → ((k : ℕ) → occurrences k (slots t) ≤ 1)
      → ((k : ℕ) → 1 ≤ occurrences k (slots t) → Place k (tree_row p s t k (row_else k)) (tree_label t k (label_else k)))
      → PlacedTree p s t
  placed_tree p s empty row_else label_else once there = tt
  placed_tree p s (node l e r) row_else label_else once there = (
    own,
    placed_tree p (held e.label) l (λ k. tree_row (held e.label) s r k (row_else k))
        (λ k. tree_label r k (label_else k)) (λ k. omega (arith, once k, counts k)) (λ k occurs. in_sons k (omega arith)),
    placed_tree (held e.label) s r row_else label_else (λ k. omega (arith, once k, counts k)) on_right_lem,
  )
    where
      counts : (k : ℕ) → occurrences k (slots (node l e r))
          ≡ occurrences k (slots l) + (one_if (eqb k e.slot) + occurrences k (slots r))
      counts k = occurrences_of_node k l e r

      own : Place e.slot (node_row p l e r s) e.label
      own =
          rw (eq-eqb e.slot e.slot refl)
          at (there e.slot (omega (arith, counts e.slot, own_slot e.slot)))

      in_sons : (k : ℕ) → 1 ≤ occurrences k (slots l) + occurrences k (slots r)
          → Place k (tree_row p (held e.label) l k (tree_row (held e.label) s r k (row_else k)))
          (tree_label l k (tree_label r k (label_else k)))
      in_sons k occurs =
          let other : eqb k e.slot ≡ false = other_slot k e.slot (omega (arith, counts k, once k)) in
          rw other at (there k (omega (arith, counts k)))

      on_right_lem : (k : ℕ) → 1 ≤ occurrences k (slots r)
          → Place k (tree_row (held e.label) s r k (row_else k)) (tree_label r k (label_else k))
      on_right_lem k occurs =
          let none : occurrences k (slots l) ≡ 0 = omega (arith, counts k, once k) in
          rw (
            row_elsewhere k p (held e.label) l (tree_row (held e.label) s r k (row_else k)) none,
            label_elsewhere k l (tree_label r k (label_else k)) none,
          ) at (in_sons k (omega arith))

  -- With each slot once, a chain that is looked up slot by slot has each slot linked to the next.
  pub placed_chain : (freed : List ℕ) → ((k : ℕ) → occurrences k freed ≤ 1)
      → ((k : ℕ) → 1 ≤ occurrences k freed → Place k (chain_row freed k) []) → PlacedChain freed
  placed_chain [] once there = tt
  placed_chain (j ∷ freed) once there = (
    rw (eq-eqb j j refl) at (there j (omega (arith, own_slot j))),
    placed_chain freed (λ k. omega (arith, once k)) further,
  )
    where
      further : (k : ℕ) → 1 ≤ occurrences k freed → Place k (chain_row freed k) []
      further k occurs =
          let other : eqb k j ≡ false = other_slot k j (omega (arith, once k)) in
          rw other at (there k (omega arith))
