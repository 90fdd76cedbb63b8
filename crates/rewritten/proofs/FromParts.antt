-- A store is a state written out where its parts are those of the tree's nodes.
-- `Each`: a fact of each node's slot and label. `each_append`, `each_split`: of the nodes of two lists.
-- `label_by_entries`: a slot's label has it. `each_map`: it becomes another fact.
-- `PartIs`: the part of a slot is a label and zeros.
-- `WrittenParts`: the state's labels in a store. `store_from_parts`: such a store is the state written out.
-- `parts_of_written`: the parts of a valid state written out.
use mathlib.Core.List.{List, [], ◌∷◌, ◌++◌}
use mathlib.Core.Path.{◌≡◌, refl, sym, ap, ◌∙◌}
use mathlib.Core.Bool.{Bool, true, false, cond}
use Prim.Native.Nat.{ℕ, ◌≤◌}
use native.Mathlib.Omega.{arith}
use lib.Dec.{eqb}
use lib.ListN.{length}
use borrow.Author.Tests.{eqb-true}
use Rattle.types.specs.declared.Limits.{Limits}
use Rattle.types.specs.Sizes.{store_length}
use Rattle.labels.specs.Labels.{Label}
use Rattle.labels.specs.Neighbours.{Neighbour, none_below, held, none_above}
use Rattle.trees.specs.Trees.{Entry, Tree, empty, node, entries, slots}
use Rattle.trees.specs.Plain.{State}
use Rattle.trees.specs.Valid.{Valid, one_if, occurrences}
use Rattle.trees.proofs.SlotCounts.{slots_of, occurrences_of_node}
use Rattle.tables.specs.Words.{part_at}
use Rattle.tables.specs.Written.{tree_label, written_store}
use Rattle.written.proofs.Chunks.{padded}
use Rattle.written.proofs.Parts.{length_of_written_store, part_of_written, stores_extend}
use Rattle.written.proofs.Places.{label_elsewhere}
use Rattle.written.proofs.Slots.{TreeInSlots, tree_placed}
use Rattle.rotations.proofs.Frames.{own_slot}

module _ (P : ℕ → Label → Type 0) where
  -- so of the slot and the label of each node
  abbrev pub Each : List Entry → Type 0
  Each [] = Unit {0}
  Each (e ∷ more) = P e.slot e.label × Each more

  -- So of the nodes of two lists.
  pub each_append : (a b : List Entry) → Each a → Each b → Each (a ++ b)
  each_append [] b of_a of_b = of_b
  each_append (e ∷ a) b (own, more) of_b = (own, each_append a b more of_b)

  pub each_split : (a b : List Entry) → Each (a ++ b) → Each a × Each b
  each_split [] b both = (tt, both)
  each_split (e ∷ a) b (own, more) = let parts = each_split a b more in ((own, parts.0), parts.1)

  -- A slot's label is that of its node.
  pub label_by_entries : (k : ℕ) (t : Tree) (otherwise : Label) → Each (entries t)
      → (occurrences k (slots t) ≡ 0 → P k otherwise) → P k (tree_label t k otherwise)
  label_by_entries k empty otherwise each elsewhere = elsewhere refl
  label_by_entries k (node l e r) otherwise each elsewhere =
      let parts = each_split (entries l) (e ∷ entries r) each in
      by_test (eqb k e.slot) refl parts.1.0 (label_by_entries k r otherwise parts.1.1)
      (label_by_entries k l in_r parts.0)
    where
      in_r : Label
      in_r = tree_label r k otherwise

      by_test : (b : Bool) → eqb k e.slot ≡ b → P e.slot e.label
          → ((occurrences k (slots r) ≡ 0 → P k otherwise) → P k in_r)
          → ((occurrences k (slots l) ≡ 0 → P k in_r) → P k (tree_label l k in_r))
          → P k (cond b e.label (tree_label l k in_r))
      by_test true here own of_r of_l = rw (eqb-true k e.slot here) own
      by_test false apart own of_r of_l =
          of_l (λ none_l. of_r (λ none_r. elsewhere (occurrences_of_node k l e r ∙ omega (arith, ap one_if apart))))

-- A fact on the slots of a list's nodes becomes another.
pub each_map : (P Q : ℕ → Label → Type 0) (list : List Entry)
    → ((k : ℕ) (x : Label) → 1 ≤ occurrences k (slots_of list) → P k x → Q k x) → Each P list → Each Q list
each_map P Q [] becomes each = tt
each_map P Q (e ∷ list) becomes (own, more) = (
  becomes e.slot e.label (omega (arith, own_slot e.slot)) own,
  each_map P Q list (λ k x there. becomes k x (omega arith)) more,
)

-- the part of a slot is a label and zeros
abbrev pub PartIs : Limits → List ℕ → ℕ → Label → Type 0
PartIs limits store k x = part_at limits store k ≡ padded limits.width x

-- the parts of a store are those of a state's nodes
pub record WrittenParts (limits : Limits) (store : List ℕ) (s : State) : Type 0 where
  pub long : length store ≡ store_length limits
  pub tree_parts : Each (PartIs limits store) (entries s.tree)
  pub other_parts : (k : ℕ) → 1 ≤ k → k ≤ limits.slots → occurrences k (slots s.tree) ≡ 0
      → PartIs limits store k []

-- Such a store is the state written out.
pub store_from_parts : (limits : Limits) (store : List ℕ) (s : State) → WrittenParts limits store s
    → store ≡ written_store limits s
store_from_parts limits store s bytes =
    stores_extend limits store (written_store limits s) bytes.long (length_of_written_store limits s)
    (λ k low up. label_by_entries (PartIs limits store) k s.tree [] bytes.tree_parts (bytes.other_parts k low up)
    ∙ sym (part_of_written limits s k low up))

module _ (limits : Limits) (s : State) where
  -- The parts of nodes in their slots.
  each_of_placed : (p q : Neighbour) (t : Tree) → TreeInSlots limits s p q t
      → Each (PartIs limits (written_store limits s)) (entries t)
  each_of_placed p q empty placed = tt
  each_of_placed p q (node l e r) (own, on_left_lem, on_right_lem) =
      each_append (PartIs limits (written_store limits s)) (entries l) (e ∷ entries r)
      (each_of_placed p (held e.label) l on_left_lem) (
        part_of_written limits s e.slot own.low own.up ∙ ap (padded limits.width) own.label_there,
        each_of_placed (held e.label) q r on_right_lem,
      )

  -- The parts of a valid state written out.
  pub parts_of_written : Valid limits.slots limits.width s → WrittenParts limits (written_store limits s) s
  parts_of_written valid = record {
    long = length_of_written_store limits s;
    tree_parts = each_of_placed none_below none_above s.tree (tree_placed limits s valid);
    other_parts = λ k low up none.
        part_of_written limits s k low up ∙ ap (padded limits.width) (label_elsewhere k s.tree [] none);
  }
