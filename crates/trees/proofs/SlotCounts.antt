-- The slots of the tree's nodes, and how many they are.
-- slot_set_in, length_set_in: an entry set in adds its slot, and makes the list longer by one.
-- occurrences_of_node: a slot is a node's own or stands in one of its sons.
-- occurrences_of_inserted, occurrences_of_deleted: the tree's slots gain the new node's slot, or lose the found node's.
-- size_of_inserted, size_of_deleted: the size goes up or down by one.
-- slot_of_found: the found node's slot is a slot of the tree.
-- length_of_slots: there are as many slots as nodes.
use mathlib.Core.List.{List, [], ◌∷◌, ◌++◌, map, map-append}
use mathlib.Core.Path.{◌≡◌, refl, sym, ap, ◌∙◌}
use Prim.Native.Nat.{ℕ, suc, ◌+◌, ◌≤◌}
use native.Mathlib.Omega.{arith}
use lib.Dec.{eqb}
use lib.ListN.{length, length-append}
use borrow.Author.Tests.{eq-eqb}
use Rattle.labels.specs.Labels.{Label}
use Rattle.trees.specs.Trees.{Entry, Tree, node, entries, slots, size}
use Rattle.trees.specs.Searches.{absent, found, full_search}
use Rattle.trees.specs.Updates.{inserted, deleted}
use Rattle.trees.specs.Valid.{one_if, occurrences}
use Rattle.trees.proofs.Entries.{length_of_entries}
use Rattle.trees.proofs.SetIn.{SetIn, inserted_sets_in, found_is_set_in}
use Rattle.trees.proofs.Counts.{occurrences_append}

-- the slots of a list of nodes
abbrev pub slots_of : List Entry → List ℕ
slots_of list = map (λ e. e.slot) list

slot_counts_append : (k : ℕ) (a b : List Entry)
    → occurrences k (slots_of (a ++ b)) ≡ occurrences k (slots_of a) + occurrences k (slots_of b)
slot_counts_append k a b = rw map-append (occurrences_append k (slots_of a) (slots_of b))

module _ {e : Entry} {without with : List Entry} (s : SetIn e without with) where
  -- An entry set in adds its slot.
  pub slot_set_in : (k : ℕ) → occurrences k (slots_of with) ≡ one_if (eqb k e.slot) + occurrences k (slots_of without)
  slot_set_in k =
      rw (s.lacking, s.having)
      (omega (arith, slot_counts_append k s.first (e ∷ s.last), slot_counts_append k s.first s.last))

  -- An entry set in makes the list longer by one.
  pub length_set_in : length with ≡ suc (length without)
  length_set_in =
      rw (s.lacking, s.having)
      (omega (arith, length-append s.first (e ∷ s.last), length-append s.first s.last))

-- A slot is a node's own or stands in one of its sons.
pub occurrences_of_node : (k : ℕ) (l : Tree) (e : Entry) (r : Tree)
    → occurrences k (slots (node l e r)) ≡ occurrences k (slots l) + (one_if (eqb k e.slot) + occurrences k (slots r))
occurrences_of_node k l e r = slot_counts_append k (entries l) (e ∷ entries r)

module _ (new : Entry) (t : Tree) (none : (full_search new.label t).result ≡ absent) where
  -- The tree's slots gain the new node's slot.
  pub occurrences_of_inserted : (k : ℕ)
      → occurrences k (slots (inserted new t)) ≡ one_if (eqb k new.slot) + occurrences k (slots t)
  occurrences_of_inserted k = slot_set_in (inserted_sets_in new t none) k

  -- Insert makes the tree larger by one.
  pub size_of_inserted : size (inserted new t) ≡ suc (size t)
  size_of_inserted =
      let longer = length_set_in (inserted_sets_in new t none) in
      omega (arith, length_of_entries t, length_of_entries (inserted new t))

module _ (x : Label) (t : Tree) {e : Entry} (held : (full_search x t).result ≡ found e) where
  -- The tree's slots lose the found node's slot.
  pub occurrences_of_deleted : (k : ℕ)
      → one_if (eqb k e.slot) + occurrences k (slots (deleted x t)) ≡ occurrences k (slots t)
  occurrences_of_deleted k = sym (slot_set_in (found_is_set_in x t held) k)

  -- The found node's slot is a slot of the tree.
  pub slot_of_found : 1 ≤ occurrences e.slot (slots t)
  slot_of_found = omega (arith, occurrences_of_deleted e.slot, ap one_if (eq-eqb e.slot e.slot refl))

  -- Delete makes the tree smaller by one.
  pub size_of_deleted : suc (size (deleted x t)) ≡ size t
  size_of_deleted =
      let longer = length_set_in (found_is_set_in x t held) in
      omega (arith, length_of_entries t, length_of_entries (deleted x t))

-- There are as many slots as nodes.
pub length_of_slots_of : (list : List Entry) → length (slots_of list) ≡ length list
length_of_slots_of [] = refl
length_of_slots_of (e ∷ list) = ap suc (length_of_slots_of list)

pub length_of_slots : (t : Tree) → length (slots t) ≡ size t
length_of_slots t = length_of_slots_of (entries t) ∙ length_of_entries t
