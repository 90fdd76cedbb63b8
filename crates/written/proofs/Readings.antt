-- What the links of a written-out table read as.
-- `read_represented`: a represented tree is read back from its link. `read_placed`: so is a chain of freed slots.
-- `read_of_written`, `chain_of_written`: the tree and the freed slots of a valid state written out.
-- `state_of_written`: the state is read back. `size_within`: a valid state has at most as many nodes as slots.
use mathlib.Core.List.{List, [], ◌∷◌}
use mathlib.Core.Path.{◌≡◌, refl}
use Prim.Native.Nat.{ℕ, zero, suc, ◌+◌, ◌≤◌}
use native.Mathlib.Omega.{arith}
use lib.ListN.{length, length-append}
use borrow.Author.Tests.{le-ltb}
use Rattle.types.specs.declared.Limits.{Limits}
use Rattle.types.specs.declared.Row.{Row}
use Rattle.labels.specs.Labels.{Label}
use Rattle.labels.specs.Neighbours.{Neighbour, none_below, held, none_above}
use Rattle.trees.specs.Trees.{Entry, Tree, empty, node, slots, size}
use Rattle.trees.specs.Heights.{height}
use Rattle.trees.specs.Plain.{State}
use Rattle.trees.specs.Valid.{Valid}
use Rattle.trees.proofs.SlotCounts.{length_of_slots}
use Rattle.trees.proofs.ValidSteps.{exactly_of_valid}
use Rattle.tables.specs.Words.{row_at, label_at, entry_at, root_link, first_free}
use Rattle.tables.specs.Written.{link_of, first_of, slot_row, slot_label, written_table, written_store}
use Rattle.tables.specs.Sound.{reads, read_node, read_tree, chain, linked_to, read_chain, state_of}
use Rattle.tables.proofs.Represents.{NodeHeld, Represents}
use Rattle.written.proofs.Rows.{root_of_written, free_of_written, mark_of_written, row_of_written}
use Rattle.written.proofs.Places.{PlacedChain}
use Rattle.written.proofs.Slots.{chain_placed, written_represents}

module _ (limits : Limits) (table : List ℕ) where
  -- A link to a slot reads its row.
  read_at : (store : List ℕ) (left k : ℕ) → 1 ≤ k → k ≤ limits.slots
      → read_tree limits table store (suc left) k
      ≡ read_node (read_tree limits table store left (row_at table k).left) (entry_at limits table store k)
      (read_tree limits table store left (row_at table k).right)
  read_at store left zero low up = absurd (omega arith)
  read_at store left (suc k) low up = rw (le-ltb limits.slots (suc k) up, read_tree)

  -- A link to a freed slot reads its next link.
  next_at : (left k : ℕ) → 1 ≤ k → k ≤ limits.slots
      → read_chain limits table (suc left) k ≡ linked_to k (read_chain limits table left (row_at table k).left)
  next_at left zero low up = absurd (omega arith)
  next_at left (suc k) low up = rw (le-ltb limits.slots (suc k) up, read_chain)

  -- A node's entry is read back from its slot.
  entry_of_held : (store : List ℕ) {p s : Neighbour} {l r : Tree} {e : Entry} → NodeHeld limits table store p l e r s
      → entry_at limits table store e.slot ≡ e
  entry_of_held store {e} there =
      let label : label_at limits store e.slot (row_at table e.slot).len ≡ e.label =
      rw there.row there.label in
      λ i. record {
        label = label i;
        value = (there.row i).value;
        slot = e.slot;
        charge = (there.row i).charge;
      }

  -- A represented tree is read back from its link.
  pub read_represented : (store : List ℕ) (p s : Neighbour) (t : Tree) (left : ℕ) → Represents limits table store p s t
      → height t ≤ left → read_tree limits table store left (link_of t) ≡ reads t
  read_represented store p s empty zero there fits = refl
  read_represented store p s empty (suc left) there fits = refl
  read_represented store p s (node l e r) zero there fits = absurd (omega arith)
  read_represented store p s (node l e r) (suc left) (own, on_left_lem, on_right_lem) fits =
      rw (
        read_at store left e.slot own.low own.high,
        entry_of_held store own,
        own.row,
        read_represented store p (held e.label) l left on_left_lem (omega arith),
        read_represented store (held e.label) s r left on_right_lem (omega arith),
      )

  -- A chain of freed slots is read back from its first link.
  pub read_placed : (row : ℕ → Row) (label : ℕ → Label) → ((k : ℕ) → 1 ≤ k → k ≤ limits.slots → row_at table k ≡ row k)
      → (freed : List ℕ) (left : ℕ) → PlacedChain limits.slots row label freed → length freed ≤ left
      → read_chain limits table left (first_of freed) ≡ chain freed
  read_placed row label rows [] zero placed fits = refl
  read_placed row label rows [] (suc left) placed fits = refl
  read_placed row label rows (k ∷ freed) zero placed fits = absurd (omega arith)
  read_placed row label rows (k ∷ freed) (suc left) (own, further) fits =
      rw (
        next_at left k own.low own.up,
        rows k own.low own.up,
        own.row_there,
        read_placed row label rows freed left further (omega arith),
      )

module _ (limits : Limits) (s : State) (valid : Valid limits.slots limits.width s) where
  -- Nodes and freed slots number at most the slots.
  all_within : size s.tree + length s.freed ≤ limits.slots
  all_within =
      let exact = exactly_of_valid limits.slots limits.width s valid in
      omega (arith, length_of_slots s.tree, length-append (slots s.tree) s.freed)

  -- A valid state has at most as many nodes as slots.
  pub size_within : size s.tree ≤ limits.slots
  size_within = omega (arith, all_within)

  -- The freed slots of a valid state are read back.
  pub chain_of_written :
      read_chain limits (written_table limits s) limits.slots (first_free (written_table limits s)) ≡ chain s.freed
  chain_of_written =
      rw (free_of_written limits s)
      (read_placed limits (written_table limits s) (slot_row s) (slot_label s) (row_of_written limits s) s.freed
      limits.slots (chain_placed limits s valid) (omega (arith, all_within)))

  module _ (shallow : height s.tree ≤ limits.depth) where
    -- The tree of a valid state is read back.
    pub read_of_written : read_tree limits (written_table limits s) (written_store limits s) limits.depth
        (root_link (written_table limits s)) ≡ reads s.tree
    read_of_written =
        rw (root_of_written limits s)
        (read_represented limits (written_table limits s) (written_store limits s) none_below none_above s.tree
        limits.depth (written_represents limits s valid) shallow)

    -- A valid state is read back.
    pub state_of_written : state_of limits (written_table limits s) (written_store limits s) ≡ s
    unfolding state_of
    state_of_written = rw (read_of_written, chain_of_written, mark_of_written limits s)
