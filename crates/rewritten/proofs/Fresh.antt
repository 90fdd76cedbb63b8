-- The slot that a new label takes, in a valid state and in its table.
-- `taken_from`, `freed_after`, `mark_after`: the slot, and the freed slots and the high mark without it.
-- `FreshSlot`, `fresh_slot`: the slot has a row and is in no node. `unlike_slots`: it is no node's.
-- `chain_after`: the other free rows stay.
-- `slot_of_table`: it is the slot that the table gives. `slot_taken_lem`: so the plain tree replies.
-- `leaf_node`, `grown`, `state_of_new`: the new node in that slot, and the plain tree's next state.
use mathlib.Core.List.{List, [], ◌∷◌, ◌++◌}
use mathlib.Core.Path.{◌≡◌, refl, ap}
use mathlib.Core.Logic.{◌≢◌}
use mathlib.Core.Bool.{cond}
use Prim.Native.Nat.{ℕ, suc, ◌+◌, ◌≤◌, ◌<◌}
use native.Mathlib.Numerals.{add-one}
use native.Mathlib.Omega.{arith}
use lib.Dec.{eqb}
use lib.ListN.{length-append}
use borrow.Author.Tests.{ne_eqb}
use Rattle.types.specs.declared.Limits.{Limits}
use Rattle.labels.specs.Labels.{Label}
use Rattle.trees.specs.Trees.{Entry, Tree, slots, size}
use Rattle.trees.specs.Updates.{inserted}
use Rattle.trees.specs.Plain.{State, updated, new_node, hung, new_entry}
use Rattle.trees.specs.Valid.{Valid, occurrences}
use Rattle.trees.proofs.Counts.{Exactly, occurrences_append, outside_never_occurs, occurs_inside, occurs_at_most_once}
use Rattle.trees.proofs.SlotCounts.{length_of_slots}
use Rattle.trees.proofs.ValidSteps.{exactly_of_valid}
use Rattle.tables.specs.Written.{first_of, chain_row, written_table}
use Rattle.written.proofs.Rows.{free_of_written, mark_of_written}
use Rattle.written.proofs.Slots.{ChainInSlots, chain_placed}
use Rattle.rotations.proofs.Frames.{own_slot}
use Rattle.slots.specs.Slots.{slot_taken}

-- the slot, and the freed slots and the high mark without it
abbrev pub taken_from : List ℕ → ℕ → ℕ
taken_from [] high = suc high
taken_from (k ∷ more) high = k

abbrev pub freed_after : List ℕ → List ℕ
freed_after [] = []
freed_after (k ∷ more) = more

abbrev pub mark_after : List ℕ → ℕ → ℕ
mark_after [] high = suc high
mark_after (k ∷ more) high = high

-- the slot has a row and is in no node
pub record FreshSlot (last : ℕ) (t : Tree) (k : ℕ) : Type 0 where
  pub low : 1 ≤ k
  pub up : k ≤ last
  pub unused : occurrences k (slots t) ≡ 0

-- The slot above the high mark, or the one freed last, is in no node.
fresh_of_exactly : (last : ℕ) (t : Tree) (freed : List ℕ) (high : ℕ) → Exactly high (slots t ++ freed) → high ≤ last
    → size t < last → FreshSlot last t (taken_from freed high)
fresh_of_exactly last t [] high exact within room = record {
  low = omega arith;
  up = omega (arith, exact.counted, length-append (slots t) [], length_of_slots t);
  unused = omega (arith, occurrences_append (suc high) (slots t) [], above);
}
  where
    above : occurrences (suc high) (slots t ++ []) ≡ 0
    above = outside_never_occurs exact (suc high) (λ i low up equal. omega arith)
fresh_of_exactly last t (k ∷ more) high exact within room =
    let both = occurrences_append k (slots t) (k ∷ more) in
    let inside = occurs_inside exact k (omega (arith, own_slot k)) in
    record {
      low = inside.0;
      up = omega (arith, inside.1);
      unused = omega (arith, own_slot k, occurs_at_most_once exact k);
    }

-- A slot of a node is another.
pub unlike_slots : {last k : ℕ} {t : Tree} → FreshSlot last t k → (j : ℕ) → 1 ≤ occurrences j (slots t) → j ≢ k
unlike_slots {t = t} fresh j there equal =
    omega (arith, fresh.unused, ap (λ (i : ℕ). occurrences i (slots t)) equal)

-- The free rows of the other slots stay.
pub chain_after : (freed : List ℕ) (high k : ℕ) → k ≢ taken_from freed high
    → chain_row freed k ≡ chain_row (freed_after freed) k
chain_after [] high k apart = refl
chain_after (j ∷ more) high k apart = rw (ne_eqb k j apart)

-- A new label takes that slot.
new_of_taken : (x : Label) (value : ℕ) (t : Tree) (freed : List ℕ) (high : ℕ)
    → new_entry x value t freed high ≡ hung x value (taken_from freed high) t (freed_after freed) (mark_after freed high)
new_of_taken x value t [] high = refl
new_of_taken x value t (k ∷ more) high = refl

-- a new label's node, in the slot that the table gives
abbrev pub leaf_node : Limits → State → Label → ℕ → Entry
leaf_node limits s x value = new_node x value (slot_taken (written_table limits s))

-- the plain tree's next state, with that slot
abbrev pub grown : Limits → State → Label → ℕ → State
grown limits s x value = record {
  tree = inserted (leaf_node limits s x value) s.tree;
  freed = freed_after s.freed;
  high = mark_after s.freed s.high;
}

module _ (limits : Limits) (s : State) (valid : Valid limits.slots limits.width s) where
  -- It is the slot that the table gives.
  pub slot_of_table : slot_taken (written_table limits s) ≡ taken_from s.freed s.high
  unfolding slot_taken
  slot_of_table = rw (free_of_written limits s, mark_of_written limits s) (go s.freed (chain_placed limits s valid))
    where
      go : (freed : List ℕ) → ChainInSlots limits s freed
          → cond (eqb (first_of freed) 0) (s.high + 1) (first_of freed) ≡ taken_from freed s.high
      go [] chain = add-one s.high
      go (k ∷ more) (own, others) = rw (ne_eqb k 0 (omega (arith, own.low)))

  -- The slot has a row and is in no node.
  pub fresh_slot : size s.tree < limits.slots
      → FreshSlot limits.slots s.tree (slot_taken (written_table limits s))
  fresh_slot room =
      rw slot_of_table
      (fresh_of_exactly limits.slots s.tree s.freed s.high
      (exactly_of_valid limits.slots limits.width s valid) valid.within room)

  -- So the plain tree replies.
  pub slot_taken_lem : (x : Label) (value : ℕ)
      → (new_entry x value s.tree s.freed s.high).reply ≡ updated (slot_taken (written_table limits s))
  slot_taken_lem x value = rw (new_of_taken x value s.tree s.freed s.high, slot_of_table)

  -- So is the plain tree's next state.
  pub state_of_new : (x : Label) (value : ℕ)
      → (new_entry x value s.tree s.freed s.high).state ≡ grown limits s x value
  state_of_new x value = rw (new_of_taken x value s.tree s.freed s.high, slot_of_table)
