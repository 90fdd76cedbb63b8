-- The tree that was read stands in the rows and parts of its slots.
-- length_of_part: a slot's part of the store is as long as the width.
-- length_of_label: the label read from a slot has the length read for it.
-- represents_read: the tree that was read stands in its slots' rows and parts.
use mathlib.Core.List.{List}
use mathlib.Core.Path.{◌≡◌, sym, ap}
use mathlib.Core.Bool.{true}
use Prim.Native.Nat.{ℕ, ◌≤◌}
use native.Mathlib.Omega.{arith}
use lib.ListN.{length, drop, length-drop}
use lib.Seq.{length-take-le}
use borrow.Author.Tests.{eqb-true}
use Rattle.types.specs.declared.Limits.{Limits}
use Rattle.types.specs.Sizes.{store_length}
use Rattle.labels.specs.Neighbours.{Neighbour, held}
use Rattle.trees.specs.Trees.{Tree}
use Rattle.trees.proofs.Views.{both_true}
use Rattle.tables.specs.Words.{row_at, part_start, part_at, label_at, entry_at}
use Rattle.tables.specs.Written.{node_row}
use Rattle.tables.specs.Sound.{used_slots, true_balances, true_prefixes}
use Rattle.tables.proofs.Offsets.{part_within}
use Rattle.tables.proofs.Represents.{NodeHeld, Represents}
use Rattle.tables.proofs.Clauses.{UsedSlot, used_of_test}
use Rattle.tables.proofs.Reading.{Stands, stands_none, stands_node, link_of_standing}

module _ (limits : Limits) (store : List ℕ) (bytes : length store ≡ store_length limits)
    (k : ℕ) (low : 1 ≤ k) (up : k ≤ limits.slots) where
  -- The store has a whole part from a slot's first byte.
  part_left : limits.width ≤ length (drop (part_start limits k) store)
  part_left = rw length-drop (omega (arith, part_within limits.width limits.slots k low up))

  -- A slot's part of the store is as long as the width.
  pub length_of_part : length (part_at limits store k) ≡ limits.width
  unfolding part_at
  length_of_part = length-take-le limits.width (drop (part_start limits k) store) part_left

  -- The label read from a slot has the length read for it.
  pub length_of_label : (len : ℕ) → len ≤ limits.width → length (label_at limits store k len) ≡ len
  unfolding label_at
  length_of_label len short = length-take-le len (drop (part_start limits k) store) (omega (arith, part_left))

module _ {limits : Limits} {table store : List ℕ} (bytes : length store ≡ store_length limits) where
  -- A node that was read stands in its slot's row and part.
  node_held : (k : ℕ) {l r : Tree} (p s : Neighbour) → 1 ≤ k → k ≤ limits.slots
      → Stands limits table store l (row_at table k).left → Stands limits table store r (row_at table k).right
      → UsedSlot limits table store k
      → (row_at table k).balance ≡ (node_row p l (entry_at limits table store k) r s).balance
      → (row_at table k).place ≡ (node_row p l (entry_at limits table store k) r s).place
      → (row_at table k).side ≡ (node_row p l (entry_at limits table store k) r s).side
      → NodeHeld limits table store p l (entry_at limits table store k) r s
  node_held k p s low up l r used balance place side =
      let long = length_of_label limits store bytes k low up (row_at table k).len used.short in
      record {
        low = low;
        high = up;
        some = omega (arith, used.some);
        short = omega (arith, used.short);
        row = λ i. record {
          left = link_of_standing l i;
          right = link_of_standing r i;
          place = place i;
          side = side i;
          balance = balance i;
          len = sym long i;
          value = (row_at table k).value;
          charge = (row_at table k).charge;
        };
        label = ap (label_at limits store k) long;
      }

  -- The tree that was read stands in its slots' rows and parts.
  pub represents_read : {t : Tree} {link : ℕ} (p s : Neighbour) → Stands limits table store t link
      → used_slots limits table store t ≡ true → true_balances table t ≡ true → true_prefixes table p s t ≡ true
      → Represents limits table store p s t
  represents_read p s stands_none used balances prefixes = tt
  represents_read p s (stands_node {k} low up l r) used balances prefixes =
      let (used_here, used_sons) = (both_true _ _).0 used in
      let (used_l, used_r) = (both_true _ _).0 used_sons in
      let (balance, balance_sons) = (both_true _ _).0 balances in
      let (balance_l, balance_r) = (both_true _ _).0 balance_sons in
      let (place, after_place) = (both_true _ _).0 prefixes in
      let (side, prefix_sons) = (both_true _ _).0 after_place in
      let (prefix_l, prefix_r) = (both_true _ _).0 prefix_sons in
      let x = held (entry_at limits table store k).label in
      let here = node_held k p s low up l r (used_of_test used_here) in (
        here (eqb-true _ _ balance) (eqb-true _ _ place) (eqb-true _ _ side),
        represents_read p x l used_l balance_l prefix_l,
        represents_read x s r used_r balance_r prefix_r,
      )
