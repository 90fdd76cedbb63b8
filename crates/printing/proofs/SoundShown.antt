-- The nodes of a sound table, as the calls show them.
--     view_of_used     the view shows the label of a slot in use
--     shown_standing   the slots of a tree that stands in the table show its nodes
--     shown_of_sound   so do those of the tree that a sound table holds, which are at most as many as the slots
use mathlib.Core.Bool.{true}
use mathlib.Core.List.{List, ◌∷◌, ◌++◌, map, map-append}
use mathlib.Core.Path.{◌≡◌, refl, ap, ap₂, ◌∙◌}
use Prim.Native.Nat.{ℕ, ◌≤◌}
use native.Mathlib.Omega.{arith}
use borrow.Author.Tests.{le-ltb, eq-eqb, ne_eqb}
use lib.ListN.{length}
use Rattle.types.specs.Sizes.{hub, table_length, store_length}
use Rattle.labels.specs.Labels.{Label}
use Rattle.trees.specs.Trees.{Entry, Tree, entries, slots}
use Rattle.trees.proofs.Entries.{mapped_node}
use Rattle.trees.proofs.SlotCounts.{length_of_slots}
use Rattle.trees.proofs.Views.{both_true}
use Rattle.tables.specs.Words.{root_link, labels_held, row_at, label_at, entry_at}
use Rattle.tables.specs.Written.{lent}
use Rattle.tables.specs.Sound.{used_slot, used_slots, sound, state_of}
use Rattle.tables.specs.Outcomes.{view_part}
use Rattle.tables.proofs.Reading.{Stands, stands_none, stands_node, tree_read, stands_when_read}
use Rattle.tables.proofs.Clauses.{read_of_sound, UsedSlot, used_of_test}
use Rattle.printing.specs.Prints.{shown_at}

-- what the tree of a sound table shows
pub record ShowsNodes (table store : List ℕ) (t : Tree) : Type 0 where
  pub shown : map (shown_at (lent table store)) (slots t) ≡ entries t
  pub held : length (slots t) ≡ labels_held table
  pub few : length (slots t) ≤ hub.slots

module _ (table store : List ℕ) (words : length table ≡ table_length hub) (bytes : length store ≡ store_length hub) where
  -- the view shows the label of a slot in use
  pub view_of_used : (k : ℕ) → 1 ≤ k → k ≤ hub.slots → UsedSlot hub table store k
      → view_part hub table store k ≡ label_at hub store k (row_at table k).len
  unfolding view_part
  view_of_used k low high used =
      let some : (row_at table k).len ≡ 0 → ⊥ = λ none. omega (arith, used.some) in
      rw (
        eq-eqb (length table) (table_length hub) words,
        eq-eqb (length store) (store_length hub) bytes,
        ne_eqb k 0 (λ none. omega arith),
        le-ltb hub.slots k high,
        ne_eqb (row_at table k).len 0 some,
        le-ltb hub.width (row_at table k).len used.short,
      )

  -- the calls show the node of a slot in use
  node_of_used : (k : ℕ) → 1 ≤ k → k ≤ hub.slots → UsedSlot hub table store k
      → shown_at (lent table store) k ≡ entry_at hub table store k
  node_of_used k low high used =
      ap (λ (x : Label). record { label = x; value = (row_at table k).value; slot = k; charge = (row_at table k).charge })
      (view_of_used k low high used)

  -- the slots of a tree that stands in the table show its nodes
  pub shown_standing : {t : Tree} {link : ℕ} → Stands hub table store t link → used_slots hub table store t ≡ true
      → map (shown_at (lent table store)) (slots t) ≡ entries t
  shown_standing stands_none used = refl
  shown_standing (stands_node {k} {l} {r} low up of_l of_r) used =
      let node = entry_at hub table store k in
      let show = shown_at (lent table store) in
      let here = (both_true (used_slot hub table store k) _).0 used in
      let beside = (both_true (used_slots hub table store l) _).0 here.1 in
      ap (map show) (mapped_node (λ (x : Entry). x.slot) l node r)
      ∙ map-append show (slots l) (k ∷ slots r)
      ∙ ap₂ ◌++◌ (shown_standing of_l beside.0)
      (ap₂ ◌∷◌ (node_of_used k low up (used_of_test here.0)) (shown_standing of_r beside.1))

  -- so do those of the tree that a sound table holds, which are at most as many as the slots
  pub shown_of_sound : sound hub table store ≡ true → ShowsNodes table store (state_of hub table store).tree
  unfolding state_of
  shown_of_sound holds =
      let is = read_of_sound hub table store holds in
      let stands = stands_when_read (tree_read hub table store hub.depth (root_link table)) is.tree_read in
      rw (is.tree_read, is.chain_read)
      (record {
        shown = shown_standing stands is.parts.used;
        held = length_of_slots is.tree ∙ is.parts.held;
        few = omega (arith, length_of_slots is.tree, is.parts.room);
      })
