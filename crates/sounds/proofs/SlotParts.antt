-- Each part of a sound store is the label that the tree read from it writes, padded with zeros.
-- tree_part_read: a slot's part is what the tree writes, where the other slots' parts are what is written otherwise.
-- chain_part_read: the parts of the freed slots are zero. zero_part_above: so are the parts above the high mark.
-- fitting_read: the labels' lengths fit. charges_read: the nodes have charges.
use mathlib.Core.List.{List, [], ◌∷◌, ◌++◌, map-append}
use mathlib.Core.Path.{◌≡◌, refl, ap, ◌∙◌}
use mathlib.Core.Bool.{Bool, true, false, cond}
use Prim.Native.Nat.{ℕ, ◌+◌, ◌-◌, ◌*◌, ◌≤◌, ◌<◌}
use native.Mathlib.Nat.{mul-add}
use native.Mathlib.Omega.{arith}
use lib.Dec.{eqb}
use lib.ListN.{length, drop}
use lib.Seq.{take-take, drop-drop}
use borrow.Author.Tests.{eqb-true}
use Rattle.types.specs.declared.Limits.{Limits}
use Rattle.types.specs.Sizes.{store_length}
use Rattle.labels.specs.Labels.{Label}
use Rattle.labels.specs.Neighbours.{Neighbour, held}
use Rattle.trees.specs.Trees.{Entry, Tree, empty, node, labels, slots, charges}
use Rattle.trees.specs.Charges.{all_charges}
use Rattle.trees.specs.Valid.{one_if, occurrences, lengths_fit}
use Rattle.trees.proofs.Views.{both_true}
use Rattle.trees.proofs.Charged.{charges_of_node}
use Rattle.trees.proofs.SlotCounts.{occurrences_of_node}
use Rattle.trees.proofs.MapKept.{Fits, fits_none, fits_more, test_of_fits}
use Rattle.tables.specs.Words.{row_at, part_start, part_at, label_at, entry_at}
use Rattle.tables.specs.Written.{tree_label}
use Rattle.tables.specs.Sound.{all_zero, used_slots, freed_slots}
use Rattle.tables.proofs.Represents.{Represents}
use Rattle.written.proofs.Chunks.{padded}
use Rattle.tables.proofs.Clauses.{UsedSlot, used_of_test, FreedSlot, freed_of_test}
use Rattle.tables.proofs.Reading.{Stands, stands_none, stands_node}
use Rattle.sounds.proofs.Zeros.{zeros_dropped, zeros_taken, padded_by_zeros}
use Rattle.sounds.proofs.Held.{length_of_part}

module _ (limits : Limits) (table store : List ℕ) (bytes : length store ≡ store_length limits) where
  -- The part of a slot in use is its label, padded.
  part_in_use : (k : ℕ) → 1 ≤ k → k ≤ limits.slots → UsedSlot limits table store k
      → part_at limits store k ≡ padded limits.width (label_at limits store k (row_at table k).len)
  unfolding part_at label_at
  part_in_use k low up used =
      padded_by_zeros limits.width (row_at table k).len (part_at limits store k)
      (length_of_part limits store bytes k low up) used.zeros
      ∙ ap (padded limits.width)
      (take-take (row_at table k).len limits.width (drop (part_start limits k) store) used.short)

  module _ (k : ℕ) where
    -- A slot's part is what the tree writes, where the parts of the other slots are what is written otherwise.
    pub tree_part_read : {t : Tree} {link : ℕ} (otherwise : Label) → Stands limits table store t link
        → used_slots limits table store t ≡ true
        → (occurrences k (slots t) ≡ 0 → part_at limits store k ≡ padded limits.width otherwise)
        → part_at limits store k ≡ padded limits.width (tree_label t k otherwise)
    tree_part_read otherwise stands_none used elsewhere = elsewhere refl
    tree_part_read otherwise (stands_node {k = j} {l} {r} low up at_l at_r) used elsewhere =
        let (used_here, used_sons) = (both_true _ _).0 used in
        let (used_l, used_r) = (both_true _ _).0 used_sons in
        by_test (eqb k j) refl (used_of_test used_here)
        (λ none. tree_part_read otherwise at_r used_r none) (λ none. tree_part_read in_r at_l used_l none)
      where
        e : Entry
        e = entry_at limits table store j

        in_r : Label
        in_r = tree_label r k otherwise

        Padded : Label → Type 0
        Padded x = part_at limits store k ≡ padded limits.width x

        by_test : (b : Bool) → eqb k j ≡ b → UsedSlot limits table store j
            → ((occurrences k (slots r) ≡ 0 → Padded otherwise) → Padded in_r)
            → ((occurrences k (slots l) ≡ 0 → Padded in_r) → Padded (tree_label l k in_r))
            → Padded (cond b e.label (tree_label l k in_r))
        by_test true here in_use of_r of_l = rw (eqb-true k j here) (part_in_use j low up in_use)
        by_test false apart in_use of_r of_l =
            of_l (λ none_l. of_r (λ none_r. elsewhere (occurrences_of_node k l e r ∙ omega (arith, ap one_if apart))))

-- The parts of the freed slots are zero, where those of the other slots are.
pub chain_part_read : (limits : Limits) (table store : List ℕ) (k : ℕ) (list : List ℕ)
    → freed_slots limits table store list ≡ true
    → (occurrences k list ≡ 0 → all_zero (part_at limits store k) ≡ true) → all_zero (part_at limits store k) ≡ true
chain_part_read limits table store k [] free elsewhere = elsewhere refl
chain_part_read limits table store k (j ∷ more) free elsewhere =
    by_test (eqb k j) refl (chain_part_read limits table store k more freed.others)
  where
    freed : FreedSlot limits table store j more
    freed = freed_of_test limits table store j more free

    by_test : (b : Bool) → eqb k j ≡ b
        → ((occurrences k more ≡ 0 → all_zero (part_at limits store k) ≡ true) → all_zero (part_at limits store k) ≡ true)
        → all_zero (part_at limits store k) ≡ true
    by_test true here further = rw (eqb-true k j here) freed.bytes
    by_test false apart further = further (λ none. elsewhere (omega (arith, ap one_if apart)))

-- The part of a slot above the high mark is zero.
pub zero_part_above : (limits : Limits) (store : List ℕ) (high k : ℕ) → high < k
    → all_zero (drop (limits.width * high) store) ≡ true → all_zero (part_at limits store k) ≡ true
unfolding part_at
zero_part_above limits store high k above zeros =
    let further : k - 1 ≡ high + (k - 1 - high) = omega arith in
    let start = ap (λ (n : ℕ). limits.width * n) further ∙ mul-add limits.width high (k - 1 - high) in
    let end = zeros_dropped (limits.width * (k - 1 - high)) (drop (limits.width * high) store) zeros in
    zeros_taken limits.width (drop (part_start limits k) store) (rw (start, ← drop-drop) end)

-- Fitting lists of labels join to a fitting list.
fits_append : {width : ℕ} {a b : List Label} → Fits width a → Fits width b → Fits width (a ++ b)
fits_append fits_none fits_b = fits_b
fits_append (fits_more long short rest) fits_b = fits_more long short (fits_append rest fits_b)

module _ (limits : Limits) (table store : List ℕ) where
  fits_represented : (p s : Neighbour) (t : Tree) → Represents limits table store p s t
      → Fits limits.width (labels t)
  fits_represented p s empty stands = fits_none
  fits_represented p s (node l e r) stands =
      let fits_l = fits_represented p (held e.label) l stands.1 in
      let fits_r = fits_represented (held e.label) s r stands.2 in
      rw map-append (fits_append fits_l (fits_more stands.0.some stands.0.short fits_r))

  -- The labels of a tree that stands in rows and parts have lengths that fit.
  pub fitting_read : (p s : Neighbour) (t : Tree) → Represents limits table store p s t
      → lengths_fit limits.width (labels t) ≡ true
  fitting_read p s t stands = test_of_fits (fits_represented p s t stands)

-- The nodes of a tree that was read from slots in use have charges.
pub charges_read : (limits : Limits) (table store : List ℕ) {t : Tree} {link : ℕ} → Stands limits table store t link
    → used_slots limits table store t ≡ true → all_charges (charges t) ≡ true
charges_read limits table store stands_none used = refl
charges_read limits table store (stands_node {k} {l} {r} low up at_l at_r) used =
    let (used_here, used_sons) = (both_true _ _).0 used in
    let (used_l, used_r) = (both_true _ _).0 used_sons in
    rw (
      charges_of_node l (entry_at limits table store k) r,
      charges_read limits table store at_l used_l,
      (used_of_test used_here).charge,
      charges_read limits table store at_r used_r,
    )
