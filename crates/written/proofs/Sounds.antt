-- A valid state written out is sound.
-- `true_balances_lem`, `true_prefixes_lem`: a represented tree has the true balances, places and sides.
-- `used_of_placed`, `freed_of_placed`: nodes and freed slots in their slots are laid out rightly.
-- `sound_of_written`: each part of the test holds of a valid state written out.
use mathlib.Core.Bool.{Bool, true, ◌&&◌}
use mathlib.Core.List.{List, [], ◌∷◌}
use mathlib.Core.Path.{◌≡◌, refl, sym, ap, ◌∙◌}
use Prim.Native.Nat.{ℕ, ◌≤◌}
use lib.ListN.{length}
use borrow.Author.Tests.{eq-eqb, le-leb}
use Rattle.types.specs.declared.Limits.{Limits}
use Rattle.labels.specs.Neighbours.{Neighbour, none_below, held, none_above}
use Rattle.trees.specs.Trees.{Entry, Tree, empty, node, labels, charges}
use Rattle.trees.specs.Charges.{is_charge, all_charges}
use Rattle.trees.specs.Heights.{height}
use Rattle.trees.specs.Plain.{State}
use Rattle.trees.specs.Valid.{Valid}
use Rattle.trees.proofs.Views.{both_true}
use Rattle.trees.proofs.Charged.{charges_of_node}
use Rattle.trees.proofs.MapKept.{Fits, fits_of_test}
use Rattle.tables.specs.Words.{high_mark}
use Rattle.tables.specs.Written.{written_table, written_store}
use Rattle.tables.specs.Sound.{used_slot, used_slots, freed_slots, unused_slots, words_and_bytes, counted}
use Rattle.tables.specs.Sound.{true_balances, true_prefixes, sound_as, sound}
use Rattle.tables.proofs.Represents.{Represents}
use Rattle.written.proofs.Zeros.{all_zero_padded, zeros_after_label}
use Rattle.written.proofs.Rows.{count_of_written, mark_of_written, row_of_written, zero_rows_of_written}
use Rattle.written.proofs.Parts.{part_of_written, zero_parts_of_written}
use Rattle.written.proofs.Slots.{parts_of_fits, TreeInSlots, ChainInSlots, tree_placed, chain_placed}
use Rattle.written.proofs.Slots.{row_above, label_above, written_represents}
use Rattle.written.proofs.Readings.{size_within, chain_of_written, read_of_written}

-- Two tests that hold.
and : {a b : Bool} → a ≡ true → b ≡ true → (a && b) ≡ true
and one other = rw one other

module _ (limits : Limits) (table store : List ℕ) where
  -- A represented tree has the true balances.
  pub true_balances_lem : (p s : Neighbour) (t : Tree) → Represents limits table store p s t → true_balances table t ≡ true
  true_balances_lem p s empty there = refl
  true_balances_lem p s (node l e r) (own, on_left_lem, on_right_lem) =
      and (eq-eqb _ _ (ap (λ row. row.balance) own.row))
      (and (true_balances_lem p (held e.label) l on_left_lem) (true_balances_lem (held e.label) s r on_right_lem))

  -- A represented tree has the true places and sides.
  pub true_prefixes_lem : (p s : Neighbour) (t : Tree) → Represents limits table store p s t
      → true_prefixes table p s t ≡ true
  true_prefixes_lem p s empty there = refl
  true_prefixes_lem p s (node l e r) (own, on_left_lem, on_right_lem) =
      and (eq-eqb _ _ (ap (λ row. row.place) own.row))
      (and (eq-eqb _ _ (ap (λ row. row.side) own.row))
      (and (true_prefixes_lem p (held e.label) l on_left_lem) (true_prefixes_lem (held e.label) s r on_right_lem)))

module _ (limits : Limits) (state : State) where
  -- A slot with a label that fits and a charge is laid out rightly.
  used_slot_lem : (p s : Neighbour) (l : Tree) (e : Entry) (r : Tree) → TreeInSlots limits state p s (node l e r)
      → 1 ≤ length e.label → length e.label ≤ limits.width → is_charge e.charge ≡ true
      → used_slot limits (written_table limits state) (written_store limits state) e.slot ≡ true
  used_slot_lem p s l e r (own, on_left_lem, on_right_lem) some short charge =
      rw (
        row_of_written limits state e.slot own.low own.up,
        own.row_there,
        part_of_written limits state e.slot own.low own.up,
        own.label_there,
      )
      (and (le-leb 1 (length e.label) some)
      (and (le-leb (length e.label) limits.width short)
      (and charge (zeros_after_label limits.width e.label))))

  -- Nodes in their slots are laid out rightly.
  pub used_of_placed : (p s : Neighbour) (t : Tree) → TreeInSlots limits state p s t → Fits limits.width (labels t)
      → all_charges (charges t) ≡ true
      → used_slots limits (written_table limits state) (written_store limits state) t ≡ true
  used_of_placed p s empty placed fits charged = refl
  used_of_placed p s (node l e r) (own, on_left_lem, on_right_lem) fits charged =
      let parts = parts_of_fits l e r fits in
      let (charged_l, others) = (both_true (all_charges (charges l)) _).0 (sym (charges_of_node l e r) ∙ charged) in
      let (charge, charged_r) = (both_true (is_charge e.charge) _).0 others in
      and (used_slot_lem p s l e r (own, on_left_lem, on_right_lem) parts.some parts.short charge)
      (and (used_of_placed p (held e.label) l on_left_lem parts.on_left_lem charged_l)
      (used_of_placed (held e.label) s r on_right_lem parts.on_right_lem charged_r))

  -- Freed slots in their chain are laid out rightly.
  pub freed_of_placed : (freed : List ℕ) → ChainInSlots limits state freed
      → freed_slots limits (written_table limits state) (written_store limits state) freed ≡ true
  freed_of_placed [] placed = refl
  freed_of_placed (k ∷ freed) (own, further) =
      rw (
        row_of_written limits state k own.low own.up,
        own.row_there,
        part_of_written limits state k own.low own.up,
        own.label_there,
      )
      (and (all_zero_padded limits.width [] refl) (freed_of_placed freed further))

  module _ (valid : Valid limits.slots limits.width state) where
    -- The slots above the high mark are zeros.
    unused_of_written :
        unused_slots limits (written_table limits state) (written_store limits state)
        (high_mark (written_table limits state)) ≡ true
    unused_of_written =
        rw (mark_of_written limits state)
        (and (le-leb state.high limits.slots valid.within)
        (and
        (zero_rows_of_written limits state state.high valid.within
        (λ k above up. row_above limits state valid k above))
        (zero_parts_of_written limits state state.high valid.within
        (λ k above up. label_above limits state valid k above))))

    -- Words and bytes are as laid out.
    words_and_bytes_lem :
        words_and_bytes limits (written_table limits state) (written_store limits state) state.tree state.freed ≡ true
    unfolding words_and_bytes
    words_and_bytes_lem =
        and (used_of_placed none_below none_above state.tree (tree_placed limits state valid)
        (fits_of_test limits.width (labels state.tree) valid.fitting) valid.charges_fit)
        (and (freed_of_placed state.freed (chain_placed limits state valid)) unused_of_written)

    -- The nodes number the labels held, at most the slots.
    counted_right : counted limits (written_table limits state) state.tree ≡ true
    unfolding counted
    counted_right =
        and (eq-eqb _ _ (sym (count_of_written limits state))) (le-leb _ _ (size_within limits state valid))

    -- Every part of the test holds of what is read.
    sound_as_read :
        sound_as limits (written_table limits state) (written_store limits state) state.tree state.freed ≡ true
    unfolding sound_as
    sound_as_read =
        let represented = written_represents limits state valid in
        let balances = true_balances_lem limits (written_table limits state) (written_store limits state) in
        let prefixes = true_prefixes_lem limits (written_table limits state) (written_store limits state) in
        and words_and_bytes_lem
        (and counted_right
        (and valid.ascending
        (and (and valid.balanced (balances none_below none_above state.tree represented))
        (and (prefixes none_below none_above state.tree represented)
        (rw (mark_of_written limits state) valid.allotted)))))

    -- A valid state written out is sound.
    pub sound_of_written : height state.tree ≤ limits.depth
        → sound limits (written_table limits state) (written_store limits state) ≡ true
    unfolding sound
    sound_of_written shallow =
        rw (read_of_written limits state valid shallow, chain_of_written limits state valid) sound_as_read
