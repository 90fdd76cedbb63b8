-- Word 7 on every sound table.
-- charge_rule: in a slot in use it is a charge, and may be any; in another slot it is 0.
use mathlib.Core.Bool.{Bool, true, false, cond}
use mathlib.Core.List.{List, [], ◌∷◌}
use mathlib.Core.Path.{◌≡◌, refl, ap, ◌∙◌}
use Prim.Native.Nat.{ℕ, ◌≤◌}
use lib.Dec.{eqb}
use Rattle.types.specs.declared.Limits.{Limits}
use Rattle.types.specs.declared.Row.{Row}
use Rattle.labels.specs.Neighbours.{none_below, none_above}
use Rattle.labels.proofs.Alike.{alike_refl}
use Rattle.trees.specs.Trees.{Entry, NodeOf, slots}
use Rattle.trees.specs.Charges.{is_charge}
use Rattle.trees.specs.Heights.{Deepest}
use Rattle.trees.specs.Searches.{found}
use Rattle.trees.specs.Plain.{State}
use Rattle.trees.specs.Valid.{Valid, occurrences}
use Rattle.trees.proofs.Charged.{charge_of_node}
use Rattle.trees.proofs.Searched.{node_found}
use Rattle.trees.proofs.Sorted.{between_of_ascends}
use Rattle.trees.proofs.ValidSteps.{valid_of_charge}
use Rattle.tables.specs.Words.{put_charge}
use Rattle.tables.specs.Written.{free_row, chain_row, first_of, written, written_table, written_store}
use Rattle.tables.specs.Claims.{Sound}
use Rattle.tables.specs.MapClaims.{charge_in}
use Rattle.written.proofs.Charged.{charge_written}
use Rattle.written.proofs.Held.{height_within, state_of_held}
use Rattle.written.proofs.Places.{row_elsewhere}
use Rattle.written.proofs.Rows.{row_of_written}
use Rattle.written.proofs.Slots.{written_represents}
use Rattle.demands.specs.Charges.{tree_in, ChargeRule}
use Rattle.demands.proofs.LabelsRead.{charge_read, of_node}
use Rattle.demands.proofs.OnSound.{of_sound, sound_out}

-- A slot of the free chain, or above the high mark, has no charge.
charge_of_free : (freed : List ℕ) (k : ℕ) → (chain_row freed k).charge ≡ 0
charge_of_free [] k = refl
charge_of_free (j ∷ freed) k = go (eqb k j) (charge_of_free freed k)
  where
    go : (b : Bool) → (chain_row freed k).charge ≡ 0
        → (cond {A = Row} b (free_row (first_of freed)) (chain_row freed k)).charge ≡ 0
    go true further = refl
    go false further = further

module _ (limits : Limits) (deepest : Deepest limits.slots limits.depth) where
  module _ (s : State) (valid : Valid limits.slots limits.width s) where
    tree_out : tree_in limits (written limits s) ≡ s.tree
    tree_out =
        ap (λ (state : State). state.tree)
        (state_of_held limits (written limits s) s (record { valid = valid; out = refl })
        (height_within limits deepest s valid))

    demanded_out : (e : Entry) → NodeOf e (tree_in limits (written limits s))
        → is_charge (charge_in (written limits s) e.slot) ≡ true
    demanded_out e there =
        let node = rw tree_out at there in
        let read =
        of_node limits (written limits s) (λ e. charge_in (written limits s) e.slot ≡ e.charge)
        (λ p q l r e own. charge_read limits (written limits s) own) none_below none_above node
        (written_represents limits s valid) in
        ap is_charge read ∙ charge_of_node node valid.charges_fit

    any_out : (e : Entry) → NodeOf e (tree_in limits (written limits s)) → (n : ℕ) → is_charge n ≡ true
        → Sound limits (record { table = put_charge (written_table limits s) e.slot n; store = written_store limits s })
    any_out e there n right =
        let held =
        node_found none_below none_above e.label (between_of_ascends s.tree valid.ascending)
        (rw tree_out at there) (alike_refl e.label) in
        rw (charge_written limits s e.label n e valid held)
        (sound_out limits deepest _
        (valid_of_charge limits.slots limits.width s valid e.label n right (found e)))

    free_out : (k : ℕ) → 1 ≤ k → k ≤ limits.slots → occurrences k (slots (tree_in limits (written limits s))) ≡ 0
        → charge_in (written limits s) k ≡ 0
    free_out k low up none =
        ap (λ (row : Row). row.charge) (row_of_written limits s k low up
        ∙ row_elsewhere k none_below none_above s.tree (chain_row s.freed k) (rw tree_out at none))
        ∙ charge_of_free s.freed k

  -- On every sound table word 7 is so.
  pub charge_rule : ChargeRule limits
  charge_rule = record {
    demanded =
        of_sound limits deepest
        (λ m. (e : Entry) → NodeOf e (tree_in limits m) → is_charge (charge_in m e.slot) ≡ true) demanded_out;
    any =
        of_sound limits deepest
        (λ m. (e : Entry) → NodeOf e (tree_in limits m) → (n : ℕ) → is_charge n ≡ true
        → Sound limits (record { table = put_charge m.table e.slot n; store = m.store })) any_out;
    free =
        of_sound limits deepest
        (λ m. (k : ℕ) → 1 ≤ k → k ≤ limits.slots → occurrences k (slots (tree_in limits m)) ≡ 0 → charge_in m k ≡ 0)
        free_out;
  }
