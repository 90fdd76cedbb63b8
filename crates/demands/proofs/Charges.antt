-- The call that sets a charge, on a valid state written out, for a label that fits.
-- charges_map: it is refused or done as the map has it, sets the charge in the map, and stores one word.
use mathlib.Core.Bool.{Bool, true, false, not}
use mathlib.Core.Path.{◌≡◌, refl, sym, ap, ◌∙◌}
use Prim.Native.Nat.{ℕ}
use Rattle.types.specs.declared.Limits.{Limits}
use Rattle.types.specs.Answers.{updated, refused}
use Rattle.labels.specs.Labels.{Label}
use Rattle.labels.proofs.Clashes.{clash}
use Rattle.trees.specs.Trees.{Entry}
use Rattle.trees.specs.Charges.{is_charge}
use Rattle.trees.specs.Heights.{Deepest}
use Rattle.trees.specs.Searches.{Held, absent, found, full_search}
use Rattle.trees.specs.Plain.{State, set_charge, updated as updated_at, After, refuse, after_charge, after_arguments}
use Rattle.trees.specs.Plain.{plain_step}
use Rattle.trees.specs.Valid.{Valid}
use Rattle.trees.proofs.MapLaws.{lookup_of_search, map_of_charged}
use Rattle.trees.proofs.ValidSteps.{valid_after}
use Rattle.tables.specs.Words.{put_charge}
use Rattle.tables.specs.Written.{Memory, written, written_table, written_store}
use Rattle.tables.specs.Steps.{Walk, search_steps}
use Rattle.tables.specs.Outcomes.{Outcome, reply_answer, update_outcome}
use Rattle.tables.specs.Claims.{LabelFits}
use Rattle.tables.specs.MapClaims.{ChargesMap}
use Rattle.written.proofs.Charged.{after_charged, charge_written}
use Rattle.demands.proofs.Outcomes.{update_outcome_lem}
use Rattle.demands.proofs.MapSteps.{step_past_label}
use Rattle.demands.proofs.OnSound.{sound_out, map_of_written}

-- What an answer gives: the slot, and no refusal.
same_slot : (k v q slot visits places : ℕ) → updated k v q ≡ updated slot visits places → k ≡ slot
same_slot k v q slot visits places says = cc

never_both : {A : Type 0} (number slot visits places : ℕ) → refused number ≡ updated slot visits places → A
never_both number slot visits places says = clash cc

module _ (limits : Limits) (deepest : Deepest limits.slots limits.depth)
    (s : State) (valid : Valid limits.slots limits.width s)
    (x : Label) (fits : LabelFits limits x) (n : ℕ) where
  abbrev walk : Walk
  walk = search_steps limits (written_table limits s) (written_store limits s) x

  -- The plain tree's step, by the test of the charge and by what the search finds.
  step : (wrong : Bool) → not (is_charge n) ≡ wrong
      → plain_step limits.slots limits.width (set_charge x n) s
      ≡ after_arguments wrong limits.slots (set_charge x n) s
  step wrong is =
      step_past_label limits.slots limits.width (set_charge x n) s fits.some fits.short
      ∙ ap (λ (b : Bool). after_arguments b limits.slots (set_charge x n) s) is

  -- what a step of the plain tree answers and leaves
  abbrev outcome_of : After → Outcome
  outcome_of a = record { answer = reply_answer a.reply walk; memory = written limits a.state }

  -- the memory with word 7 of a slot stored
  abbrev stored : ℕ → Memory
  stored k = record { table = put_charge (written_table limits s) k n; store = written_store limits s }

  -- The call answers and leaves what the step does.
  outcome : (a : After) → plain_step limits.slots limits.width (set_charge x n) s ≡ a
      → update_outcome limits (set_charge x n) (written_table limits s) (written_store limits s) ≡ outcome_of a
  outcome a is = update_outcome_lem limits s deepest valid (set_charge x n) ∙ ap outcome_of is

  answered : {o : Outcome}
      → update_outcome limits (set_charge x n) (written_table limits s) (written_store limits s) ≡ o
      → (update_outcome limits (set_charge x n) (written_table limits s) (written_store limits s)).answer ≡ o.answer
  answered is = ap (λ (o : Outcome). o.answer) is

  -- A wrong charge is refused by 24.
  charge_wrong : is_charge n ≡ false → ChargesMap limits (written limits s) x n
  charge_wrong wrong =
      let is = outcome (refuse 24 s) (step true (ap not wrong)) in
      record {
        says = rw (wrong, is);
        leaves = rw is;
        word = λ slot visits places says. never_both _ slot visits places (sym (answered is) ∙ says);
        after_sound = rw is (sound_out limits deepest s valid);
      }

  -- A label that is not held is refused by 8.
  charge_missing : is_charge n ≡ true → (full_search x s.tree).result ≡ absent
      → ChargesMap limits (written limits s) x n
  charge_missing right none =
      let is = outcome (refuse 8 s)
      (step false (ap not right) ∙ ap (λ (h : Held). after_charge h x n s) none) in
      let missing = lookup_of_search s.tree valid.ascending x in
      record {
        says = rw (right, is, map_of_written limits deepest s valid, ← missing, none);
        leaves = rw is;
        word = λ slot visits places says. never_both _ slot visits places (sym (answered is) ∙ says);
        after_sound = rw is (sound_out limits deepest s valid);
      }

  -- Else the charge is set.
  charge_held : is_charge n ≡ true → (e : Entry) → (full_search x s.tree).result ≡ found e
      → ChargesMap limits (written limits s) x n
  charge_held right e held =
      let settled = step false (ap not right) ∙ ap (λ (h : Held). after_charge h x n s) held in
      let is = outcome (record { reply = updated_at e.slot; state = after_charged s x n }) settled in
      let after : Valid limits.slots limits.width (after_charged s x n) =
      rw settled at (valid_after limits.slots limits.width s valid (set_charge x n)) in
      let there = lookup_of_search s.tree valid.ascending x in
      record {
        says = rw (right, is, map_of_written limits deepest s valid, ← there, held);
        leaves =
            rw (is, map_of_written limits deepest (after_charged s x n) after, map_of_written limits deepest s valid)
            (map_of_charged s.tree valid.ascending x n);
        word = λ slot visits places says.
            let same : e.slot ≡ slot = same_slot e.slot _ _ slot visits places (sym (answered is) ∙ says) in
            ap (λ (o : Outcome). o.memory) is ∙ sym (charge_written limits s x n e valid held)
            ∙ ap stored same;
        after_sound = rw is (sound_out limits deepest (after_charged s x n) after);
      }

  -- The call is refused or done as the map has it, sets the charge in the map, and stores one word.
  pub charges_map : ChargesMap limits (written limits s) x n
  charges_map = by_charge (is_charge n) refl
    where
      by_held : is_charge n ≡ true → (h : Held) → (full_search x s.tree).result ≡ h
          → ChargesMap limits (written limits s) x n
      by_held right absent result = charge_missing right result
      by_held right (found e) result = charge_held right e result

      by_charge : (right : Bool) → is_charge n ≡ right → ChargesMap limits (written limits s) x n
      by_charge false wrong = charge_wrong wrong
      by_charge true right = by_held right (full_search x s.tree).result refl
