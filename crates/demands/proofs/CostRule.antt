-- Demand 3: every list of calls goes as the plain tree goes.
-- call_agrees: each call on a valid state written out agrees with the plain tree's step.
-- cost_rule: so does every list of calls on what layout left.
use mathlib.Core.List.{List, [], ◌∷◌}
use mathlib.Core.Path.{◌≡◌, refl, sym, ap}
use mathlib.Core.Bool.{Bool, true, false}
use Prim.Native.Nat.{ℕ}
use lib.Dec.{eqb, ltb}
use lib.ListN.{length}
use Rattle.types.specs.declared.Limits.{Limits}
use Rattle.labels.specs.Labels.{Label}
use Rattle.trees.specs.Heights.{Deepest}
use Rattle.trees.specs.Searches.{Held, absent, found, full_search}
use Rattle.trees.specs.Plain.{State, fresh, Call, search, insert, delete, set_charge, sought_by}
use Rattle.trees.specs.Plain.{after_search, after_length, plain_step}
use Rattle.trees.specs.Valid.{Valid}
use Rattle.trees.proofs.ValidSteps.{valid_fresh, valid_after}
use Rattle.tables.specs.Written.{written, written_table, written_store}
use Rattle.tables.specs.Steps.{search_steps}
use Rattle.tables.specs.Outcomes.{Outcome, reply_answer}
use Rattle.tables.specs.Claims.{call_outcome, CallAgrees, CallsAgree, CostRule}
use Rattle.demands.proofs.Searches.{search_of_written}
use Rattle.demands.proofs.Outcomes.{search_outcome_lem, update_outcome_lem}
use Rattle.demands.proofs.Found.{finds_held}
use Rattle.demands.proofs.Fresh.{laid_out_is_fresh}

-- A search leaves the plain tree's state.
state_after_search : (capacity width : ℕ) (x : Label) (s : State) → (plain_step capacity width (search x) s).state ≡ s
state_after_search capacity width x s = by_tests (eqb (length x) 0) (ltb width (length x))
  where
    by_held : (h : Held) (below above : ℕ) → (after_search h below above s).state ≡ s
    by_held absent below above = refl
    by_held (found e) below above = refl

    by_tests : (empty long : Bool) → (after_length empty long capacity (search x) s).state ≡ s
    by_tests true long = refl
    by_tests false true = refl
    by_tests false false = by_held (full_search x s.tree).result _ _

module _ (limits : Limits) (deepest : Deepest limits.slots limits.depth) where
  module _ (s : State) (valid : Valid limits.slots limits.width s) where
    -- A call on a valid state written out answers as the plain tree replies, with the counts of its steps, and leaves
    -- the plain tree's state, written out.
    call_outcome_lem : (c : Call) → call_outcome limits c (written limits s)
        ≡ record {
          answer = reply_answer (plain_step limits.slots limits.width c s).reply
              (search_steps limits (written_table limits s) (written_store limits s) (sought_by c));
          memory = written limits (plain_step limits.slots limits.width c s).state;
        }
    call_outcome_lem (search x) = λ i.
        record {
          answer = search_outcome_lem limits s deepest valid x i;
          memory = written limits (sym (state_after_search limits.slots limits.width x s) i);
        }
    call_outcome_lem (insert x value) = update_outcome_lem limits s deepest valid (insert x value)
    call_outcome_lem (delete x) = update_outcome_lem limits s deepest valid (delete x)
    call_outcome_lem (set_charge x n) = update_outcome_lem limits s deepest valid (set_charge x n)

    -- Each call on a valid state written out agrees with the plain tree's step.
    pub call_agrees : (c : Call) → CallAgrees limits c (written limits s) s
    call_agrees c = record {
      search = λ makes. search_of_written limits deepest s valid (sought_by c);
      finds = λ makes. finds_held limits deepest s valid (sought_by c) makes.label;
      answer = ap (λ (o : Outcome). o.answer) (call_outcome_lem c);
      memory = ap (λ (o : Outcome). o.memory) (call_outcome_lem c);
    }

  -- The calls of a list agree, one after the other.
  calls_agree : (calls : List Call) (s : State) → Valid limits.slots limits.width s
      → CallsAgree limits calls (written limits s) s
  calls_agree [] s valid = refl
  calls_agree (c ∷ calls) s valid = (
    call_agrees s valid c,
    rw (call_agrees s valid c).memory
        (calls_agree calls (plain_step limits.slots limits.width c s).state
        (valid_after limits.slots limits.width s valid c)),
  )

-- Every list of calls on what layout left agrees with the plain tree, fed the calls alone.
pub cost_rule : (limits : Limits) → Deepest limits.slots limits.depth → CostRule limits
cost_rule limits deepest table store words bytes calls =
    rw (laid_out_is_fresh limits table store words bytes)
    (calls_agree limits deepest calls fresh (valid_fresh limits.slots limits.width))
