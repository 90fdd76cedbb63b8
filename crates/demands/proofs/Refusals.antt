-- A refused update leaves the memory that it found.
-- `refused_leaves`: of any update, on any memory.
use mathlib.Core.List.{List}
use mathlib.Core.Path.{◌≡◌, refl}
use Prim.Native.Nat.{ℕ}
use Rattle.types.specs.declared.Limits.{Limits}
use Rattle.labels.proofs.Clashes.{clash}
use Rattle.trees.specs.Plain as plain
use Rattle.trees.specs.Plain.{Call, Reply, State, sought_by, plain_step}
use Rattle.tables.specs.Written.{lent}
use Rattle.tables.specs.Steps.{Walk, search_steps}
use Rattle.tables.specs.Sound.{state_of}
use Rattle.tables.specs.Outcomes.{Verdict, pass, refuse, of_memory, of_label, of_charge, of_table, outcome_by, settled}
use Rattle.tables.specs.Outcomes.{reply_answer, memory_after, update_outcome}
use Rattle.tables.specs.MapClaims.{said, refused_by}

module _ (limits : Limits) (table store : List ℕ) (number : ℕ) where
  -- The plain tree's refusal leaves the memory,
  by_reply : (r : Reply) (w : Walk) (s : State) → said (reply_answer r w) ≡ refused_by number
      → memory_after limits (lent table store) r s ≡ lent table store
  by_reply (plain.found_at slot value) w s is = refl
  by_reply (plain.not_held below above) w s is = refl
  by_reply (plain.updated slot) w s is = clash cc
  by_reply (plain.refused other) w s is = refl

  -- and so does one by the tests before.
  by_verdict : (v : Verdict) (c : Call)
      → said
      (outcome_by v (lent table store)
      (settled limits (lent table store) (search_steps limits table store (sought_by c))
      (plain_step limits.slots limits.width c (state_of limits table store)))).answer
      ≡ refused_by number
      → (outcome_by v (lent table store)
      (settled limits (lent table store) (search_steps limits table store (sought_by c))
      (plain_step limits.slots limits.width c (state_of limits table store)))).memory
      ≡ lent table store
  by_verdict (refuse other) c is = refl
  by_verdict pass c is =
      let after = plain_step limits.slots limits.width c (state_of limits table store) in
      by_reply after.reply (search_steps limits table store (sought_by c)) after.state is

  -- A refused update leaves the memory that it found.
  pub refused_leaves : (c : Call) → said (update_outcome limits c table store).answer ≡ refused_by number
      → (update_outcome limits c table store).memory ≡ lent table store
  unfolding update_outcome
  refused_leaves c is =
      by_verdict
      (of_memory limits table store (of_label limits (sought_by c) (of_charge c (of_table limits table store pass)))) c is
