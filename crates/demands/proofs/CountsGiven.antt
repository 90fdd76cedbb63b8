-- The counts that an answer gives are those of its search steps, in every version that meets the contract.
-- search_counts, update_counts: so it is of searches, and of inserts and deletes.
use mathlib.Core.List.{List}
use mathlib.Core.Path.{sym, ap, ◌∙◌}
use Prim.Native.Nat.{ℕ}
use lib.ListN.{length}
use Rattle.types.specs.Sizes.{hub}
use Rattle.labels.specs.Labels.{Label}
use Rattle.labels.proofs.Clashes.{clash}
use Rattle.trees.specs.Searches.{Held, absent, found}
use Rattle.trees.specs.Plain.{Call, Reply, found_at, not_held, updated, refused, After, sought_by, plain_step}
use Rattle.tables.specs.Written.{Memory, lent}
use Rattle.tables.specs.Steps.{Walk, broken, ended, search_steps}
use Rattle.tables.specs.Sound.{state_of}
use Rattle.tables.specs.Outcomes.{Verdict, pass, refuse, Outcome, outcome_by, answer_by, answer_of, walk_answer}
use Rattle.tables.specs.Outcomes.{reply_answer, of_memory, of_label, of_charge, of_table, settled, search_outcome}
use Rattle.tables.specs.Outcomes.{update_outcome}
use Rattle.demands.specs.Trials.{SearchVersion, UpdateVersion, MeetsSearch, MeetsUpdate, Count, of_counts}
use Rattle.demands.specs.Trials.{count_in, count_of, CountGives}

module _ (k : Count) where
  -- What is held is answered with the counts.
  counts_of_held : (h : Held) (below above visits places : ℕ)
      → CountGives k (of_counts k visits places) (answer_of h below above visits places)
  counts_of_held absent below above visits places n given = cc
  counts_of_held (found e) below above visits places n given = cc

  -- A walk's answer gives its counts, or none.
  counts_of_walk : (w : Walk) → CountGives k (count_of k w) (walk_answer w)
  counts_of_walk broken n given = clash cc
  counts_of_walk (ended s places) n given = counts_of_held s.result _ _ (length s.visited) places n given

  -- So does a refusal, or else the walk's answer.
  counts_by : (v : Verdict) (w : Walk) → CountGives k (count_of k w) (answer_by v (walk_answer w))
  counts_by pass w n given = counts_of_walk w n given
  counts_by (refuse number) w n given = clash cc

  -- A reply's answer gives the walk's counts, or none.
  counts_of_reply : (r : Reply) (w : Walk) → CountGives k (count_of k w) (reply_answer r w)
  counts_of_reply (found_at slot value) w n given = cc
  counts_of_reply (not_held below above) w n given = cc
  counts_of_reply (updated slot) w n given = cc
  counts_of_reply (refused number) w n given = clash cc

  -- So does an update's outcome.
  counts_of_outcome : (v : Verdict) (m : Memory) (w : Walk) (step : After)
      → CountGives k (count_of k w) (outcome_by v m (settled hub m w step)).answer
  counts_of_outcome pass m w step n given = counts_of_reply step.reply w n given
  counts_of_outcome (refuse number) m w step n given = clash cc

  -- A count that a search gives is that of its steps.
  pub search_counts : (f : SearchVersion) → MeetsSearch f → (table store : List ℕ) (x : Label)
      → CountGives k (count_of k (search_steps hub table store x)) (f table store x)
  unfolding search_outcome
  search_counts f meets table store x n given =
      counts_by (of_memory hub table store (of_label hub x pass)) (search_steps hub table store x) n
      (sym (ap (count_in k) (meets table store x)) ∙ given)

  -- A count that an insert or a delete gives is that of its search's steps.
  pub update_counts : (f : UpdateVersion) → MeetsUpdate f → (c : Call) (table store : List ℕ)
      → CountGives k (count_of k (search_steps hub table store (sought_by c))) (f c table store).answer
  unfolding update_outcome
  update_counts f meets c table store n given =
      counts_of_outcome
      (of_memory hub table store (of_label hub (sought_by c) (of_charge c (of_table hub table store pass))))
      (lent table store) (search_steps hub table store (sought_by c))
      (plain_step hub.slots hub.width c (state_of hub table store)) n
      (sym (ap (λ (o : Outcome). count_in k o.answer) (meets c table store)) ∙ given)
