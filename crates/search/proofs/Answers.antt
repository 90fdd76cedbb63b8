-- The answer of a walk, by the node that a loop has reached.
-- `Reached`: the invariant of the loop.  `reached_root`: at the root.  `reached_son`: after a node's step.
-- `walk_halted`: where there is no node to visit, it ends.  `walk_found`: where the label is found, it ends.
-- `outcome_refused`, `outcome_walked`: the outcome of a search that its first tests refuse, and that they let through.
use mathlib.Core.Path.{◌≡◌, refl, sym, ap, ◌∙◌}
use mathlib.Core.Logic.{◌≢◌}
use mathlib.Core.List.{List, [], ◌∷◌}
use mathlib.Core.Bool.{Bool, true, false, ◌||◌, true≢false}
use Prim.Native.Nat.{ℕ, zero, suc, ◌+◌, ◌-◌, ◌*◌, ◌≤◌, ◌<◌}
use native.Mathlib.Omega.{arith}
use lib.Dec.{ltb, eqb}
use lib.ListN.{length, get_or}
use borrow.Author.Tests.{ne_eqb, eqb-true, eqb-false}
use Rattle.std.specs.Prelude.{Result, Ok, Err}
use Rattle.types.specs.declared.Limits.{Limits}
use Rattle.types.specs.declared.Row.{Row}
use Rattle.types.specs.declared.Searched.{Searched}
use Rattle.types.specs.declared.Searched.TheVariants.{Found}
use Rattle.types.specs.declared.Refusal.{Refusal}
use Rattle.types.specs.Answers.{Answer, search_says}
use Rattle.labels.specs.Labels.{Label}
use Rattle.trees.specs.Trees.{Entry}
use Rattle.tables.specs.Words.{root_link, row_at, entry_at}
use Rattle.tables.specs.Steps.{stop, is_bad, broken, walk_by, missing, steps_by, steps, search_steps}
use Rattle.tables.specs.Outcomes.{pass, of_memory, of_label, walk_answer, search_outcome}
use Rattle.lengths.specs.Tests.{test_says}
use Rattle.words.specs.Limits.{LimitsFit}
use Rattle.lengths.proofs.FirstLines.{lengths_refused, lengths_passed, lengths_fit_lem}
use Rattle.nodes.specs.Nodes.{halts_at, below_after, above_after, row_step, son_of}
use Rattle.nodes.proofs.Rows.{live}
use Rattle.search.specs.Walks.{halted_at, answer_after, answer_from}
use Rattle.search.proofs.Moves.{go_on, Ends, Went, Passed}
use Rattle.search.proofs.Behind.{answer_after_nothing, answer_after_visited}

-- a walk has reached a link: the counts are within their bounds, and its answer from there on is the whole answer
pub record Reached (limits : Limits) (table store : List ℕ) (x : Label) (whole : Answer) (link remaining places : ℕ)
    (ends near : List ℕ) : Type 0 where
  pub within : remaining ≤ limits.depth
  pub few : places ≤ 4097 * (limits.depth - remaining)
  pub held : Ends ends
  pub two : length near ≡ 2
  pub so : answer_from limits table store x link remaining places ends near ≡ whole

module _ (limits : Limits) (table store : List ℕ) (x : Label) where
  -- at an empty link nothing more is visited
  steps_missing : (remaining p s : ℕ) → steps limits table store x remaining 0 p s ≡ missing
  steps_missing zero p s = refl
  steps_missing (suc remaining) p s = refl

  -- a node too many, a link too high or a bad row breaks the walk
  steps_broken : (remaining link p s : ℕ) → link ≢ 0
      → (eqb remaining 0 || (ltb limits.slots link || is_bad limits (row_at table link))) ≡ true
      → steps limits table store x remaining link p s ≡ broken
  steps_broken remaining zero p s full bad = absurd (full refl)
  steps_broken zero (suc k) p s full bad = refl
  steps_broken (suc remaining) (suc k) p s full bad =
      let room : suc remaining ≢ 0 = λ e. omega arith in rw (rw (ne_eqb _ _ room) at bad, steps_by)

  -- any other node takes its step
  steps_node : (remaining link p s : ℕ) → halts_at limits table link remaining ≡ false
      → steps limits table store x remaining link p s
      ≡ walk_by (row_step limits store x link (row_at table link) p s) (entry_at limits table store link)
      (steps limits table store x (remaining - 1) (row_at table link).left)
      (steps limits table store x (remaining - 1) (row_at table link).right)
  unfolding halts_at row_step
  steps_node zero zero p s fine = absurd (true≢false fine)
  steps_node zero (suc k) p s fine = absurd (true≢false (rw (ne_eqb (suc k) 0 (λ e. omega arith)) at fine))
  steps_node (suc remaining) zero p s fine = absurd (true≢false fine)
  steps_node (suc remaining) (suc k) p s fine =
      let e : suc remaining - 1 ≡ remaining = omega arith in
      let passed = rw (ne_eqb (suc k) 0 (λ z. omega arith), ne_eqb (suc remaining) 0 (λ z. omega arith)) at fine in
      rw (passed, steps_by, e)

  -- the walk from a node on goes into the son that its step takes
  answer_after_onward : (remaining below above visits places p s examined : ℕ) (row : Row) (to : Bool) (e : Entry)
      → answer_after below above visits places
      (walk_by (go_on to p s examined) e
      (steps limits table store x remaining row.left)
      (steps limits table store x remaining row.right))
      ≡ answer_after (below_after to e.slot below) (above_after to e.slot above) (visits + 1) (places + examined)
      (steps limits table store x remaining (son_of row to) p s)
  unfolding son_of
  answer_after_onward remaining below above visits places p s examined row true e =
      answer_after_visited true below above visits places examined e
      (steps limits table store x remaining row.right p s)
  answer_after_onward remaining below above visits places p s examined row false e =
      answer_after_visited false below above visits places examined e
      (steps limits table store x remaining row.left p s)

  -- a walk has reached a link, which is tested
  module _ (whole : Answer) (link remaining places : ℕ) (ends near : List ℕ)
      (at : Reached limits table store x whole link remaining places ends near)
      (tested : Bool) (test : tested ≡ halts_at limits table link remaining) where
    abbrev visits : ℕ
    visits = limits.depth - remaining

    abbrev below : ℕ
    below = get_or near 1 0

    abbrev above : ℕ
    above = get_or near 0 0

    -- where there is no node to visit, it ends
    pub walk_halted : (a : Result Searched Refusal) → tested ≡ true → a ≡ halted_at link below above visits places
        → search_says a ≡ whole
    unfolding answer_from halts_at
    walk_halted a is said = go (eqb link 0) refl (sym test ∙ is) said
      where
        go : (b : Bool) → eqb link 0 ≡ b
            → (b || (eqb remaining 0 || (ltb limits.slots link || is_bad limits (row_at table link)))) ≡ true
            → a ≡ halted_at link below above visits places → search_says a ≡ whole
        go true empty all e =
            let none = eqb-true link 0 empty in
            let v : visits + 0 ≡ visits = omega arith in
            let p : places + 0 ≡ places = omega arith in
            rw (e, empty) (rw (none, steps_missing, v, p) at at.so)
        go false full all e =
            let cut = steps_broken remaining link (get_or ends 0 0) (get_or ends 1 0) (eqb-false link 0 full) all in
            rw (e, full) (rw cut at at.so)

    module _ (fine : tested ≡ false) (row : Row) (read : row ≡ row_at table link) where
      -- elsewhere it is that of the step taken
      walk_stepped : answer_after below above visits places
          (walk_by (row_step limits store x link row (get_or ends 0 0) (get_or ends 1 0)) (entry_at limits table store link)
          (steps limits table store x (remaining - 1) row.left)
          (steps limits table store x (remaining - 1) row.right)) ≡ whole
      unfolding answer_from
      walk_stepped =
          rw read (sym (ap (answer_after below above visits places)
          (steps_node remaining link (get_or ends 0 0) (get_or ends 1 0) (sym test ∙ fine))) ∙ at.so)

      -- where the label is found, it ends
      pub walk_found : (held : Row) → held ≡ row_at table link → (examined more : ℕ) (a : Result Searched Refusal)
          → stop examined ≡ row_step limits store x link row (get_or ends 0 0) (get_or ends 1 0)
          → a ≡ Ok (Found link held.value (visits + 1) more) → more ≡ places + examined → search_says a ≡ whole
      walk_found held again examined more a step e sum = rw (e, sum, again) (rw (← step) at walk_stepped)

      -- where it is not, it goes on to a son
      module _ (to : Bool) (next more : ℕ) (after beside : List ℕ) (son : next ≡ son_of row to)
          (went : Went limits store x link row ends places to after more) (passed : Passed near link to beside) where
        one_more : limits.depth - (remaining - 1) ≡ visits + 1
        one_more =
            let room = (live limits table link remaining tested test fine).room in let within = at.within in omega arith

        -- with the same answer
        walk_onward : answer_from limits table store x next (remaining - 1) more after beside ≡ whole
        unfolding answer_from
        walk_onward =
            let goes = answer_after_onward (remaining - 1) below above visits places (get_or after 0 0) (get_or after 1 0)
            went.examined row to (entry_at limits table store link) in
            rw (son, one_more, went.sum, passed.below, passed.above)
            (sym goes ∙ rw (← went.step) at walk_stepped)

        pub reached_son : Reached limits table store x whole next (remaining - 1) more after beside
        reached_son =
            let within = at.within in
            let few = at.few in
            let sum = went.sum in
            let some = went.few in
            record {
              within = omega arith;
              few = rw one_more (omega arith);
              held = went.held;
              two = passed.two;
              so = walk_onward;
            }

-- at the root nothing is behind it
pub reached_root : (limits : Limits) (table store : List ℕ) (x : Label) (root : ℕ)
    → Reached limits table store x (walk_answer (steps limits table store x limits.depth root 1 1))
    root limits.depth 0 (1 ∷ (1 ∷ (1 ∷ []))) (0 ∷ (0 ∷ []))
unfolding answer_from
reached_root limits table store x root =
    let none : limits.depth - limits.depth ≡ 0 = omega arith in
    record {
      within = omega arith;
      few = omega arith;
      held = record { three = refl; again = refl };
      two = refl;
      so = rw none (answer_after_nothing (steps limits table store x limits.depth root 1 1));
    }

-- the outcome of a search, by its first tests: refused by them, or else the answer of the walk from the root
module _ (limits : Limits) (table store : List ℕ) (x : Label) (tested : Result Unit Refusal)
    (says : test_says tested ≡ of_memory limits table store (of_label limits x pass)) where
  pub outcome_refused : (a : Result Searched Refusal) (r : Refusal) → tested ≡ Err r → a ≡ Err r
      → search_says a ≡ search_outcome limits table store x
  unfolding search_outcome
  outcome_refused a r e so = rw (so, lengths_refused limits table store x tested says r e pass)

  pub outcome_walked : (a : Answer) → tested ≡ Ok tt
      → a ≡ walk_answer (steps limits table store x limits.depth (root_link table) 1 1)
      → a ≡ search_outcome limits table store x
  unfolding search_outcome search_steps
  outcome_walked a e so = rw (lengths_passed limits table store x tested says e pass) so

  -- the table that they let through has a root link
  pub root_there : LimitsFit limits → tested ≡ Ok tt → 0 < length table
  root_there fit e = let words = (lengths_fit_lem limits table store x tested says fit e).words in omega arith
