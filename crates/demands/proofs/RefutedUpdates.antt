-- Trial versions of insert and delete that do not meet their contract, each refuted after a small list of calls, at the
-- hub's limits.
-- outcome, reply: what a version that meets the contract does after calls.
-- fixed_insert_fails, refused_inserts_fail, full_at_once_fails: inserts that answer at once.
-- fixed_delete_fails, refused_deletes_fail, not_held_at_once_fails: deletes that answer at once.
-- idle_insert_fails, feigned_inserts_fail: inserts that leave the memory as it was, at once or after the first.
-- fixed_insert_counts_fail, fixed_delete_counts_fail, invented_update_counts_fail: counts other than the steps'.
-- sides_by_numbers_fail: sides set from P and S alone. unrenewed_delete_fails: places below a deleted node not renewed.
-- respelling_taken_fails, folded_insert_fails: inserts that take a respelling, or store folded bytes.
use mathlib.Core.List.{List, [], ◌∷◌}
use mathlib.Core.Option.{some}
use mathlib.Core.Path.{◌≡◌, sym, ap, ◌∙◌}
use Prim.Native.Nat.{ℕ}
use native.Mathlib.Omega.{arith}
use Rattle.types.specs.Sizes.{hub}
use Rattle.types.specs.Answers.{Answer, updated}
use Rattle.labels.specs.Labels.{Label}
use Rattle.labels.proofs.Clashes.{clash}
use Rattle.trees.specs.Plain.{Call, insert, delete, sought_by}
use Rattle.tables.specs.Words.{labels_held, row_at}
use Rattle.tables.specs.Written.{Memory}
use Rattle.tables.specs.Steps.{search_steps}
use Rattle.tables.specs.Outcomes.{Outcome}
use Rattle.tables.specs.MapClaims.{label_in}
use Rattle.cases.specs.Cases.{a, b, c, three}
use Rattle.demands.specs.Trials.{UpdateVersion, MeetsUpdate, Count, count_in, count_of}
use Rattle.demands.specs.UpdateTrials.{InsertsAnswer, InsertsCount, DeletesCount, DeletesAnswer, InsertsIdle}
use Rattle.demands.specs.UpdateTrials.{InsertsOnce, SideIs, Numbers, last_numbers, SidesByNumbers}
use Rattle.demands.specs.UpdateTrials.{InsertsRefused, DeletesRefused, DeletesWithoutRenewal}
use Rattle.demands.specs.UpdateTrials.{InsertsRespelling, StoresFolded}
use Rattle.demands.proofs.Computed.{after, fair_one, fair_two, next, onlyA, onlyB, around, UnderB, shown}
use Rattle.demands.proofs.Computed.{capital, small_is_not_capital}
use Rattle.demands.proofs.CountsGiven.{update_counts}
use Rattle.demands.proofs.RefutedSearches.{no_one_count}

module _ (f : UpdateVersion) (meets : MeetsUpdate f) where
  -- what a version that meets the contract does after calls
  pub outcome : (calls : List Call) (k : Call) → f k (after calls).table (after calls).store ≡ next calls k
  outcome calls k = meets k (after calls).table (after calls).store

  -- the answer that it gives
  pub reply : (calls : List Call) (k : Call)
      → (f k (after calls).table (after calls).store).answer ≡ (next calls k).answer
  reply calls k = ap (λ (o : Outcome). o.answer) (outcome calls k)

  -- the table that it leaves
  leaves : (calls : List Call) (k : Call)
      → (f k (after calls).table (after calls).store).memory.table ≡ (next calls k).memory.table
  leaves calls k = ap (λ (o : Outcome). o.memory.table) (outcome calls k)

-- One fixed answer of inserts fails.
pub fixed_insert_fails : (answer : Answer) (f : UpdateVersion) → InsertsAnswer answer f → ¬ MeetsUpdate f
fixed_insert_fails answer f fixed meets =
    clash (cc (
      fixed (a ∷ []) 5 (after []).table (after []).store (fair_one []),
      reply f meets [] (insert (a ∷ []) 5),
      shown.first_in,
      fixed (a ∷ []) 5 (after onlyA).table (after onlyA).store (fair_one onlyA),
      reply f meets onlyA (insert (a ∷ []) 5),
      shown.in_again,
    ))

-- One fixed answer of deletes fails.
pub fixed_delete_fails : (answer : Answer) (f : UpdateVersion) → DeletesAnswer answer f → ¬ MeetsUpdate f
fixed_delete_fails answer f fixed meets =
    clash (cc (
      fixed (a ∷ []) (after []).table (after []).store (fair_one []),
      reply f meets [] (delete (a ∷ [])),
      shown.none_out,
      fixed (a ∷ []) (after onlyA).table (after onlyA).store (fair_one onlyA),
      reply f meets onlyA (delete (a ∷ [])),
      shown.one_out,
    ))

-- Constant refusal of inserts fails, by any number.
pub refused_inserts_fail : (number : ℕ) (f : UpdateVersion) → InsertsRefused number f → ¬ MeetsUpdate f
refused_inserts_fail number f refuses meets =
    let none = shown.held_fresh in
    let refusal =
    refuses (a ∷ []) 5 (after []).table (after []).store (fair_one []) 0 0 0 0 shown.none_held (omega arith) in
    clash (cc (refusal, reply f meets [] (insert (a ∷ []) 5), shown.first_in))

-- 'Full' at once fails.
pub full_at_once_fails : (f : UpdateVersion) → InsertsRefused 9 f → ¬ MeetsUpdate f
full_at_once_fails = refused_inserts_fail 9

-- Constant refusal of deletes fails, by any number.
pub refused_deletes_fail : (number : ℕ) (f : UpdateVersion) → DeletesRefused number f → ¬ MeetsUpdate f
refused_deletes_fail number f refuses meets =
    let refusal =
    refuses (a ∷ []) (after onlyA).table (after onlyA).store (fair_one onlyA) 1 5 1 2 shown.one_held in
    clash (cc (refusal, reply f meets onlyA (delete (a ∷ [])), shown.one_out))

-- 'Absent' at once fails.
pub not_held_at_once_fails : (f : UpdateVersion) → DeletesRefused 8 f → ¬ MeetsUpdate f
not_held_at_once_fails = refused_deletes_fail 8

-- An idle insert fails: it has to hold one label more, whatever it answers.
pub idle_insert_fails : (f : UpdateVersion) → InsertsIdle f → ¬ MeetsUpdate f
idle_insert_fails f idle meets =
    let idly = idle (a ∷ []) 5 (after []).table (after []).store (fair_one []) in
    let stays = ap (λ (m : Memory). labels_held m.table) idly in
    omega (arith, stays, ap labels_held (leaves f meets [] (insert (a ∷ []) 5)), shown.held_fresh, shown.held_first)

-- A first insert done and later ones feigned fail: the second has to hold one label more too.
pub feigned_inserts_fail : (f : UpdateVersion) → InsertsOnce f → ¬ MeetsUpdate f
feigned_inserts_fail f once meets =
    let one = shown.held_one in
    let feigned = once (b ∷ []) 10 (after onlyA).table (after onlyA).store (fair_one onlyA) (omega arith) in
    let stays = ap (λ (m : Memory). labels_held m.table) feigned in
    omega (arith, stays, ap labels_held (leaves f meets onlyA (insert (b ∷ []) 10)), shown.held_second)

-- An insert that gives one fixed number for its visits, or for its places, fails.
pub fixed_insert_counts_fail : (k : Count) (n : ℕ) (f : UpdateVersion)
    → InsertsCount k n f → ¬ MeetsUpdate f
fixed_insert_counts_fail k n f gives meets =
    no_one_count k n 0 0 1 1 (omega arith) (omega arith)
    (gives (a ∷ []) 5 (after []).table (after []).store (fair_one []) _
    (ap (count_in k) (reply f meets [] (insert (a ∷ []) 5) ∙ shown.first_in)))
    (gives (b ∷ []) 10 (after onlyA).table (after onlyA).store (fair_one onlyA) _
    (ap (count_in k) (reply f meets onlyA (insert (b ∷ []) 10) ∙ shown.second_in)))

-- A delete that does fails too.
pub fixed_delete_counts_fail : (k : Count) (n : ℕ) (f : UpdateVersion)
    → DeletesCount k n f → ¬ MeetsUpdate f
fixed_delete_counts_fail k n f gives meets =
    no_one_count k n 1 2 2 4 (omega arith) (omega arith)
    (gives (a ∷ []) (after onlyA).table (after onlyA).store (fair_one onlyA) _
    (ap (count_in k) (reply f meets onlyA (delete (a ∷ [])) ∙ shown.one_out)))
    (gives (a ∷ b ∷ []) (after three).table (after three).store (fair_two three) _
    (ap (count_in k) (reply f meets three (delete (a ∷ b ∷ [])) ∙ shown.lower_out)))

-- An update that once gives another count than that of its search's steps fails.
pub invented_update_counts_fail : (k : Count) (n : ℕ) (f : UpdateVersion) (c : Call) (table store : List ℕ)
    → count_in k (f c table store).answer ≡ some n
    → (n ≡ count_of k (search_steps hub table store (sought_by c)) → ⊥) → ¬ MeetsUpdate f
invented_update_counts_fail k n f c table store given other meets =
    other (update_counts k f meets c table store n given)

-- A side set from P and S alone fails: "a" and "c" under "b" have both at 1, and other sides.
pub sides_by_numbers_fail : (side : ℕ → ℕ → ℕ) (f : UpdateVersion) → SidesByNumbers side f → ¬ MeetsUpdate f
sides_by_numbers_fail side f by_numbers_lem meets =
    omega (arith, at_ones a 1 shown.left_of_b, at_ones c 0 shown.right_of_b)
  where
    at_ones : (byte n : ℕ) → UnderB (byte ∷ []) n → n ≡ side 1 1
    at_ones byte n under =
        let x : Label = byte ∷ [] in
        let held_b = shown.held_b in
        let set_so = by_numbers_lem x 20 (after onlyB).table (after onlyB).store (fair_one onlyB) (omega arith) in
        let ends = last_numbers (after onlyB).table (after onlyB).store x in
        let set_there : SideIs (side ends.p ends.s) (next onlyB (insert x 20)).memory (updated 2 1 1) =
        rw (outcome f meets onlyB (insert x 20), under.answer) at set_so in
        sym under.its_side ∙ set_there ∙ ap (λ (end : Numbers). side end.p end.s) under.numbers

-- A delete that does not renew the places below fails: "aa" under "ab" has place 2, and place 1 under "b".
pub unrenewed_delete_fails : (f : UpdateVersion) → DeletesWithoutRenewal f → ¬ MeetsUpdate f
unrenewed_delete_fails f unrenewed meets =
    let row_left =
    ap (λ (table : List ℕ). row_at table 2) (leaves f meets around (delete (a ∷ b ∷ []))) ∙ shown.row_after in
    let stays = unrenewed (a ∷ b ∷ []) (after around).table (after around).store (fair_two around) 2
    (rw (row_left, shown.row_then)) (rw (row_left, shown.row_then)) in
    let z : ◌≡◌ {A = ℕ} 1 2 = rw (row_left, shown.row_then) at stays in
    omega arith

-- An insert that takes a respelling fails: "A" has to be refused by 7 where "a" is held.
pub respelling_taken_fails : (f : UpdateVersion) → InsertsRespelling f → ¬ MeetsUpdate f
respelling_taken_fails f takes meets =
    takes capital 9 (after onlyA).table (after onlyA).store (fair_one onlyA) 1 5 1 2 shown.capital_held
    (λ same. small_is_not_capital (sym shown.shown_small ∙ same))
    (reply f meets onlyA (insert capital 9) ∙ shown.capital_again)

-- An insert that stores folded bytes fails: the slot of "A" has to show "A".
pub folded_insert_fails : (f : UpdateVersion) → StoresFolded f → ¬ MeetsUpdate f
folded_insert_fails f stores meets =
    let folds = stores capital 5 (after []).table (after []).store (fair_one []) 1 0 0
    (reply f meets [] (insert capital 5) ∙ shown.capital_in) in
    let keeps = ap (λ (o : Outcome). label_in hub o.memory 1) (outcome f meets [] (insert capital 5)) in
    small_is_not_capital (sym folds ∙ keeps ∙ shown.shown_capital)
