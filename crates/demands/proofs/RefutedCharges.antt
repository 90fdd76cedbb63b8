-- Trial versions of the calls that keep a strap's charge fail, at the hub's limits.
-- idle_charge_fails: an idle call. fixed_charge_fails: one fixed answer. charge_taken_fails: 101 taken.
-- charge_after_soundness_fails: 24 after 6. insert_charge_fails: an insert that writes another charge than 255.
-- freed_charge_fails: a freed slot keeps its charge. relinked_unknown_fails: a relinked node gets 255.
use mathlib.Core.Bool.{false}
use mathlib.Core.List.{List, [], ◌∷◌}
use mathlib.Core.Logic.{◌≢◌}
use mathlib.Core.Path.{◌≡◌, refl, sym, ap, ◌∙◌}
use Prim.Native.Nat.{ℕ}
use native.Mathlib.Omega.{arith}
use lib.ListN.{set, length-set}
use Rattle.types.specs.Sizes.{hub}
use Rattle.types.specs.Answers.{Answer, updated, refused}
use Rattle.labels.specs.Labels.{number_of, compare_labels, compare_from, difference_place}
use Rattle.labels.proofs.Clashes.{clash}
use Rattle.trees.specs.Charges.{unknown}
use Rattle.trees.specs.Plain.{Call, insert, delete, set_charge}
use Rattle.tables.specs.Words.{row_at, part_at, label_at}
use Rattle.tables.specs.Written.{Memory, written_table, written_store}
use Rattle.tables.specs.Steps.{is_bad, search_steps}
use Rattle.tables.specs.Sound.{words_and_bytes, counted, sound_as, sound, state_of}
use Rattle.tables.specs.Outcomes.{Outcome, search_outcome, layout_outcome, update_outcome}
use Rattle.tables.specs.MapClaims.{charge_in}
use Rattle.cases.specs.Cases.{a, b}
use Rattle.demands.specs.Trials.{UpdateVersion, MeetsUpdate}
use Rattle.demands.specs.ChargeTrials.{ChargesIdle, ChargesAnswer, TakesCharge, ChargesAfterSoundness}
use Rattle.demands.specs.ChargeTrials.{InsertsCharge, FreesCharged, RelinksUnknown}
use Rattle.demands.proofs.Computed.{after, next, fair_one, fair_two, onlyA, shown}
use Rattle.demands.proofs.RefutedUpdates.{outcome, reply}

-- "a" with a charge; "ab" with "aa" on its left and "b" on its right, which has a charge and takes the place of "ab"
abbrev chargedA : List Call
chargedA = insert (a ∷ []) 5 ∷ set_charge (a ∷ []) 40 ∷ []

abbrev chargedB : List Call
chargedB =
    insert (a ∷ b ∷ []) 1 ∷ insert (a ∷ a ∷ []) 2 ∷ insert (b ∷ []) 3 ∷ set_charge (b ∷ []) 70 ∷ []

-- "a" in a table that counts two labels
abbrev miscounted : List ℕ
miscounted = set (after onlyA).table 1 2

record Shown : Type 0 where
  inserted : charge_in (after onlyA) 1 ≡ unknown
  set_so : (next onlyA (set_charge (a ∷ []) 40)).answer ≡ updated 1 1 2
  left_so : charge_in (next onlyA (set_charge (a ∷ []) 40)).memory 1 ≡ 40
  none_held : (next [] (set_charge (a ∷ []) 40)).answer ≡ refused 8
  above_100 : (next onlyA (set_charge (a ∷ []) 101)).answer ≡ refused 24
  unsound : sound hub miscounted (after onlyA).store ≡ false
  first_24 : (update_outcome hub (set_charge (a ∷ []) 101) miscounted (after onlyA).store).answer ≡ refused 24
  new_charge : charge_in (next [] (insert (a ∷ []) 5)).memory 1 ≡ unknown
  charge_then : charge_in (after chargedA) 1 ≡ 40
  gone : (next chargedA (delete (a ∷ []))).answer ≡ updated 1 1 2
  freed : charge_in (next chargedA (delete (a ∷ []))).memory 1 ≡ 0
  link_then : (row_at (after chargedB).table 3).left ≡ 0
  relinked : (row_at (next chargedB (delete (a ∷ b ∷ []))).memory.table 3).left ≡ 2
  kept : charge_in (next chargedB (delete (a ∷ b ∷ []))).memory 3 ≡ 70

-- All of it holds by computation.
so : Shown
unfolding
    after number_of compare_labels compare_from difference_place row_at part_at label_at written_table written_store is_bad
    search_steps words_and_bytes counted sound_as sound state_of search_outcome layout_outcome update_outcome
so = record {
  inserted = refl;
  set_so = refl;
  left_so = refl;
  none_held = refl;
  above_100 = refl;
  unsound = refl;
  first_24 = refl;
  new_charge = refl;
  charge_then = refl;
  gone = refl;
  freed = refl;
  link_then = refl;
  relinked = refl;
  kept = refl;
}

-- what a version that meets the contract leaves in a slot's word 7 after calls
charge_left : (f : UpdateVersion) → MeetsUpdate f → (calls : List Call) (c : Call) (k : ℕ)
    → charge_in (f c (after calls).table (after calls).store).memory k ≡ charge_in (next calls c).memory k
charge_left f meets calls c k = ap (λ (o : Outcome). charge_in o.memory k) (outcome f meets calls c)

-- An idle call fails: the charge has to be 40 then, whatever it answers.
pub idle_charge_fails : (f : UpdateVersion) → ChargesIdle f → ¬ MeetsUpdate f
idle_charge_fails f idle meets =
    let idly = idle (a ∷ []) 40 (after onlyA).table (after onlyA).store (fair_one onlyA) in
    let stays = ap (λ (m : Memory). charge_in m 1) idly in
    omega (arith, stays, charge_left f meets onlyA (set_charge (a ∷ []) 40) 1, so.left_so, so.inserted)

-- One fixed answer fails.
pub fixed_charge_fails : (answer : Answer) (f : UpdateVersion) → ChargesAnswer answer f → ¬ MeetsUpdate f
fixed_charge_fails answer f fixed meets =
    clash (cc (
      fixed (a ∷ []) 40 (after []).table (after []).store (fair_one []),
      reply f meets [] (set_charge (a ∷ []) 40),
      so.none_held,
      fixed (a ∷ []) 40 (after onlyA).table (after onlyA).store (fair_one onlyA),
      reply f meets onlyA (set_charge (a ∷ []) 40),
      so.set_so,
    ))

-- 101 taken fails.
pub charge_taken_fails : (f : UpdateVersion) → TakesCharge 101 f → ¬ MeetsUpdate f
charge_taken_fails f takes meets =
    let taken = takes (a ∷ []) (after onlyA).table (after onlyA).store (fair_one onlyA) 1 5 1 2 shown.one_held in
    clash (cc (taken, reply f meets onlyA (set_charge (a ∷ []) 101), so.above_100))

-- 24 after 6 fails.
pub charge_after_soundness_fails : (f : UpdateVersion) → ChargesAfterSoundness f → ¬ MeetsUpdate f
charge_after_soundness_fails f later meets =
    let fair = fair_one onlyA {byte = a} in
    let says =
    later (a ∷ []) 101 miscounted (after onlyA).store (length-set (after onlyA).table 1 2 ∙ fair.holds.words)
    fair.holds.bytes fair.fits refl so.unsound in
    let is =
    ap (λ (o : Outcome). o.answer) (meets (set_charge (a ∷ []) 101) miscounted (after onlyA).store) in
    clash (cc (says, is, so.first_24))

-- An insert that writes another charge than 255 fails.
pub insert_charge_fails : (charge : ℕ) → charge ≢ unknown → (f : UpdateVersion) → InsertsCharge charge f
    → ¬ MeetsUpdate f
insert_charge_fails charge other f writes meets =
    let written = writes (a ∷ []) 5 (after []).table (after []).store (fair_one []) 1 0 0
    (reply f meets [] (insert (a ∷ []) 5) ∙ shown.first_in) in
    other (sym written ∙ charge_left f meets [] (insert (a ∷ []) 5) 1 ∙ so.new_charge)

-- A freed slot that keeps its charge fails: it has to be 0, and was 40.
pub freed_charge_fails : (f : UpdateVersion) → FreesCharged f → ¬ MeetsUpdate f
freed_charge_fails f keeps meets =
    let kept = keeps (a ∷ []) (after chargedA).table (after chargedA).store (fair_one chargedA) 1 1 2
    (reply f meets chargedA (delete (a ∷ [])) ∙ so.gone) in
    omega (arith, kept, charge_left f meets chargedA (delete (a ∷ [])) 1, so.freed, so.charge_then)

-- A relinked node that gets 255 fails: "b" takes the place of "ab", and has to keep 70.
pub relinked_unknown_fails : (f : UpdateVersion) → RelinksUnknown f → ¬ MeetsUpdate f
relinked_unknown_fails f relinks meets =
    let is = outcome f meets chargedB (delete (a ∷ b ∷ [])) in
    let link = ap (λ (o : Outcome). (row_at o.memory.table 3).left) is ∙ so.relinked in
    let lost = relinks (a ∷ b ∷ []) (after chargedB).table (after chargedB).store (fair_two chargedB) 3
    (λ stays. omega (arith, stays, link, so.link_then)) in
    omega (arith, lost, charge_left f meets chargedB (delete (a ∷ b ∷ [])) 3, so.kept)
