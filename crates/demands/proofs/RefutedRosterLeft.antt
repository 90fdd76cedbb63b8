-- Trial versions of taking a roster that do not meet its contract by what they leave, at the hub's limits.
-- past_refused_fails: a record after the refused one goes in. both_quotes_fail: a doubled quote is kept double.
-- idle_roster_fails, all_or_nothing_fails: records that went in are not left.
-- spoiling_roster_fails: a refused record that changes the memory. cleared_roster_fails: such a version.
use mathlib.Core.List.{List, [], ◌∷◌}
use mathlib.Core.Option.{none}
use mathlib.Core.Path.{◌≡◌, refl, sym, ap, ◌∙◌}
use Prim.Native.Nat.{ℕ, zero, suc, ◌-◌}
use native.Mathlib.Omega.{arith}
use Rattle.types.specs.Sizes.{hub}
use Rattle.types.specs.RosterReplies.{refused}
use Rattle.labels.specs.Labels.{Label, number_of, compare_labels, compare_from, difference_place}
use Rattle.labels.proofs.Clashes.{clash}
use Rattle.decimals.specs.Values.{value_of}
use Rattle.trees.specs.Map.{lookup}
use Rattle.tables.specs.Words.{labels_held, row_at, part_at, label_at}
use Rattle.tables.specs.Written.{Memory, written_table, written_store, lent}
use Rattle.tables.specs.Steps.{is_bad, search_steps}
use Rattle.tables.specs.Sound.{words_and_bytes, counted, sound_as, sound, state_of}
use Rattle.tables.specs.Outcomes.{layout_outcome, update_outcome, insert_outcome}
use Rattle.tables.specs.Claims.{after_list}
use Rattle.tables.specs.MapClaims.{map_in}
use Rattle.rfc4180.specs.Records.{bare_field, quoted_field, take_field, take_fields_with, take_fields, take_record, records_with}
use Rattle.rfc4180.specs.Records.{records_of}
use Rattle.rfc4180.specs.Rosters.{RosterOutcome, roster_from, roster_outcome}
use Rattle.cases.specs.Cases.{c}
use Rattle.demands.specs.Rosters.{inserts_to, entered_by}
use Rattle.demands.specs.RosterTrials.{RosterVersion, MeetsRoster}
use Rattle.demands.specs.RosterLeftTrials.{HoldsAfter, broken_text, quoted_text, both_quotes, IdleRoster}
use Rattle.demands.specs.RosterLeftTrials.{AllOrNothing, SpoilsRoster, cleared_at_refusal}
use Rattle.demands.proofs.Hub.{hub_takes_rosters}
use Rattle.demands.proofs.Computed.{after}
use Rattle.demands.proofs.RefutedRosters.{roster_after, fresh_sound, none_held, answer_by_contract}
use Rattle.demands.proofs.RefutedRosters.{memory_by_contract}

record Shown : Type 0 where
  -- of three records, the second refused, the first is in and the third is not
  stops : (roster_after [] broken_text).answer ≡ refused 2 13
  first_in : labels_held (roster_after [] broken_text).memory.table ≡ 1
  third_out : lookup (c ∷ []) (map_in hub (roster_after [] broken_text).memory) ≡ none
  -- a doubled quote is one
  one_quote : lookup both_quotes (map_in hub (roster_after [] quoted_text).memory) ≡ none
  -- what clearing at the refusal leaves, and what the first record left
  held_cleared : labels_held (cleared_at_refusal (roster_after [] broken_text)).memory.table ≡ 0
  held_before : labels_held (after_list hub (inserts_to 1 (records_of broken_text)) (after [])).table ≡ 1

-- All of it holds by computation.
so : Shown
unfolding
    after number_of compare_labels compare_from difference_place value_of row_at part_at label_at written_table written_store
    is_bad search_steps words_and_bytes counted sound_as sound state_of layout_outcome update_outcome insert_outcome bare_field
    quoted_field take_field take_fields_with take_fields take_record records_with records_of roster_from roster_outcome
so = record {
  stops = refl;
  first_in = refl;
  third_out = refl;
  one_quote = refl;
  held_cleared = refl;
  held_before = refl;
}

-- ---- labels that are held

-- A version that leaves a label which is not to be held fails.
held_fails : (text : List ℕ) (x : Label) → lookup x (map_in hub (roster_after [] text).memory) ≡ none
    → (f : RosterVersion) → HoldsAfter text x f → ¬ MeetsRoster f
held_fails text x missing f holds meets =
    let (p, held) = holds (after []).table (after []).store fresh_sound none_held in
    let left = ap (λ (m : Memory). lookup x (map_in hub m)) (memory_by_contract f meets [] text) in
    clash (cc (held, left, missing))

-- No record after the refused one goes in.
pub past_refused_fails : (f : RosterVersion) → HoldsAfter broken_text (c ∷ []) f → ¬ MeetsRoster f
past_refused_fails = held_fails broken_text (c ∷ []) so.third_out

-- A doubled quote is one of the label.
pub both_quotes_fail : (f : RosterVersion) → HoldsAfter quoted_text both_quotes f → ¬ MeetsRoster f
both_quotes_fail = held_fails quoted_text both_quotes so.one_quote

-- ---- records that went in

-- the labels held in what a version leaves of the text whose second record is refused
left_held : (f : RosterVersion) → MeetsRoster f
    → labels_held (f (after []).table (after []).store broken_text).memory.table ≡ 1
left_held f meets =
    ap (λ (m : Memory). labels_held m.table) (memory_by_contract f meets [] broken_text) ∙ so.first_in

-- An idle roster fails: the first record is held then.
pub idle_roster_fails : (f : RosterVersion) → IdleRoster f → ¬ MeetsRoster f
idle_roster_fails f idle meets =
    let stays = ap (λ (m : Memory). labels_held m.table) (idle (after []).table (after []).store broken_text) in
    omega (arith, left_held f meets, stays, none_held)

-- All or nothing fails: it is held though the second is refused.
pub all_or_nothing_fails : (f : RosterVersion) → AllOrNothing f → ¬ MeetsRoster f
all_or_nothing_fails f undone meets =
    let stays = ap (λ (m : Memory). labels_held m.table)
    (undone (after []).table (after []).store broken_text 2 13 fresh_sound
    (answer_by_contract f meets [] broken_text ∙ so.stops)) in
    omega (arith, left_held f meets, stays, none_held)

-- ---- a refused record changes nothing

-- A refused roster leaves what the records before the refused one leave.
roster_stays : (m : Memory) (text : List ℕ) (n number : ℕ)
    → (roster_outcome hub m.table m.store text).answer ≡ refused n number
    → (roster_outcome hub m.table m.store text).memory
    ≡ after_list hub (inserts_to (entered_by (refused n number)) (records_of text)) m
roster_stays m text zero number says =
    ap (λ (o : RosterOutcome). o.memory)
    (hub_takes_rosters.early m text number (hub_takes_rosters.early_only m text number says))
roster_stays m text (suc n) number says =
    let before : suc n - 1 ≡ n = omega arith in
    rw before (hub_takes_rosters.some m text n number says).0.left

-- A roster that once refuses and changes the memory then fails.
pub spoiling_roster_fails : (f : RosterVersion) (table store text : List ℕ)
    → SpoilsRoster (f table store text) (lent table store) text → ¬ MeetsRoster f
spoiling_roster_fails f table store text spoils meets =
    let is = meets table store text in
    spoils.changes
    (ap (λ (o : RosterOutcome). o.memory) is
    ∙ roster_stays (lent table store) text spoils.n spoils.number
    (sym (ap (λ (o : RosterOutcome). o.answer) is) ∙ spoils.refuses))

-- A version that clears the memory where it refuses fails: of the first record nothing would be left.
pub cleared_roster_fails : ¬ MeetsRoster (λ table store text. cleared_at_refusal (roster_outcome hub table store text))
cleared_roster_fails =
    spoiling_roster_fails (λ table store text. cleared_at_refusal (roster_outcome hub table store text))
    (after []).table (after []).store broken_text
    (record {
      n = 2;
      number = 13;
      refuses = so.stops;
      changes = λ same.
          let emptied = ap (λ (m : Memory). labels_held m.table) same in
          omega (arith, emptied, so.held_cleared, so.held_before);
    })
