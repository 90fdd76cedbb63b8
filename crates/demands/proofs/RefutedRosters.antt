-- Trial versions of taking a roster that do not meet its contract by their answers, at the hub's limits.
-- fixed_roster_fails, refused_rosters_fail: rosters that answer at once.
-- bare_end_taken_fails, respelled_roster_fails, header_passed_fails: texts that are not to be taken.
-- label_before_record_fails, numbered_from_none_fails: another refusal, and another record's number.
-- answer_by_contract, memory_by_contract: what a version that meets the contract answers after calls, and leaves.
-- fresh_sound, none_held: a fresh table is sound, and holds nothing.
-- taken_is_not_refused, numbers_differ: answers that differ.
use mathlib.Core.List.{List, []}
use mathlib.Core.Path.{◌≡◌, refl, sym, ap, ◌∙◌}
use Prim.Native.Nat.{ℕ}
use native.Mathlib.Omega.{arith}
use Rattle.types.specs.Sizes.{hub}
use Rattle.types.specs.RosterReplies.{RosterReply, taken, refused}
use Rattle.labels.specs.Labels.{number_of, compare_labels, compare_from, difference_place}
use Rattle.labels.proofs.Clashes.{clash}
use Rattle.decimals.specs.Values.{value_of}
use Rattle.trees.specs.Plain.{Call}
use Rattle.tables.specs.Words.{labels_held, row_at, part_at, label_at}
use Rattle.tables.specs.Written.{written_table, written_store}
use Rattle.tables.specs.Steps.{is_bad, search_steps}
use Rattle.tables.specs.Sound.{words_and_bytes, counted, sound_as, sound, state_of}
use Rattle.tables.specs.Outcomes.{layout_outcome, update_outcome, insert_outcome}
use Rattle.tables.specs.Claims.{Sound}
use Rattle.rfc4180.specs.Records.{bare_field, quoted_field, take_field, take_fields_with, take_fields, take_record, records_with}
use Rattle.rfc4180.specs.Records.{records_of}
use Rattle.rfc4180.specs.Rosters.{RosterOutcome, roster_from, roster_outcome}
use Rattle.cases.specs.Cases.{a}
use Rattle.demands.specs.RosterTrials.{RosterVersion, MeetsRoster, RostersAnswer, RostersRefused, AnswersText}
use Rattle.demands.specs.RosterTrials.{one_text, bare_text, nameless_text, respelled_text, lone_text, headed_text}
use Rattle.demands.proofs.Computed.{after, fair_one}

-- what taking a roster gives and leaves after calls
abbrev pub roster_after : List Call → (text : List ℕ) → RosterOutcome
roster_after calls text = roster_outcome hub (after calls).table (after calls).store text

record Shown : Type 0 where
  none_held : labels_held (after []).table ≡ 0
  none_taken : (roster_after [] []).answer ≡ taken 0
  one_taken : (roster_after [] one_text).answer ≡ taken 1
  -- texts that are refused
  bare : (roster_after [] bare_text).answer ≡ refused 1 13
  nameless : (roster_after [] nameless_text).answer ≡ refused 1 13
  respelled : (roster_after [] respelled_text).answer ≡ refused 2 7
  lone : (roster_after [] lone_text).answer ≡ refused 1 13
  headed : (roster_after [] headed_text).answer ≡ refused 1 13

-- All of it holds by computation.
so : Shown
unfolding
    after number_of compare_labels compare_from difference_place value_of row_at part_at label_at written_table written_store
    is_bad search_steps words_and_bytes counted sound_as sound state_of layout_outcome update_outcome insert_outcome bare_field
    quoted_field take_field take_fields_with take_fields take_record records_with records_of roster_from roster_outcome
so = record {
  none_held = refl;
  none_taken = refl;
  one_taken = refl;
  bare = refl;
  nameless = refl;
  respelled = refl;
  lone = refl;
  headed = refl;
}

-- A fresh table is sound, and holds nothing.
pub fresh_sound : Sound hub (after [])
fresh_sound = (fair_one [] {byte = a}).holds

pub none_held : labels_held (after []).table ≡ 0
none_held = so.none_held

-- What a version that meets the contract answers after calls, and leaves.
pub answer_by_contract : (f : RosterVersion) → MeetsRoster f → (calls : List Call) (text : List ℕ)
    → (f (after calls).table (after calls).store text).answer ≡ (roster_after calls text).answer
answer_by_contract f meets calls text =
    ap (λ (o : RosterOutcome). o.answer) (meets (after calls).table (after calls).store text)

pub memory_by_contract : (f : RosterVersion) → MeetsRoster f → (calls : List Call) (text : List ℕ)
    → (f (after calls).table (after calls).store text).memory ≡ (roster_after calls text).memory
memory_by_contract f meets calls text =
    ap (λ (o : RosterOutcome). o.memory) (meets (after calls).table (after calls).store text)

-- ---- answers at once

-- One fixed answer fails: no record goes in of one text, and one of another.
pub fixed_roster_fails : (reply : RosterReply) (f : RosterVersion) → RostersAnswer reply f → ¬ MeetsRoster f
fixed_roster_fails reply f fixed meets =
    clash (cc (
      fixed (after []).table (after []).store [] 0 fresh_sound so.none_taken,
      answer_by_contract f meets [] [],
      so.none_taken,
      fixed (after []).table (after []).store one_text 1 fresh_sound so.one_taken,
      answer_by_contract f meets [] one_text,
      so.one_taken,
    ))

-- Constant refusal fails, by any number.
pub refused_rosters_fail : (number : ℕ) (f : RosterVersion) → RostersRefused number f → ¬ MeetsRoster f
refused_rosters_fail number f refuses meets =
    let (n, says) = refuses (after []).table (after []).store one_text 1 fresh_sound so.one_taken in
    clash (cc (says, answer_by_contract f meets [] one_text, so.one_taken))

-- ---- texts answered otherwise

-- A version that answers a text otherwise fails.
other_answer_fails : (text : List ℕ) (reply due : RosterReply) → (roster_after [] text).answer ≡ due → (reply ≡ due → ⊥)
    → (f : RosterVersion) → AnswersText text reply f → ¬ MeetsRoster f
other_answer_fails text reply due is apart f answers meets =
    apart
    (sym (answers (after []).table (after []).store fresh_sound none_held)
    ∙ answer_by_contract f meets [] text ∙ is)

-- what is taken is not refused, and two refusals are one only at one record, by one number
pub taken_is_not_refused : (count n number : ℕ) → taken count ≡ refused n number → ⊥
taken_is_not_refused count n number same = clash cc

records_differ : (n k number why : ℕ) → (n ≡ k → ⊥) → refused n number ≡ refused k why → ⊥
records_differ n k number why apart same = apart (cc)

pub numbers_differ : (n k number why : ℕ) → (number ≡ why → ⊥) → refused n number ≡ refused k why → ⊥
numbers_differ n k number why apart same = apart (cc)

-- A bare LF does not end a record.
pub bare_end_taken_fails : (f : RosterVersion) → AnswersText bare_text (taken 1) f → ¬ MeetsRoster f
bare_end_taken_fails = other_answer_fails bare_text (taken 1) (refused 1 13) so.bare (taken_is_not_refused 1 1 13)

-- A label that is held is not taken in other letters.
pub respelled_roster_fails : (f : RosterVersion) → AnswersText respelled_text (taken 2) f → ¬ MeetsRoster f
respelled_roster_fails =
    other_answer_fails respelled_text (taken 2) (refused 2 7) so.respelled (taken_is_not_refused 2 2 7)

-- A header is a record as any other.
pub header_passed_fails : (f : RosterVersion) → AnswersText headed_text (taken 1) f → ¬ MeetsRoster f
header_passed_fails = other_answer_fails headed_text (taken 1) (refused 1 13) so.headed (taken_is_not_refused 1 1 13)

-- 3 before 13 fails.
pub label_before_record_fails : (f : RosterVersion) → AnswersText nameless_text (refused 1 3) f → ¬ MeetsRoster f
label_before_record_fails =
    other_answer_fails nameless_text (refused 1 3) (refused 1 13) so.nameless
    (numbers_differ 1 1 3 13 (λ e. omega (arith, e)))

-- The first record is not numbered 0.
pub numbered_from_none_fails : (f : RosterVersion) → AnswersText lone_text (refused 0 13) f → ¬ MeetsRoster f
numbered_from_none_fails =
    other_answer_fails lone_text (refused 0 13) (refused 1 13) so.lone
    (records_differ 0 1 13 13 (λ e. omega (arith, e)))
