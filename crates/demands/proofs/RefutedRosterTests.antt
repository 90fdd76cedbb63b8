-- Trial versions of taking a roster that do not meet its contract at the tests before a record's own, at the hub's
-- limits.
-- table_before_record_fails, table_before_none_fails: 6 before 13, and before the end of an empty text.
-- longer_taken_fails, longest_refused_fails: 12 for other lengths.
use mathlib.Core.Bool.{Bool, true, false}
use mathlib.Core.List.{List, []}
use mathlib.Core.Path.{◌≡◌, refl, sym, ap, ◌∙◌}
use Prim.Native.Nat.{ℕ, suc}
use native.Mathlib.Omega.{arith}
use lib.Dec.{ltb}
use lib.ListN.{set, replicate, length-set, length-replicate}
use borrow.Author.Tests.{lt-ltb, le-ltb}
use Rattle.types.specs.Sizes.{hub}
use Rattle.types.specs.RosterReplies.{RosterReply, taken, refused}
use Rattle.labels.proofs.Clashes.{clash}
use Rattle.tables.specs.Words.{row_at, part_at}
use Rattle.tables.specs.Written.{lent}
use Rattle.tables.specs.Steps.{is_bad}
use Rattle.tables.specs.Sound.{words_and_bytes, counted, sound_as, sound}
use Rattle.tables.specs.Outcomes.{pass, line, of_memory, layout_outcome}
use Rattle.rfc4180.specs.Records.{bare_field, take_field, take_fields_with, take_fields, take_record, records_with, records_of}
use Rattle.rfc4180.specs.Rosters.{longest_text, RosterOutcome, roster_from, of_text, roster_outcome}
use Rattle.demands.specs.Loads.{Lent}
use Rattle.demands.specs.RosterTrials.{RosterVersion, MeetsRoster, AnswersUnsound, lone_text, TakesLonger}
use Rattle.demands.specs.RosterTrials.{RefusesLongest}
use Rattle.demands.proofs.Outcomes.{memory_passes}
use Rattle.demands.proofs.Hub.{hub_takes_rosters}
use Rattle.demands.proofs.Computed.{after}
use Rattle.demands.proofs.RefutedRosters.{fresh_sound, answer_by_contract, taken_is_not_refused, numbers_differ}

-- ---- a table that is not sound

-- a fresh table whose root link is made 1, which is not sound
abbrev unsound_table : List ℕ
unsound_table = set (after []).table 0 1

-- what taking a roster into it gives
abbrev unsound_gives : (text : List ℕ) → RosterReply
unsound_gives text = (roster_outcome hub unsound_table (after []).store text).answer

record Shown : Type 0 where
  unsound : sound hub unsound_table (after []).store ≡ false
  lone_there : unsound_gives lone_text ≡ refused 1 13
  none_there : unsound_gives [] ≡ taken 0

-- All of it holds by computation.
so : Shown
unfolding
    after row_at part_at is_bad words_and_bytes counted sound_as sound layout_outcome bare_field take_field take_fields_with
    take_fields take_record records_with records_of roster_from roster_outcome
so = record { unsound = refl; lone_there = refl; none_there = refl }

-- A version that answers a text there otherwise fails.
other_unsound_fails : (text : List ℕ) (reply due : RosterReply) → unsound_gives text ≡ due → (reply ≡ due → ⊥)
    → (f : RosterVersion) → AnswersUnsound text reply f → ¬ MeetsRoster f
other_unsound_fails text reply due is apart f answers meets =
    let sizes : Lent hub (lent unsound_table (after []).store) =
    record { words = rw length-set fresh_sound.words; bytes = fresh_sound.bytes } in
    apart
    (sym (answers unsound_table (after []).store sizes so.unsound)
    ∙ ap (λ (o : RosterOutcome). o.answer) (meets unsound_table (after []).store text) ∙ is)

-- 6 before 13 fails.
pub table_before_record_fails : (f : RosterVersion) → AnswersUnsound lone_text (refused 1 6) f → ¬ MeetsRoster f
table_before_record_fails =
    other_unsound_fails lone_text (refused 1 6) (refused 1 13) so.lone_there
    (numbers_differ 1 1 6 13 (λ e. omega (arith, e)))

-- An empty text is not refused by 6, whatever record is named.
pub table_before_none_fails : (n : ℕ) (f : RosterVersion) → AnswersUnsound [] (refused n 6) f → ¬ MeetsRoster f
table_before_none_fails n =
    other_unsound_fails [] (refused n 6) (taken 0) so.none_there (λ same. taken_is_not_refused 0 n 6 (sym same))

-- ---- 12

-- What the tests before give of a text of this many bytes, all spaces.
tests_of_spaces : (count : ℕ) (long : Bool) → ltb longest_text count ≡ long
    → of_memory hub (after []).table (after []).store (of_text (replicate count 32) pass) ≡ line long 12 pass
tests_of_spaces count long is =
    rw (
      memory_passes hub (after []).table (after []).store fresh_sound.words fresh_sound.bytes,
      length-replicate {A = ℕ} count 32,
      is,
    )

-- A text of a byte more than the longest is refused by 12.
pub longer_taken_fails : (f : RosterVersion) → TakesLonger f → ¬ MeetsRoster f
longer_taken_fails f takes meets =
    let text : List ℕ = replicate (suc longest_text) 32 in
    let long = tests_of_spaces (suc longest_text) true (lt-ltb longest_text (suc longest_text) (omega arith)) in
    takes (after []).table (after []).store text fresh_sound (length-replicate {A = ℕ} (suc longest_text) 32)
    (answer_by_contract f meets [] text
    ∙ ap (λ (o : RosterOutcome). o.answer) (hub_takes_rosters.early (after []) text 12 long))

-- One of as many bytes is not.
pub longest_refused_fails : (f : RosterVersion) → RefusesLongest f → ¬ MeetsRoster f
longest_refused_fails f refuses meets =
    let text : List ℕ = replicate longest_text 32 in
    let passes = tests_of_spaces longest_text false (le-ltb longest_text longest_text (omega arith)) in
    let stops = hub_takes_rosters.early_only (after []) text 12
    (sym (answer_by_contract f meets [] text)
    ∙ refuses (after []).table (after []).store text fresh_sound (length-replicate {A = ℕ} longest_text 32)) in
    clash (cc (passes, stops))
