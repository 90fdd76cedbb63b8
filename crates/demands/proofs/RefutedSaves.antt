-- Trial versions of a save that do not meet its contract, at the hub's limits.
-- fixed_save_fails, refused_saves_fail: saves that answer at once.
-- needless_group_fails, descending_fails, one_too_many_fails: other files.
-- short_output_fails: 17 one byte late.
-- spoiling_save_fails: a refused save that changes the output. clearing_save_fails: such a version.
use mathlib.Core.List.{List, [], ◌∷◌, ◌++◌}
use mathlib.Core.Path.{◌≡◌, refl, sym, ap, ◌∙◌}
use Prim.Native.Nat.{ℕ, suc, ◌≤◌}
use native.Mathlib.Omega.{arith}
use lib.ListN.{length, get_or, drop}
use Rattle.types.specs.Sizes.{hub}
use Rattle.types.specs.SaveReplies.{SaveReply, saved, refused}
use Rattle.labels.specs.Labels.{number_of, compare_labels, compare_from, difference_place}
use Rattle.labels.proofs.Clashes.{clash}
use Rattle.trees.specs.Map.{Pair}
use Rattle.trees.specs.Plain.{Call}
use Rattle.tables.specs.Words.{row_at, part_at, label_at}
use Rattle.tables.specs.Written.{written_table, written_store, lent}
use Rattle.tables.specs.Steps.{is_bad, search_steps}
use Rattle.tables.specs.Sound.{words_and_bytes, counted, sound_as, sound, state_of}
use Rattle.tables.specs.Outcomes.{Verdict, pass, refuse, of_memory, of_table, layout_outcome, update_outcome}
use Rattle.tables.specs.MapClaims.{map_in}
use Rattle.files.specs.Groups.{groups_within, groups_of}
use Rattle.files.specs.Files.{file_of}
use Rattle.files.specs.Saves.{Saving, saving_by, of_output, save_outcome, file_in}
use Rattle.cases.specs.Cases.{a, b, c}
use Rattle.demands.specs.SaveTrials.{SaveVersion, MeetsSave, SavesAnswer, SavesBy, needless, descending}
use Rattle.demands.specs.SaveTrials.{one_too_many, SavesShort, SpoilsOutput, clearing_output}
use Rattle.demands.proofs.Computed.{after, fair_one, onlyA, two}

-- what a save gives and leaves after calls
abbrev saving : List Call → (output : List ℕ) → Saving
saving calls output = save_outcome hub (after calls).table (after calls).store output

-- outputs of three, four and nine bytes, each 1
abbrev three : List ℕ
three = 1 ∷ 1 ∷ 1 ∷ []

abbrev four : List ℕ
four = 1 ∷ three

abbrev nine : List ℕ
nine = 1 ∷ 1 ∷ 1 ∷ 1 ∷ 1 ∷ four

record Shown : Type 0 where
  -- the file of no label, and that of "a" with the value 5
  no_file_lem : file_in hub (after []) ≡ 0 ∷ []
  one_file_lem : file_in hub (after onlyA) ≡ 1 ∷ 1 ∷ a ∷ 5 ∷ []
  none_saved : saving [] four ≡ record { answer = saved 1; output = 0 ∷ three }
  one_saved : saving onlyA four ≡ record { answer = saved 4; output = 1 ∷ 1 ∷ a ∷ 5 ∷ [] }
  one_short : saving onlyA three ≡ record { answer = refused 17; output = three }
  -- that of "ab" and "ac"
  two_saved :
      saving two nine
      ≡ record { answer = saved 9; output = 2 ∷ 2 ∷ a ∷ b ∷ 1 ∷ 2 ∷ a ∷ c ∷ 2 ∷ [] }
  -- other files
  none_needless : needless (map_in hub (after [])) ≡ 128 ∷ 0 ∷ []
  two_descending : descending (map_in hub (after two)) ≡ 2 ∷ 2 ∷ a ∷ c ∷ 2 ∷ 2 ∷ a ∷ b ∷ 1 ∷ []
  none_and_more : one_too_many (map_in hub (after [])) ≡ 0 ∷ 0 ∷ []

-- All of it holds by computation.
so : Shown
unfolding
    after number_of compare_labels compare_from difference_place row_at part_at label_at written_table written_store is_bad
    search_steps words_and_bytes counted sound_as sound state_of layout_outcome update_outcome groups_within groups_of file_of
    save_outcome
so = record {
  no_file_lem = refl;
  one_file_lem = refl;
  none_saved = refl;
  one_saved = refl;
  one_short = refl;
  two_saved = refl;
  none_needless = refl;
  two_descending = refl;
  none_and_more = refl;
}

-- What a version that meets the contract answers after calls.
answer_by_contract : (f : SaveVersion) → MeetsSave f → (calls : List Call) (output : List ℕ)
    → (f (after calls).table (after calls).store output).answer ≡ (saving calls output).answer
answer_by_contract f meets calls output =
    ap (λ (s : Saving). s.answer) (meets (after calls).table (after calls).store output)

-- What it leaves in the output.
output_by_contract : (f : SaveVersion) → MeetsSave f → (calls : List Call) (output : List ℕ)
    → (f (after calls).table (after calls).store output).output ≡ (saving calls output).output
output_by_contract f meets calls output =
    ap (λ (s : Saving). s.output) (meets (after calls).table (after calls).store output)

-- ---- answers at once

-- One fixed answer fails: one byte is the file of no label, and four bytes that of "a".
pub fixed_save_fails : (reply : SaveReply) (f : SaveVersion) → SavesAnswer reply f → ¬ MeetsSave f
fixed_save_fails reply f fixed meets =
    let none_fits : length (file_in hub (after [])) ≤ length four = rw so.no_file_lem (omega arith) in
    let one_fits : length (file_in hub (after onlyA)) ≤ length four = rw so.one_file_lem (omega arith) in
    clash (cc (
      fixed (after []).table (after []).store four (fair_one [] {byte = a}).holds none_fits,
      answer_by_contract f meets [] four,
      so.none_saved,
      fixed (after onlyA).table (after onlyA).store four (fair_one onlyA {byte = a}).holds one_fits,
      answer_by_contract f meets onlyA four,
      so.one_saved,
    ))

-- Constant refusal fails, by any number.
pub refused_saves_fail : (number : ℕ) (f : SaveVersion) → SavesAnswer (refused number) f → ¬ MeetsSave f
refused_saves_fail number = fixed_save_fails (refused number)

-- ---- other files

-- A version by another file fails where that leaves another output.
other_file_fails : (file : List Pair → List ℕ) (calls : List Call) (output bytes : List ℕ)
    → file (map_in hub (after calls)) ≡ bytes → length bytes ≤ length output
    → (bytes ++ drop (length bytes) output ≡ (saving calls output).output → ⊥)
    → (f : SaveVersion) → SavesBy file f → ¬ MeetsSave f
other_file_fails file calls output bytes is room apart f saves meets =
    let by_file =
    saves (after calls).table (after calls).store output (fair_one calls {byte = a}).holds (rw is room) in
    apart (sym (rw is at by_file) ∙ output_by_contract f meets calls output)

-- A needless group fails: 0 takes one.
pub needless_group_fails : (f : SaveVersion) → SavesBy needless f → ¬ MeetsSave f
needless_group_fails =
    other_file_fails needless [] four (128 ∷ 0 ∷ []) so.none_needless (omega arith)
    (λ same. let first = ap (λ (l : List ℕ). get_or l 0 0) (rw so.none_saved at same) in omega (arith, first))

-- Descending order fails: "ab" comes before "ac".
pub descending_fails : (f : SaveVersion) → SavesBy descending f → ¬ MeetsSave f
descending_fails =
    other_file_fails descending two nine (2 ∷ 2 ∷ a ∷ c ∷ 2 ∷ 2 ∷ a ∷ b ∷ 1 ∷ []) so.two_descending (omega arith)
    (λ same. let fourth = ap (λ (l : List ℕ). get_or l 3 0) (rw so.two_saved at same) in omega (arith, fourth))

-- One byte too many fails: later bytes stay.
pub one_too_many_fails : (f : SaveVersion) → SavesBy one_too_many f → ¬ MeetsSave f
one_too_many_fails =
    other_file_fails one_too_many [] four (0 ∷ 0 ∷ []) so.none_and_more (omega arith)
    (λ same. let second = ap (λ (l : List ℕ). get_or l 1 0) (rw so.none_saved at same) in omega (arith, second))

-- ---- refusals

-- 17 one byte late fails: three bytes are too few for the four of "a".
pub short_output_fails : (f : SaveVersion) → SavesShort f → ¬ MeetsSave f
short_output_fails f late meets =
    let too_few : length (file_in hub (after onlyA)) ≡ suc (length three) = ap length so.one_file_lem in
    clash (cc (
      late (after onlyA).table (after onlyA).store three (fair_one onlyA {byte = a}).holds too_few,
      answer_by_contract f meets onlyA three,
      so.one_short,
    ))

-- A refused save leaves the output.
save_stays : (v : Verdict) (output file : List ℕ) (number : ℕ) → (saving_by v output file).answer ≡ refused number
    → (saving_by v output file).output ≡ output
save_stays pass output file number e = clash cc
save_stays (refuse other) output file number e = refl

-- A save that once refuses and changes the output fails.
pub spoiling_save_fails : (f : SaveVersion) (table store output : List ℕ) → SpoilsOutput (f table store output) output
    → ¬ MeetsSave f
unfolding save_outcome
spoiling_save_fails f table store output spoils meets =
    let is = meets table store output in
    let file = file_in hub (lent table store) in
    let said = of_memory hub table store (of_table hub table store (of_output file output pass)) in
    spoils.changes
    (ap (λ (s : Saving). s.output) is
    ∙ save_stays said output file spoils.number
    (sym (ap (λ (s : Saving). s.answer) is) ∙ spoils.refuses))

-- A version that clears the output where it refuses fails: with no table it refuses by 1.
pub clearing_save_fails : ¬ MeetsSave (λ table store output. clearing_output (save_outcome hub table store output))
unfolding save_outcome
clearing_save_fails =
    spoiling_save_fails (λ table store output. clearing_output (save_outcome hub table store output)) [] [] (1 ∷ [])
    (record {
      number = 1;
      refuses = refl;
      changes = λ same. let byte = ap (λ (l : List ℕ). get_or l 0 0) same in omega (arith, byte);
    })
