-- Trial versions of a load that do not meet its contract, at the hub's limits.
-- fixed_load_fails, refused_loads_fail: loads that answer at once.
-- needless_taken_fails, equal_taken_fails, respelled_taken_fails, longer_taken_fails: files that are not to be taken.
-- order_before_value_fails, later_label_first_fails: 19 and 18 in another order.
-- idle_load_fails, on_top_fails: another memory is left.
-- spoiling_load_fails: a refused load that changes the memory. cleared_first_fails: such a version.
use mathlib.Core.List.{List, [], ◌∷◌}
use mathlib.Core.Path.{◌≡◌, refl, sym, ap, ◌∙◌}
use Prim.Native.Nat.{ℕ}
use native.Mathlib.Omega.{arith}
use Rattle.types.specs.Sizes.{hub}
use Rattle.types.specs.LoadReplies.{LoadReply, loaded, refused}
use Rattle.labels.specs.Labels.{number_of, compare_labels, compare_from, difference_place}
use Rattle.labels.proofs.Clashes.{clash}
use Rattle.trees.specs.Plain.{Call}
use Rattle.tables.specs.Words.{labels_held, row_at, part_at, label_at}
use Rattle.tables.specs.Written.{Memory, written_table, written_store, lent}
use Rattle.tables.specs.Steps.{is_bad, search_steps}
use Rattle.tables.specs.Sound.{words_and_bytes, counted, sound_as, sound, state_of}
use Rattle.tables.specs.Outcomes.{pass, of_memory, layout_outcome, update_outcome}
use Rattle.files.specs.Groups.{groups_within, groups_of, read_number}
use Rattle.files.specs.FileReads.{FileRead, refused_by, holds, filed, take_number, take_entry, take_entries, read_file}
use Rattle.files.specs.Loads.{Loading, loading_by, file_by, load_outcome}
use Rattle.cases.specs.Cases.{a}
use Rattle.demands.specs.LoadTrials.{LoadVersion, MeetsLoad, LoadsAnswer, AnswersFile, needless_file, equal_file}
use Rattle.demands.specs.LoadTrials.{respelled_file, longer_file, cut_file, later_file, IdleLoad, LoadsOnTop}
use Rattle.demands.specs.LoadTrials.{SpoilsMemory, cleared_first}
use Rattle.demands.proofs.Computed.{after, fair_one, onlyA}

-- what a load gives and leaves after calls
abbrev loading : List Call → (file : List ℕ) → Loading
loading calls file = load_outcome hub (after calls).table (after calls).store file

-- the files of no label and of "a" with the value 5
abbrev no_file : List ℕ
no_file = 0 ∷ []

abbrev one_file : List ℕ
one_file = 1 ∷ 1 ∷ a ∷ 5 ∷ []

record Shown : Type 0 where
  no_pairs : read_file hub no_file ≡ holds []
  one_pair : read_file hub one_file ≡ holds (filed (a ∷ []) 5 ∷ [])
  none_loaded : (loading onlyA no_file).answer ≡ loaded 0
  one_loaded : (loading onlyA one_file).answer ≡ loaded 1
  -- what was held, and what is
  held : labels_held (after onlyA).table ≡ 1
  none_held : labels_held (loading onlyA no_file).memory.table ≡ 0
  -- files that are refused
  is_needless : (loading onlyA needless_file).answer ≡ refused 18
  are_equal : (loading onlyA equal_file).answer ≡ refused 19
  are_respelled : (loading onlyA respelled_file).answer ≡ refused 19
  is_longer : (loading onlyA longer_file).answer ≡ refused 20
  is_cut : (loading onlyA cut_file).answer ≡ refused 18
  is_later : (loading onlyA later_file).answer ≡ refused 19
  held_cleared : labels_held (cleared_first (loading onlyA needless_file)).memory.table ≡ 0

-- All of it holds by computation.
so : Shown
unfolding
    after number_of compare_labels compare_from difference_place row_at part_at label_at written_table written_store is_bad
    search_steps words_and_bytes counted sound_as sound state_of layout_outcome update_outcome groups_within groups_of
    read_number take_number take_entry take_entries read_file load_outcome
so = record {
  no_pairs = refl;
  one_pair = refl;
  none_loaded = refl;
  one_loaded = refl;
  held = refl;
  none_held = refl;
  is_needless = refl;
  are_equal = refl;
  are_respelled = refl;
  is_longer = refl;
  is_cut = refl;
  is_later = refl;
  held_cleared = refl;
}

-- What a version that meets the contract answers after calls, and leaves.
answer_by_contract : (f : LoadVersion) → MeetsLoad f → (calls : List Call) (file : List ℕ)
    → (f (after calls).table (after calls).store file).answer ≡ (loading calls file).answer
answer_by_contract f meets calls file =
    ap (λ (l : Loading). l.answer) (meets (after calls).table (after calls).store file)

memory_by_contract : (f : LoadVersion) → MeetsLoad f → (calls : List Call) (file : List ℕ)
    → (f (after calls).table (after calls).store file).memory ≡ (loading calls file).memory
memory_by_contract f meets calls file =
    ap (λ (l : Loading). l.memory) (meets (after calls).table (after calls).store file)

-- ---- answers at once

-- One fixed answer fails: no label is loaded from one file, and one from another.
pub fixed_load_fails : (reply : LoadReply) (f : LoadVersion) → LoadsAnswer reply f → ¬ MeetsLoad f
fixed_load_fails reply f fixed meets =
    let sound = (fair_one onlyA {byte = a}).holds in
    clash (cc (
      fixed (after onlyA).table (after onlyA).store no_file [] sound so.no_pairs,
      answer_by_contract f meets onlyA no_file,
      so.none_loaded,
      fixed (after onlyA).table (after onlyA).store one_file (filed (a ∷ []) 5 ∷ []) sound so.one_pair,
      answer_by_contract f meets onlyA one_file,
      so.one_loaded,
    ))

-- Constant refusal fails, by any number.
pub refused_loads_fail : (number : ℕ) (f : LoadVersion) → LoadsAnswer (refused number) f → ¬ MeetsLoad f
refused_loads_fail number = fixed_load_fails (refused number)

-- ---- files that are refused

-- A version that answers a file otherwise fails.
other_answer_fails : (file : List ℕ) (reply due : LoadReply) → (loading onlyA file).answer ≡ due → (reply ≡ due → ⊥)
    → (f : LoadVersion) → AnswersFile file reply f → ¬ MeetsLoad f
other_answer_fails file reply due is apart f answers meets =
    apart
    (sym (answers (after onlyA).table (after onlyA).store (fair_one onlyA {byte = a}).holds)
    ∙ answer_by_contract f meets onlyA file ∙ is)

-- what is loaded is not refused, and two refusals are one only by one number
taken_is_not_refused : (count number : ℕ) → loaded count ≡ refused number → ⊥
taken_is_not_refused count number same = clash cc

refusals_differ : (one other : ℕ) → (one ≡ other → ⊥) → refused one ≡ refused other → ⊥
refusals_differ one other apart same = apart (cc)

pub needless_taken_fails : (f : LoadVersion) → AnswersFile needless_file (loaded 0) f → ¬ MeetsLoad f
needless_taken_fails =
    other_answer_fails needless_file (loaded 0) (refused 18) so.is_needless (taken_is_not_refused 0 18)

pub equal_taken_fails : (f : LoadVersion) → AnswersFile equal_file (loaded 2) f → ¬ MeetsLoad f
equal_taken_fails = other_answer_fails equal_file (loaded 2) (refused 19) so.are_equal (taken_is_not_refused 2 19)

pub respelled_taken_fails : (f : LoadVersion) → AnswersFile respelled_file (loaded 2) f → ¬ MeetsLoad f
respelled_taken_fails =
    other_answer_fails respelled_file (loaded 2) (refused 19) so.are_respelled (taken_is_not_refused 2 19)

pub longer_taken_fails : (f : LoadVersion) → AnswersFile longer_file (loaded 0) f → ¬ MeetsLoad f
longer_taken_fails = other_answer_fails longer_file (loaded 0) (refused 20) so.is_longer (taken_is_not_refused 0 20)

-- 19 before its own value's 18 fails.
pub order_before_value_fails : (f : LoadVersion) → AnswersFile cut_file (refused 19) f → ¬ MeetsLoad f
order_before_value_fails =
    other_answer_fails cut_file (refused 19) (refused 18) so.is_cut (refusals_differ 19 18 (λ e. omega (arith, e)))

-- 18 of a later label before 19 fails.
pub later_label_first_fails : (f : LoadVersion) → AnswersFile later_file (refused 18) f → ¬ MeetsLoad f
later_label_first_fails =
    other_answer_fails later_file (refused 18) (refused 19) so.is_later
    (refusals_differ 18 19 (λ e. omega (arith, e)))

-- ---- what is left

-- the labels held in what a version leaves of the table of "a", from the file of no label
left_held : (f : LoadVersion) → MeetsLoad f
    → labels_held (f (after onlyA).table (after onlyA).store no_file).memory.table ≡ 0
left_held f meets =
    ap (λ (m : Memory). labels_held m.table) (memory_by_contract f meets onlyA no_file) ∙ so.none_held

-- An idle load fails: from the file of no label none is held.
pub idle_load_fails : (f : LoadVersion) → IdleLoad f → ¬ MeetsLoad f
idle_load_fails f idle meets =
    let stays = ap (λ (m : Memory). labels_held m.table) (idle (after onlyA).table (after onlyA).store no_file) in
    omega (arith, left_held f meets, stays, so.held)

-- A load into what the table holds fails: "a" would stay.
pub on_top_fails : (f : LoadVersion) → LoadsOnTop f → ¬ MeetsLoad f
on_top_fails f on_top meets =
    let stays = ap (λ (m : Memory). labels_held m.table)
    (on_top (after onlyA).table (after onlyA).store no_file [] (fair_one onlyA {byte = a}).holds so.no_pairs) in
    omega (arith, left_held f meets, stays, so.held)

-- A refused load leaves the memory.
load_stays : (m : Memory) (read : FileRead) (number : ℕ) → (loading_by hub m read).answer ≡ refused number
    → (loading_by hub m read).memory ≡ m
load_stays m (refused_by why) number e = refl
load_stays m (holds pairs) number e = clash cc

-- A load that once refuses and changes the memory fails.
pub spoiling_load_fails : (f : LoadVersion) (table store file : List ℕ)
    → SpoilsMemory (f table store file) (lent table store) → ¬ MeetsLoad f
unfolding load_outcome
spoiling_load_fails f table store file spoils meets =
    let is = meets table store file in
    spoils.changes
    (ap (λ (l : Loading). l.memory) is
    ∙ load_stays (lent table store) (file_by (of_memory hub table store pass) (read_file hub file)) spoils.number
    (sym (ap (λ (l : Loading). l.answer) is) ∙ spoils.refuses))

-- A version that has cleared the memory where it refuses fails: of the table of "a" nothing would be left.
pub cleared_first_fails : ¬ MeetsLoad (λ table store file. cleared_first (load_outcome hub table store file))
cleared_first_fails =
    spoiling_load_fails (λ table store file. cleared_first (load_outcome hub table store file))
    (after onlyA).table (after onlyA).store needless_file
    (record {
      number = 18;
      refuses = so.is_needless;
      changes = λ same.
          let emptied = ap (λ (m : Memory). labels_held m.table) same in
          omega (arith, emptied, so.held_cleared, so.held);
    })
