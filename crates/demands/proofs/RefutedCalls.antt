-- Trial versions of layout and listing that do not meet their contracts, and calls that refuse but change lent memory,
-- at the hub's limits.
-- refused_layouts_fail: layouts that refuse at once.
-- fixed_listing_fails, refused_listings_fail: listings that answer at once.
-- spoiling_layout_fails, spoiling_update_fails, spoiling_listing_fails: a refused call that changes what was lent.
-- clearing_layout_fails, clearing_insert_fails, clearing_delete_fails, clearing_listing_fails: such versions, one for
-- each call that writes.
use mathlib.Core.List.{List, [], ◌∷◌}
use mathlib.Core.Path.{◌≡◌, refl, sym, ap, ◌∙◌}
use Prim.Native.Nat.{ℕ}
use native.Mathlib.Omega.{arith}
use lib.ListN.{length, replicate, length-replicate}
use Rattle.types.specs.Sizes.{hub, table_length, store_length}
use Rattle.types.specs.Answers.{Answer, done, refused}
use Rattle.labels.specs.Labels.{Label}
use Rattle.labels.proofs.Clashes.{clash}
use Rattle.trees.specs.Trees.{slots}
use Rattle.trees.specs.Plain as plain
use Rattle.trees.specs.Plain.{State, Call, Reply, insert, delete, sought_by, plain_step}
use Rattle.tables.specs.Written.{Memory, lent}
use Rattle.tables.specs.Steps.{Walk, search_steps}
use Rattle.tables.specs.Sound.{state_of}
use Rattle.tables.specs.Outcomes.{Verdict, pass, refuse, Outcome, outcome_by, Listing, listing_by}
use Rattle.tables.specs.Outcomes.{of_memory, of_label, of_charge, of_table, of_list, reply_answer, memory_after, settled}
use Rattle.tables.specs.Outcomes.{layout_outcome, update_outcome, listing_outcome}
use Rattle.cases.specs.Cases.{a}
use Rattle.demands.specs.Trials.{UpdateVersion, MeetsUpdate}
use Rattle.demands.specs.CallTrials.{LayoutVersion, MeetsLayout, ListingVersion, MeetsListing, LayoutsRefused}
use Rattle.demands.specs.CallTrials.{ListingsAnswer, Spoils, SpoilsList, clearing, clearing_list}
use Rattle.demands.proofs.Computed.{after, fair_one, onlyA, shown}

-- ---- answers at once

-- Constant refusal of layouts fails, by any number.
pub refused_layouts_fail : (number : ℕ) (f : LayoutVersion) → LayoutsRefused number f → ¬ MeetsLayout f
refused_layouts_fail number f refuses meets =
    let table : List ℕ = replicate (table_length hub) 1 in
    let store : List ℕ = replicate (store_length hub) 1 in
    let refusal = refuses table store (length-replicate {A = ℕ} (table_length hub) 1)
    (length-replicate {A = ℕ} (store_length hub) 1) in
    clash (cc (refusal, ap (λ (o : Outcome). o.answer) (meets table store), shown.laid_out_done))

-- One fixed answer of listings fails.
pub fixed_listing_fails : (answer : Answer) (f : ListingVersion) → ListingsAnswer answer f → ¬ MeetsListing f
fixed_listing_fails answer f fixed meets =
    let none = shown.held_fresh in
    let one = shown.held_one in
    let list : List ℕ = 0 ∷ [] in
    clash (cc (
      fixed (after []).table (after []).store list (fair_one [] {byte = a}).holds (omega arith),
      ap (λ (l : Listing). l.answer) (meets (after []).table (after []).store list),
      shown.none_listed,
      fixed (after onlyA).table (after onlyA).store list (fair_one onlyA {byte = a}).holds (omega arith),
      ap (λ (l : Listing). l.answer) (meets (after onlyA).table (after onlyA).store list),
      shown.one_listed,
    ))

-- Constant refusal of listings fails, by any number.
pub refused_listings_fail : (number : ℕ) (f : ListingVersion) → ListingsAnswer (refused number) f → ¬ MeetsListing f
refused_listings_fail number = fixed_listing_fails (refused number)

-- ---- refusals leave what was lent

-- Where an outcome by a verdict is a refusal, the memory stays, if so it is past the verdict.
outcome_stays : (v : Verdict) (m : Memory) (o : Outcome) (number : ℕ) → (o.answer ≡ refused number → o.memory ≡ m)
    → (outcome_by v m o).answer ≡ refused number → (outcome_by v m o).memory ≡ m
outcome_stays pass m o number past e = past e
outcome_stays (refuse other) m o number past e = refl

-- So it is past an update's first tests.
reply_stays : (m : Memory) (w : Walk) (r : Reply) (s : State) (number : ℕ) → reply_answer r w ≡ refused number
    → memory_after hub m r s ≡ m
reply_stays m w (plain.found_at slot value) s number e = refl
reply_stays m w (plain.not_held below above) s number e = refl
reply_stays m w (plain.updated slot) s number e = clash cc
reply_stays m w (plain.refused other) s number e = refl

-- A refused listing leaves the list.
listing_stays : (v : Verdict) (list slots : List ℕ) (number : ℕ) → (listing_by v list slots).answer ≡ refused number
    → (listing_by v list slots).list ≡ list
listing_stays pass list slots number e = clash cc
listing_stays (refuse other) list slots number e = refl

layout_stays : (table store : List ℕ) (number : ℕ) → (layout_outcome hub table store).answer ≡ refused number
    → (layout_outcome hub table store).memory ≡ lent table store
unfolding layout_outcome
layout_stays table store number =
    outcome_stays (of_memory hub table store pass) (lent table store) laid number not_refused
  where
    laid : Outcome
    laid = record {
      answer = done;
      memory = record { table = replicate (length table) 0; store = replicate (length store) 0 };
    }

    not_refused : laid.answer ≡ refused number → laid.memory ≡ lent table store
    not_refused e = clash cc

update_stays : (c : Call) (table store : List ℕ) (number : ℕ) → (update_outcome hub c table store).answer ≡ refused number
    → (update_outcome hub c table store).memory ≡ lent table store
unfolding update_outcome
update_stays c table store number =
    let steps = search_steps hub table store (sought_by c) in
    let step = plain_step hub.slots hub.width c (state_of hub table store) in
    outcome_stays (of_memory hub table store (of_label hub (sought_by c) (of_charge c (of_table hub table store pass))))
    (lent table store) (settled hub (lent table store) steps step) number
    (reply_stays (lent table store) steps step.reply step.state number)

-- A layout that once refuses and changes table or store fails.
pub spoiling_layout_fails : (f : LayoutVersion) (table store : List ℕ) → Spoils (f table store) (lent table store)
    → ¬ MeetsLayout f
spoiling_layout_fails f table store spoils meets =
    let is = meets table store in
    spoils.changes
    (ap (λ (o : Outcome). o.memory) is
    ∙ layout_stays table store spoils.number (sym (ap (λ (o : Outcome). o.answer) is) ∙ spoils.refuses))

-- An insert or a delete that once refuses and changes table or store fails.
pub spoiling_update_fails : (f : UpdateVersion) (c : Call) (table store : List ℕ)
    → Spoils (f c table store) (lent table store) → ¬ MeetsUpdate f
spoiling_update_fails f c table store spoils meets =
    let is = meets c table store in
    spoils.changes
    (ap (λ (o : Outcome). o.memory) is
    ∙ update_stays c table store spoils.number (sym (ap (λ (o : Outcome). o.answer) is) ∙ spoils.refuses))

-- A listing that once refuses and changes the list fails.
pub spoiling_listing_fails : (f : ListingVersion) (table store list : List ℕ)
    → SpoilsList (f table store list) list → ¬ MeetsListing f
unfolding listing_outcome
spoiling_listing_fails f table store list spoils meets =
    let is = meets table store list in
    let said = of_memory hub table store (of_table hub table store (of_list table list pass)) in
    spoils.changes
    (ap (λ (l : Listing). l.list) is
    ∙ listing_stays said list (slots (state_of hub table store).tree) spoils.number
    (sym (ap (λ (l : Listing). l.answer) is) ∙ spoils.refuses))

-- ---- versions that clear what was lent, where they refuse

-- a table of one word, no store and a list of one word, each word 1: every call refuses by 1
abbrev one : List ℕ
one = 1 ∷ []

-- 0 is not 1
unlike_one : {A : Type 0} → ◌≡◌ {A = List ℕ} (0 ∷ []) one → A
unlike_one e = clash cc

pub clearing_layout_fails : ¬ MeetsLayout (λ table store. clearing (layout_outcome hub table store))
unfolding layout_outcome
clearing_layout_fails =
    spoiling_layout_fails (λ table store. clearing (layout_outcome hub table store)) one []
    (record { number = 1; refuses = refl; changes = λ e. unlike_one (ap (λ (m : Memory). m.table) e) })

-- so do inserts, and deletes: whatever the others do
clearing_update_fails : (c : Call) (f : UpdateVersion)
    → ((table store : List ℕ) → f c table store ≡ clearing (update_outcome hub c table store)) → ¬ MeetsUpdate f
unfolding update_outcome
clearing_update_fails c f clears =
    spoiling_update_fails f c one []
    (record {
      number = 1;
      refuses = ap (λ (o : Outcome). o.answer) (clears one []);
      changes =
          λ e. unlike_one
          (sym (ap (λ (o : Outcome). o.memory.table) (clears one [])) ∙ ap (λ (m : Memory). m.table) e);
    })

pub clearing_insert_fails : (x : Label) (value : ℕ) (f : UpdateVersion)
    → ((table store : List ℕ)
    → f (insert x value) table store ≡ clearing (update_outcome hub (insert x value) table store))
    → ¬ MeetsUpdate f
clearing_insert_fails x value = clearing_update_fails (insert x value)

pub clearing_delete_fails : (x : Label) (f : UpdateVersion)
    → ((table store : List ℕ) → f (delete x) table store ≡ clearing (update_outcome hub (delete x) table store))
    → ¬ MeetsUpdate f
clearing_delete_fails x = clearing_update_fails (delete x)

pub clearing_listing_fails : ¬ MeetsListing (λ table store list. clearing_list (listing_outcome hub table store list))
unfolding listing_outcome
clearing_listing_fails =
    spoiling_listing_fails (λ table store list. clearing_list (listing_outcome hub table store list)) [] [] one
    (record { number = 1; refuses = refl; changes = λ e. unlike_one e })
