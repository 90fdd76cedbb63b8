-- What an exported call gives, from what the index gives.
-- `packed_as`: an answer equal to a defined one is packed as that.
-- `packs_as`, `packs_list_as`, `packs_save_as`, `packs_load_as`, `packs_roster_as`: the same for a call that may change
-- the memory, for a listing, for a save, for a load and for a roster.
-- `start_fits`, `shown_packed`, `hidden_packed`: the view's part, by what the first call said.
use mathlib.Core.List.{List}
use mathlib.Core.Path.{◌≡◌, refl, sym, ap, ap₂, ◌∙◌}
use Prim.Native.Nat.{ℕ}
use lib.ListN.{length}
use denote.Ref.{Bor}
use Rattle.std.specs.Prelude.{Result, Ok, Err}
use Rattle.types.specs.declared.Limits.{Limits}
use Rattle.types.specs.declared.Refusal.{Refusal}
use Rattle.types.specs.Answers.{Answer, done, refused, refusal_number, done_says}
use Rattle.types.specs.SaveReplies.{SaveReply}
use Rattle.types.specs.LoadReplies.{LoadReply}
use Rattle.types.specs.RosterReplies.{RosterReply}
use Rattle.tables.specs.Words.{part_start}
use Rattle.tables.specs.Outcomes.{Outcome, Listing, Verdict, pass, refuse, answer_by, view_verdict, view_outcome, view_part}
use Rattle.tables.specs.Given.{Gives}
use Rattle.views.specs.Parts.{start_by, view_start, Views}
use Rattle.words.specs.Parts.{StartFits}
use Rattle.views.proofs.ViewLaws.{view_start_lem}
use Rattle.lists.specs.Given.{Lists}
use Rattle.words.specs.Limits.{LimitsFit}
use Rattle.files.specs.Saves.{Saving, Saves}
use Rattle.files.specs.Loads.{Loading, Loads}
use Rattle.rfc4180.specs.Rosters.{RosterOutcome, TakesRoster}
use Rattle.packs.specs.Packed.{packed, packed_save, packed_load, packed_roster, packed_part}
use Rattle.exported.specs.Given.{viewed_by, packed_view, Packs, PacksList, PacksSave, PacksLoad, PacksRoster}
use Rattle.labels.proofs.Clashes.{clash}

module _ (given : ℕ) where
  -- An answer equal to a defined one is packed as the defined one.
  pub packed_as : (said outcome : Answer) → given ≡ packed said → said ≡ outcome → given ≡ packed outcome
  packed_as said outcome packs says = packs ∙ ap packed says

  -- The same where the call may change the table and the store.
  pub packs_as : (outcome : Outcome) (said : Answer) (words bytes : List ℕ) → given ≡ packed said
      → Gives outcome said words bytes → Packs outcome given words bytes
  packs_as outcome said words bytes packs gives =
      let answers = packed_as said outcome.answer packs gives.answer in
      record { answer = answers; table = gives.table; store = gives.store }

  -- The same for a listing.
  pub packs_list_as : (listing : Listing) (said : Answer) (words : List ℕ) → given ≡ packed said
      → Lists listing said words → PacksList listing given words
  packs_list_as listing said words packs lists =
      record { answer = packed_as said listing.answer packs lists.answer; list = lists.list }

  -- The same for a save.
  pub packs_save_as : (saving : Saving) (said : SaveReply) (bytes : List ℕ) → given ≡ packed_save said
      → Saves saving said bytes → PacksSave saving given bytes
  packs_save_as saving said bytes packs saves =
      record { answer = packs ∙ ap packed_save saves.answer; output = saves.output }

  -- The same for a load.
  pub packs_load_as : (loading : Loading) (said : LoadReply) (words bytes : List ℕ) → given ≡ packed_load said
      → Loads loading said words bytes → PacksLoad loading given words bytes
  packs_load_as loading said words bytes packs loads =
      record { answer = packs ∙ ap packed_load loads.answer; table = loads.table; store = loads.store }

  -- The same for a roster.
  pub packs_roster_as : (outcome : RosterOutcome) (said : RosterReply) (words bytes : List ℕ)
      → given ≡ packed_roster said → TakesRoster outcome said words bytes → PacksRoster outcome given words bytes
  packs_roster_as outcome said words bytes packs takes =
      record { answer = packs ∙ ap packed_roster takes.answer; table = takes.table; store = takes.store }

-- A verdict that passes shows the part, at its start; one that refuses gives its number.
part_shown : (v : Verdict) (start len : ℕ) → done ≡ answer_by v done
    → viewed_by v (start_by v start) len ≡ packed_part start len
part_shown pass start len says = refl
part_shown (refuse number) start len says = clash cc

part_hidden : (v : Verdict) (number start len : ℕ) → refused number ≡ answer_by v done
    → viewed_by v start len ≡ packed (refused number)
part_hidden pass number start len says = clash cc
part_hidden (refuse other) number start len says = let same : number ≡ other = cc in rw same

module _ (limits : Limits) (table : List ℕ) (store : Bor (List ℕ)) (k : ℕ) (said : Result Unit Refusal)
    (says : done_says said ≡ view_outcome limits table store.now k) where
  -- Where the first call is done, the part's start is a machine word.
  pub start_fits : said ≡ Ok tt → LimitsFit limits → (given : Limits) → given ≡ limits → StartFits given k
  start_fits is_done fit given same = rw same (view_start_lem limits table store.now k fit said says is_done)

  -- The view is packed with the part's start and length.
  pub shown_packed : said ≡ Ok tt → (own : Limits) → own ≡ limits → (part : Bor (List ℕ)) (start given : ℕ)
      → Views limits table store k part → start ≡ part_start own k
      → given ≡ packed_part start (length part.now) → given ≡ packed_view limits table store.now k
  unfolding packed_view view_start view_outcome
  shown_packed is_done own same part start given views starts packs =
      let at : start ≡ part_start limits k = starts ∙ ap (λ l. part_start l k) same in
      packs ∙ ap₂ packed_part at (ap length views.bytes)
      ∙ sym (part_shown (view_verdict limits table store.now k) (part_start limits k)
      (length (view_part limits table store.now k)) (cc))

  -- Where it refuses, the view is packed with the refusal's number.
  pub hidden_packed : (refusal : Refusal) (given : ℕ) → said ≡ Err refusal
      → given ≡ packed (refused (refusal_number refusal)) → given ≡ packed_view limits table store.now k
  unfolding packed_view view_outcome
  hidden_packed refusal given is_refused packs =
      packs ∙ sym (part_hidden (view_verdict limits table store.now k) (refusal_number refusal)
      (view_start limits table store.now k) (length (view_part limits table store.now k)) (cc))
