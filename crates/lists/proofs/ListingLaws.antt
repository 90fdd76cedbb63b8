-- The outcome of the listing, by the tests that come first.
-- `listing_refused`, `listing_passed`: the listing's answer and list.
-- `list_ready`: what the listing takes for granted past those tests.
-- `listing_short`, `listing_done`: what it then gives and leaves.
use mathlib.Core.List.{List, ◌++◌}
use mathlib.Core.Bool.{true}
use mathlib.Core.Path.{◌≡◌, refl, ◌∙◌}
use Prim.Native.Nat.{ℕ, ◌≤◌, ◌<◌}
use native.Mathlib.Nat.{zero-add}
use native.Mathlib.Omega.{arith}
use lib.ListN.{length, drop}
use borrow.Author.Tests.{lt-ltb, le-ltb}
use Rattle.std.specs.Prelude.{Result, Ok, Err}
use Rattle.types.specs.declared.Limits.{Limits}
use Rattle.types.specs.declared.Refusal.{Refusal}
use Rattle.types.specs.Answers.{Answer, listed, refused, refusal_number}
use Rattle.tables.specs.Words.{labels_held}
use Rattle.tables.specs.Sound.{sound}
use Rattle.tables.specs.Outcomes.{pass, of_list, listing_outcome}
use Rattle.lengths.specs.Tests.{test_says}
use Rattle.words.specs.Limits.{LimitsFit, SizesFit}
use Rattle.words.specs.Filled.{Filled}
use Rattle.words.proofs.Fills.{sets_from_start}
use Rattle.lengths.proofs.FirstLines.{lines_refused, lines_passed}
use Rattle.verdicts.specs.Verdicts.{of_whole}
use Rattle.verdicts.proofs.WholeTests.{whole_decides, whole_passed}
use Rattle.lists.specs.Given.{Lists}
use Rattle.lists.specs.Listed.{slots_listed, listing_ready, ListReady}
use Rattle.lists.proofs.SoundLists.{slots_of_sound}

-- what the tests of a whole table decide of the listing
module _ (limits : Limits) (table store : List ℕ) (tested : Result Unit Refusal)
    (says : test_says tested ≡ of_whole limits table store pass) where
  module _ (list : List ℕ) where
    pub listing_refused : (r : Refusal) → tested ≡ Err r
        → Lists (listing_outcome limits table store list) (refused (refusal_number r)) list
    unfolding listing_outcome
    listing_refused r e =
        let decides = whole_decides limits table store in
        rw (lines_refused (of_whole limits table store) decides tested says r e (of_list table list pass))
        (record { answer = refl; list = refl })

  module _ (fit : LimitsFit limits) (e : tested ≡ Ok tt) where
    -- the table and the store have their sizes, and are sound
    passed : SizesFit limits table store × (sound limits table store ≡ true)
    passed = whole_passed limits table store tested says fit e

    pub list_ready : ListReady limits table
    list_ready =
        record { fit = fit; words = passed.0.words; count = (slots_of_sound limits table store passed.1).count }

    pub listing_passed : (list after : List ℕ) (a : Answer) → Lists (listing_ready limits table list) a after
        → Lists (listing_outcome limits table store list) a after
    unfolding listing_outcome
    listing_passed list after a lists =
        let decides = whole_decides limits table store in
        rw (
          lines_passed (of_whole limits table store) decides tested says e (of_list table list pass),
          ← (slots_of_sound limits table store passed.1).slots,
        )
        lists

-- what a listing gives and leaves past these tests
module _ (limits : Limits) (table list : List ℕ) (ready : ListReady limits table) where
  pub listing_short : length list < labels_held table → Lists (listing_ready limits table list) (refused 10) list
  listing_short short = record { answer = rw (lt-ltb _ _ short); list = rw (lt-ltb _ _ short) }

  pub listing_done : (after : List ℕ) (count : ℕ) → labels_held table ≤ length list
      → Filled (slots_listed limits table) list 0 after count
      → Lists (listing_ready limits table list) (listed count) after
  listing_done after count fits filled =
      let all = slots_listed limits table in
      let few = ready.count in
      let stores : after ≡ all ++ drop (length all) list = filled.list ∙ sets_from_start list all (omega arith) in
      let number : count ≡ length all = filled.end ∙ zero-add _ in
      record { answer = rw (le-ltb _ _ fits, number); list = rw (le-ltb _ _ fits) stores }
