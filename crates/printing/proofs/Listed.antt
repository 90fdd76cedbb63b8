-- The lines of the labels held, by what the listing gives in a list of as many words as there are slots.
--     listed_count   the slots that it lists are at most as many
--     listed_put     the lines of these slots are those of the labels
--     unlisted_put   memory that it refuses has no lines
use mathlib.Core.Bool.{not}
use mathlib.Core.List.{List, [], ◌++◌, map, append-nil}
use mathlib.Core.Path.{◌≡◌, refl, sym, ap}
use Prim.Native.Nat.{ℕ, ◌*◌, ◌≤◌}
use native.Mathlib.Omega.{arith}
use borrow.Author.Tests.{le-ltb, not-false}
use lib.ListN.{length, take, drop, length-take}
use lib.Seq.{take_at}
use Rattle.std.specs.Prelude.{Result, Ok, Err}
use Rattle.types.specs.declared.Refusal.{Refusal}
use Rattle.types.specs.Sizes.{hub}
use Rattle.types.specs.Answers.{listed, refused, list_says}
use Rattle.labels.proofs.Clashes.{clash}
use Rattle.trees.specs.Trees.{slots}
use Rattle.tables.specs.Words.{labels_held}
use Rattle.tables.specs.Written.{lent}
use Rattle.tables.specs.Sound.{sound, state_of}
use Rattle.tables.specs.Outcomes.{Verdict, pass, of_table, of_list, Listing, listing_outcome}
use Rattle.lengths.proofs.FirstLines.{Decides, passes, refuses, line_passed, sizes_passed}
use Rattle.verdicts.proofs.WholeTests.{whole_decides}
use Rattle.verdicts.specs.Verdicts.{of_whole}
use Rattle.lists.specs.Given.{Lists}
use Rattle.texts.specs.Puts.{Puts}
use Rattle.index.proofs.Sizes.{at_hub}
use Rattle.printouts.specs.Printouts.{lines_for, label_lines}
use Rattle.printouts.specs.Rooms.{line_room}
use Rattle.printing.specs.Prints.{shown_at}
use Rattle.printing.proofs.SoundShown.{shown_of_sound}

-- the two ways of a listing, beside the lines of the labels
data Ways (table store list : List ℕ) : Listing → Type 0 where
  all : (ks : List ℕ) → length ks ≤ hub.slots
      → label_lines (lent table store) ≡ lines_for (map (shown_at (lent table store)) ks)
      → Ways table store list (record { answer = listed (length ks); list = ks ++ drop (length ks) list })
  none : (number : ℕ) → label_lines (lent table store) ≡ []
      → Ways table store list (record { answer = refused number; list = list })

module _ (table store list : List ℕ) (room : length list ≡ hub.slots) where
  -- past the tests of the whole table all are listed
  past_tests : ((below : Verdict) → of_whole hub table store below ≡ below)
      → Ways table store list (listing_outcome hub table store list)
  unfolding listing_outcome label_lines
  past_tests passed =
      let tests = sizes_passed hub table store (of_table hub table store pass) (at_hub hub refl) (sym (passed pass)) in
      let holds = not-false _ (line_passed (not (sound hub table store)) 6 pass tests.1).0 in
      let nodes = shown_of_sound table store tests.0.words tests.0.bytes holds in
      let ks = slots (state_of hub table store).tree in
      let fits : labels_held table ≤ length list = omega (arith, nodes.held, nodes.few) in
      rw (passed (of_list table list pass), le-ltb (length list) (labels_held table) fits)
      (all ks nodes.few (rw (passed pass) (ap lines_for (sym nodes.shown))))

  by_tests : Decides (of_whole hub table store) → Ways table store list (listing_outcome hub table store list)
  unfolding listing_outcome label_lines
  by_tests (passes p) = past_tests p
  by_tests (refuses number p) = rw (p (of_list table list pass)) (none number (rw (p pass)))

  ways : Ways table store list (listing_outcome hub table store list)
  ways = by_tests (whole_decides hub table store)

-- what was said of a listing, by its two ways
module _ (table store list after : List ℕ) (answer : Result ℕ Refusal) where
  -- the slots that are listed
  record Listed (count : ℕ) : Type 0 where
    few : count ≤ hub.slots
    lines : lines_for (map (shown_at (lent table store)) (take count after)) ≡ label_lines (lent table store)

  way_listed : (listing : Listing) → Ways table store list listing → Lists listing (list_says answer) after
      → (count : ℕ) → answer ≡ Ok count → Listed count
  way_listed listing (all ks few lines) lists count is =
      let same : count ≡ length ks = cc in
      record {
        few = omega arith;
        lines = rw (lists.list, same, take_at ks _) (sym lines);
      }
  way_listed listing (none number no_lines) lists count is = clash cc

  way_refused : (listing : Listing) → Ways table store list listing → Lists listing (list_says answer) after
      → (r : Refusal) → answer ≡ Err r → label_lines (lent table store) ≡ []
  way_refused listing (all ks few lines) lists r is = clash cc
  way_refused listing (none number no_lines) lists r is = no_lines

  module _ (room : length list ≡ hub.slots)
      (lists : Lists (listing_outcome hub table store list) (list_says answer) after) where
    -- the slots that it lists are at most as many
    pub listed_count : (count : ℕ) → answer ≡ Ok count → count ≤ hub.slots
    listed_count count is = (way_listed _ (ways table store list room) lists count is).few

    -- the lines of these slots are those of the labels
    pub listed_put : (count : ℕ) → answer ≡ Ok count → (before out : List ℕ)
        → Puts before (lines_for (map (shown_at (lent table store)) (take count after)))
        (line_room * length (take count after)) out
        → Puts before (label_lines (lent table store)) (line_room * hub.slots) out
    listed_put count is before out puts =
        let found = way_listed _ (ways table store list room) lists count is in
        let within : length (take count after) ≤ hub.slots = rw length-take (omega (arith, found.few)) in
        rw (← found.lines) (record { text = puts.text; room = omega (arith, puts.room, within) })

    -- memory that it refuses has no lines
    pub unlisted_put : (r : Refusal) → answer ≡ Err r → (before : List ℕ)
        → Puts before (label_lines (lent table store)) (line_room * hub.slots) before
    unlisted_put r is before =
        rw (way_refused _ (ways table store list room) lists r is)
        (record { text = sym (append-nil before); room = omega arith })
