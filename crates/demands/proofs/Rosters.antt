-- Rosters of clubs.
-- takes_rosters: the records before the first refused one go in, by inserts of which none is refused, and the answer
-- names that record and the refusal, or how many went in; a refusal by 1, 2 or 12 names record 0. A sound table stays
-- sound, and the inserts go on a list of demand 3.
use mathlib.Core.List.{List, ◌++◌}
use mathlib.Core.Path.{◌≡◌}
use Prim.Native.Nat.{ℕ, suc, ◌≤◌}
use native.Mathlib.Omega.{arith}
use lib.ListN.{length, drop}
use Rattle.types.specs.declared.Limits.{Limits}
use Rattle.types.specs.RosterReplies.{RosterReply, taken, refused}
use Rattle.labels.specs.Labels.{Label}
use Rattle.labels.proofs.Clashes.{clash}
use Rattle.trees.specs.Heights.{Deepest}
use Rattle.trees.specs.Plain.{insert}
use Rattle.tables.specs.Written.{Memory}
use Rattle.tables.specs.Outcomes.{refuse, insert_outcome, layout_outcome}
use Rattle.tables.specs.Claims.{after_list}
use Rattle.tables.specs.MapClaims.{said, refused_by}
use Rattle.rfc4180.specs.Records.{records_of}
use Rattle.rfc4180.specs.Rosters.{longest_text}
use Rattle.rfc4180.proofs.RecordLaws.{records_within}
use Rattle.demands.specs.Rosters.{roster_of, inserts_to, Entered, FirstRefused, entered_by, named_by, TakesRosters}
use Rattle.demands.proofs.CostRule.{cost_rule}
use Rattle.demands.proofs.SoundAfter.{sound_stays}
use Rattle.demands.proofs.Refusals.{refused_leaves}
use Rattle.demands.proofs.RosterInserts.{after_both, all_in, stopped}
use Rattle.demands.proofs.RosterEnds.{early, RosterEnds, at_tests, at_records, went, passed_is_short}
use Rattle.demands.proofs.RosterEnds.{early_stops, none_taken}

module _ (limits : Limits) where
  -- Those that went in, where there were so many.
  entered : (m : Memory) (text : List ℕ) (n : ℕ) → (went limits m text).n ≡ n → Entered limits m text n
  entered m text n so =
      let goes = went limits m text in
      rw (← so) (record { many = goes.many; accepted = goes.accepts; left = goes.left })

  -- How many went in is what the answer says.
  number_entered : (m : Memory) (text : List ℕ) → entered_by (roster_of limits m text).answer ≡ (went limits m text).n
  number_entered m text = by_end (went limits m text).ends
    where
      by_end : {n : ℕ} {left : Memory} {reply : RosterReply} → RosterEnds limits m text n left reply
          → entered_by reply ≡ n
      by_end (at_tests number is none) = omega arith
      by_end (at_records reply is (all_in count counts whole)) = omega arith
      by_end (at_records reply is (stopped k number names inside first)) = omega arith

  -- The number that an answer names is at most the longest text's bytes.
  number_within_lem : (m : Memory) (text : List ℕ) → named_by (roster_of limits m text).answer ≤ longest_text
  number_within_lem m text = by_end (went limits m text).ends
    where
      by_end : {n : ℕ} {left : Memory} {reply : RosterReply} → RosterEnds limits m text n left reply
          → named_by reply ≤ longest_text
      by_end (at_tests number is none) = omega arith
      by_end (at_records reply is (all_in count counts whole)) =
          omega (arith, passed_is_short limits m text is, records_within text)
      by_end (at_records reply is (stopped k number names inside first)) =
          omega (arith, passed_is_short limits m text is, records_within text)

  -- An answer that counts counts all records.
  all_entered : (m : Memory) (text : List ℕ) (count : ℕ) → (roster_of limits m text).answer ≡ taken count
      → Entered limits m text count × (length (records_of text) ≡ count)
  all_entered m text count says =
      let (so, whole) = by_end (went limits m text).ends says in
      (entered m text count so, whole)
    where
      by_end : {n : ℕ} {left : Memory} {reply : RosterReply} → RosterEnds limits m text n left reply
          → reply ≡ taken count → (n ≡ count) × (length (records_of text) ≡ count)
      by_end (at_tests number is none) says = clash cc
      by_end (at_records reply is (all_in counted counts whole)) says =
          let same : counted ≡ count = cc in (omega arith, omega arith)
      by_end (at_records reply is (stopped k number names inside first)) says = clash cc

  -- One that names a record names the first refused one, and those before it went in.
  some_entered : (m : Memory) (text : List ℕ) (n number : ℕ) → (roster_of limits m text).answer ≡ refused (suc n) number
      → Entered limits m text n
      × FirstRefused limits (roster_of limits m text).memory (drop n (records_of text)) number
  some_entered m text n number says =
      let (so, first) = by_end (went limits m text).ends says in
      (entered m text n so, first)
    where
      by_end : {k : ℕ} {left : Memory} {reply : RosterReply} → RosterEnds limits m text k left reply
          → reply ≡ refused (suc n) number
          → (k ≡ n) × FirstRefused limits left (drop n (records_of text)) number
      by_end (at_tests other is none) says = clash cc
      by_end (at_records reply is (all_in count counts whole)) says = clash cc
      by_end {k} {left} (at_records reply is (stopped named why names inside first)) says =
          let same : named ≡ suc n = cc in
          let by : why ≡ number = cc in
          let so : k ≡ n = omega arith in
          (so, rw (← so, ← by) first)

  -- One that names record 0 is of the tests before.
  early_only : (m : Memory) (text : List ℕ) (number : ℕ) → (roster_of limits m text).answer ≡ refused 0 number
      → early limits m text ≡ refuse number
  early_only m text number says = by_end (went limits m text).ends says
    where
      by_end : {n : ℕ} {left : Memory} {reply : RosterReply} → RosterEnds limits m text n left reply
          → reply ≡ refused 0 number → early limits m text ≡ refuse number
      by_end (at_tests other is none) says = let same : other ≡ number = cc in rw (← same) is
      by_end (at_records reply is (all_in count counts whole)) says = clash cc
      by_end (at_records reply is (stopped named why names inside first)) says =
          let none : named ≡ 0 = cc in absurd (omega arith)

  -- A refused insert leaves what it found.
  insert_leaves : (m : Memory) (x : Label) (value number : ℕ)
      → said (insert_outcome limits m.table m.store x value).answer ≡ refused_by number
      → (insert_outcome limits m.table m.store x value).memory ≡ m
  unfolding insert_outcome
  insert_leaves m x value number is = refused_leaves limits m.table m.store number (insert x value) is

-- Rosters are taken so.
pub takes_rosters : (limits : Limits) → Deepest limits.slots limits.depth → TakesRosters limits
takes_rosters limits deepest = record {
  all = all_entered limits;
  some = some_entered limits;
  early = early_stops limits;
  early_only = early_only limits;
  by_itself = insert_leaves limits;
  empty = none_taken limits;
  sound = λ m sound text.
      rw (went limits m text).left
      (sound_stays limits deepest (inserts_to (went limits m text).n (records_of text)) m sound);
  goes_on = λ table store words bytes calls text.
      let start = (layout_outcome limits table store).memory in
      let after = after_list limits calls start in
      let inserts = inserts_to (entered_by (roster_of limits after text).answer) (records_of text) in
      record {
        left = rw (after_both, number_entered limits after text) (went limits after text).left;
        agree = cost_rule limits deepest table store words bytes (calls ++ inserts);
      };
  within = number_within_lem limits;
}
