-- How a roster ends.
-- went: at the tests that name no record, or as its records do, of which so many went in.
-- early_stops: those tests name record 0, and leave the memory. passed_is_short: a text that passes them is not too
-- long. none_taken: an empty text gives 0.
use mathlib.Core.Bool.{Bool, true, false, not}
use mathlib.Core.List.{List, []}
use mathlib.Core.Path.{◌≡◌, refl}
use Prim.Native.Nat.{ℕ, ◌≤◌}
use lib.Dec.{eqb}
use lib.ListN.{length}
use Rattle.types.specs.declared.Limits.{Limits}
use Rattle.types.specs.Sizes.{table_length, store_length}
use Rattle.types.specs.RosterReplies.{RosterReply, taken, refused}
use Rattle.labels.proofs.Clashes.{clash}
use Rattle.labels.proofs.Numbers.{Ltb, lt_yes, lt_no, ltb_view}
use Rattle.tables.specs.Written.{Memory}
use Rattle.tables.specs.Outcomes.{Verdict, pass, refuse, line, of_memory}
use Rattle.tables.specs.Claims.{after_list}
use Rattle.rfc4180.specs.Records.{records_with, records_of}
use Rattle.rfc4180.specs.Rosters.{longest_text, RosterOutcome, stopped_at, roster_from, roster_by, of_text, roster_outcome}
use Rattle.demands.specs.Loads.{Lent, AllAccepted}
use Rattle.demands.specs.Rosters.{roster_of, inserts_to}
use Rattle.demands.proofs.Outcomes.{memory_passes}
use Rattle.demands.proofs.RosterInserts.{Ends, enters}

module _ (limits : Limits) where
  -- the tests that name no record
  abbrev pub early : Memory → (text : List ℕ) → Verdict
  early m text = of_memory limits m.table m.store (of_text text pass)

  -- how a roster ends: at the tests that name no record, or as its records do, n of which went in
  pub data RosterEnds (m : Memory) (text : List ℕ) (n : ℕ) (left : Memory) : RosterReply → Type 0 where
    at_tests : (number : ℕ) → early m text ≡ refuse number → n ≡ 0 → RosterEnds m text n left (refused 0 number)
    at_records : (reply : RosterReply) → early m text ≡ pass → Ends limits 0 n (records_of text) left reply
        → RosterEnds m text n left reply

  -- so many records went in, and how it ended
  pub record Went (m : Memory) (text : List ℕ) (o : RosterOutcome) : Type 0 where
    pub n : ℕ
    pub many : length (inserts_to n (records_of text)) ≡ n
    pub accepts : AllAccepted limits (inserts_to n (records_of text)) m
    pub left : o.memory ≡ after_list limits (inserts_to n (records_of text)) m
    pub ends : RosterEnds m text n o.memory o.answer

  -- Every roster goes so.
  pub went : (m : Memory) (text : List ℕ) → Went m text (roster_of limits m text)
  unfolding roster_outcome
  went m text = by_verdict (early m text) refl
    where
      by_verdict : (v : Verdict) → early m text ≡ v
          → Went m text (roster_by v m (roster_from limits 0 (records_of text) m))
      by_verdict (refuse number) is =
          record { n = 0; many = refl; accepts = tt; left = refl; ends = at_tests number is refl }
      by_verdict pass is =
          let entered = enters limits 0 (records_of text) m in
          record {
            n = entered.n;
            many = entered.many;
            accepts = entered.accepts;
            left = entered.left;
            ends = at_records _ is entered.ends;
          }

  -- A text that passes the tests is not too long.
  pub passed_is_short : (m : Memory) (text : List ℕ) → early m text ≡ pass → length text ≤ longest_text
  passed_is_short m text is =
      by_lines (not (eqb (length m.table) (table_length limits))) (not (eqb (length m.store) (store_length limits)))
      (ltb_view longest_text (length text)) is
    where
      by_lines : {long : Bool} (words bytes : Bool) → Ltb longest_text (length text) long
          → line words 1 (line bytes 2 (line long 12 pass)) ≡ pass → length text ≤ longest_text
      by_lines true bytes long is = clash cc
      by_lines false true long is = clash cc
      by_lines false false (lt_yes above) is = clash cc
      by_lines false false (lt_no within) is = within

  -- The tests before name record 0, and leave the memory.
  pub early_stops : (m : Memory) (text : List ℕ) (number : ℕ) → early m text ≡ refuse number
      → roster_of limits m text ≡ stopped_at 0 number m
  unfolding roster_outcome
  early_stops m text number is = rw is

  -- An empty text gives 0.
  pub none_taken : (m : Memory) → Lent limits m → roster_of limits m [] ≡ record { answer = taken 0; memory = m }
  unfolding roster_outcome roster_from records_of records_with
  none_taken m lent = rw (memory_passes limits m.table m.store lent.words lent.bytes)
