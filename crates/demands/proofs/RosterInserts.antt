-- The records of a roster, inserted one after the other into any memory.
-- enters: some go in, from the first on; all of them, or all before the first that is refused.
-- after_both: what two lists of calls leave, the second after the first.
use mathlib.Core.List.{List, [], ◌∷◌, ◌++◌}
use mathlib.Core.Path.{◌≡◌, refl, ap}
use Prim.Native.Nat.{ℕ, suc, ◌+◌, ◌<◌}
use native.Mathlib.Omega.{arith}
use lib.ListN.{length, drop}
use Rattle.types.specs.declared.Limits.{Limits}
use Rattle.types.specs.RosterReplies.{RosterReply, taken, refused}
use Rattle.trees.specs.Plain.{Call}
use Rattle.tables.specs.Written.{Memory}
use Rattle.tables.specs.Outcomes.{insert_outcome}
use Rattle.tables.specs.Claims.{call_outcome, after_list}
use Rattle.tables.specs.MapClaims.{Said, said, accepted, refused_by}
use Rattle.files.specs.FileReads.{EntryRead, no_entry, entry}
use Rattle.rfc4180.specs.Rosters.{RosterOutcome, stopped_at, roster_from}
use Rattle.demands.specs.Loads.{AllAccepted}
use Rattle.demands.specs.Rosters.{inserts_to, FirstRefused}

module _ (limits : Limits) where
  -- What two lists of calls leave is what the second leaves after the first.
  pub after_both : (calls more : List Call) (m : Memory)
      → after_list limits (calls ++ more) m ≡ after_list limits more (after_list limits calls m)
  after_both [] more m = refl
  after_both (c ∷ calls) more m = after_both calls more (call_outcome limits c m).memory

  -- how the inserts of records end, n of which went in after others, with a memory left
  pub data Ends (before n : ℕ) (entries : List EntryRead) (left : Memory) : RosterReply → Type 0 where
    all_in : (count : ℕ) → count ≡ before + n → length entries ≡ n → Ends before n entries left (taken count)
    stopped : (k number : ℕ) → k ≡ suc (before + n) → n < length entries
        → FirstRefused limits left (drop n entries) number → Ends before n entries left (refused k number)

  -- n of these records go in, and what comes of it
  pub record Enters (before : ℕ) (entries : List EntryRead) (m : Memory) (o : RosterOutcome) : Type 0 where
    pub n : ℕ
    pub many : length (inserts_to n entries) ≡ n
    pub accepts : AllAccepted limits (inserts_to n entries) m
    pub left : o.memory ≡ after_list limits (inserts_to n entries) m
    pub ends : Ends before n entries o.memory o.answer

  -- One record more, in front of those that go in.
  one_more : {before n : ℕ} {entries : List EntryRead} {left : Memory} {reply : RosterReply} (e : EntryRead)
      → Ends (suc before) n entries left reply → Ends before (suc n) (e ∷ entries) left reply
  one_more e (all_in count counts whole) = all_in count (omega arith) (omega arith)
  one_more e (stopped k number names inside first) = stopped k number (omega arith) (omega arith) first

  -- Records from the first on go in, all of them, or all before the first that is refused.
  pub enters : (before : ℕ) (entries : List EntryRead) (m : Memory)
      → Enters before entries m (roster_from limits before entries m)
  unfolding roster_from insert_outcome
  enters before [] m =
      record { n = 0; many = refl; accepts = tt; left = refl; ends = all_in before (omega arith) refl }
  enters before (no_entry ∷ more) m = record {
    n = 0;
    many = refl;
    accepts = tt;
    left = refl;
    ends = stopped (suc before) 13 (omega arith) (omega arith) refl;
  }
  enters before (entry x value rest ∷ more) m =
      by_said (said (insert_outcome limits m.table m.store x value).answer) refl
      (enters (suc before) more (insert_outcome limits m.table m.store x value).memory)
    where
      by_said : (s : Said) → said (insert_outcome limits m.table m.store x value).answer ≡ s
          → Enters (suc before) more (insert_outcome limits m.table m.store x value).memory
          (roster_from limits (suc before) more (insert_outcome limits m.table m.store x value).memory)
          → Enters before (entry x value rest ∷ more) m
          (elim s [
            | accepted ↦ roster_from limits (suc before) more
                (insert_outcome limits m.table m.store x value).memory
            | refused_by number ↦ stopped_at (suc before) number m
          ])
      by_said accepted is later = record {
        n = suc later.n;
        many = ap suc later.many;
        accepts = (is, later.accepts);
        left = later.left;
        ends = one_more (entry x value rest) later.ends;
      }
      by_said (refused_by number) is later = record {
        n = 0;
        many = refl;
        accepts = tt;
        left = refl;
        ends = stopped (suc before) number (omega arith) (omega arith) is;
      }
