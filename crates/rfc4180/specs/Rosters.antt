-- What taking a roster answers and leaves, on lent memory of any length and content and a text of any bytes (M-100 of
-- document 02).
use Rattle.std.specs.Prelude.{List, [], ◌∷◌, ◌≡◌, ℕ, suc, ltb, length}
use Rattle.types.specs.declared.Limits.{Limits}
use Rattle.types.specs.RosterReplies.{RosterReply, taken, refused}
use Rattle.tables.specs.Written.{Memory, lent}
use Rattle.tables.specs.Outcomes.{Verdict, pass, refuse, line, of_memory, Outcome, insert_outcome}
use Rattle.tables.specs.MapClaims.{said, accepted, refused_by}
use Rattle.files.specs.FileReads.{EntryRead, no_entry, entry}
use Rattle.rfc4180.specs.Records.{records_of}

-- "a lent slice of at most 16,384 bytes"
abbrev pub longest_text : ℕ
longest_text = 16384

pub record RosterOutcome : Type 0 where
  pub answer : RosterReply
  pub memory : Memory

-- "the answer names that record's number, from 1, and the refusal"
abbrev pub stopped_at : (n number : ℕ) → Memory → RosterOutcome
stopped_at n number m = record { answer = refused n number; memory = m }

-- "insert record by record. Records before the first refused one stay in .. Otherwise the answer is how many went in":
-- the records after those that went in, 13 before the insert's own refusals
unfoldable pub roster_from : Limits → (before : ℕ) → List EntryRead → Memory → RosterOutcome
roster_from limits before [] m = record { answer = taken before; memory = m }
roster_from limits before (no_entry ∷ more) m = stopped_at (suc before) 13 m
roster_from limits before (entry x value rest ∷ more) m =
    let o : Outcome = insert_outcome limits m.table m.store x value in
    elim (said o.answer) [
      | accepted ↦ roster_from limits (suc before) more o.memory
      | refused_by number ↦ stopped_at (suc before) number m
    ]

-- "A refusal by 1, 2 or 12 names record 0."
abbrev pub roster_by : Verdict → Memory → RosterOutcome → RosterOutcome
roster_by pass m o = o
roster_by (refuse number) m o = stopped_at 0 number m

-- "12, text above 16,384 bytes, after 2"
abbrev pub of_text : List ℕ → Verdict → Verdict
of_text text below = line (ltb longest_text (length text)) 12 below

unfoldable pub roster_outcome : Limits → (table store text : List ℕ) → RosterOutcome
roster_outcome limits table store text =
    roster_by (of_memory limits table store (of_text text pass)) (lent table store)
    (roster_from limits 0 (records_of text) (lent table store))

-- what taking a roster gives and leaves, against a defined outcome: one named fact for the answer and for each lent
-- part
pub record TakesRoster (outcome : RosterOutcome) (given : RosterReply) (words bytes : List ℕ) : Type 0 where
  pub answer : given ≡ outcome.answer
  pub table : words ≡ outcome.memory.table
  pub store : bytes ≡ outcome.memory.store
