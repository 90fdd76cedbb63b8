-- What taking a roster answers (M-100 of document 02).
use Rattle.std.specs.Prelude.{ℕ, Result, Ok, Err}
use Rattle.types.specs.declared.RefusedRecord.{RefusedRecord}
use Rattle.types.specs.Answers.{refusal_number}

-- "the answer names that record's number, from 1, and the refusal. Otherwise the answer is how many went in"
pub data RosterReply : Type 0 where
  taken : (count : ℕ) → RosterReply
  refused : (n number : ℕ) → RosterReply

abbrev pub roster_says : Result ℕ RefusedRecord → RosterReply
roster_says (Ok count) = taken count
roster_says (Err r) = refused r.number (refusal_number r.refusal)
