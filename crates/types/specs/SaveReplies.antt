-- What a save answers (M-105 of document 02).
use Rattle.std.specs.Prelude.{ℕ, Result, Ok, Err}
use Rattle.types.specs.declared.Refusal.{Refusal}
use Rattle.types.specs.Answers.{refusal_number}

-- "The answer is how many were written", or a refusal by its number.
pub data SaveReply : Type 0 where
  saved : (bytes : ℕ) → SaveReply
  refused : (number : ℕ) → SaveReply

abbrev pub save_says : Result ℕ Refusal → SaveReply
save_says (Ok bytes) = saved bytes
save_says (Err r) = refused (refusal_number r)
