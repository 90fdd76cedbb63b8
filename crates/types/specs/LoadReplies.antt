-- What a load answers (M-110 of document 02).
use Rattle.std.specs.Prelude.{ℕ, Result, Ok, Err}
use Rattle.types.specs.declared.Refusal.{Refusal}
use Rattle.types.specs.Answers.{refusal_number}

-- "The answer is how many labels were loaded", or a refusal by its number.
pub data LoadReply : Type 0 where
  loaded : (count : ℕ) → LoadReply
  refused : (number : ℕ) → LoadReply

abbrev pub load_says : Result ℕ Refusal → LoadReply
load_says (Ok count) = loaded count
load_says (Err r) = refused (refusal_number r)
