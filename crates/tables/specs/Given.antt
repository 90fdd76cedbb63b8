-- What a call gives and leaves, against a defined outcome: one named fact for the answer and for each lent buffer.
use Rattle.std.specs.Prelude.{List, ◌≡◌, ℕ}
use Rattle.types.specs.Answers.{Answer}
use Rattle.tables.specs.Outcomes.{Outcome}

-- a call that may change the table and the store
pub record Gives (outcome : Outcome) (given : Answer) (words bytes : List ℕ) : Type 0 where
  pub answer : given ≡ outcome.answer
  pub table : words ≡ outcome.memory.table
  pub store : bytes ≡ outcome.memory.store
