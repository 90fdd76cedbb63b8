-- What a listing gives and leaves, against a defined outcome: one named fact for the answer and for the lent list.
use Rattle.std.specs.Prelude.{List, ◌≡◌, ℕ}
use Rattle.types.specs.Answers.{Answer}
use Rattle.tables.specs.Outcomes.{Listing}

pub record Lists (listing : Listing) (given : Answer) (words : List ℕ) : Type 0 where
  pub answer : given ≡ listing.answer
  pub list : words ≡ listing.list
