-- What the first tests of a call say, as lines of the table of refusals.
use Rattle.std.specs.Prelude.{Result, Ok, Err}
use Rattle.types.specs.declared.Refusal.{Refusal}
use Rattle.types.specs.Answers.{refusal_number}
use Rattle.tables.specs.Outcomes.{Verdict, pass, refuse}

abbrev pub test_says : Result Unit Refusal → Verdict
test_says (Ok _) = pass
test_says (Err r) = refuse (refusal_number r)
