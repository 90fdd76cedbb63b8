use borrow.Author.Rules.{rules}
use Rattle.scans.proofs.NumberLaws.{low_broken, lowest_broken, lowest_read}
use Rattle.scans.proofs.groups.take.Goals as goal

pub returns-in_err-number-clause-result_value : goal.returns-in_err-number-clause-result_value
returns-in_err-number-clause-result_value c = search (rules, low_broken)

pub returns-then-number-lowest-clause-result_value : goal.returns-then-number-lowest-clause-result_value
returns-then-number-lowest-clause-result_value c = search (rules, lowest_broken)

pub returns-clause-result_value : goal.returns-clause-result_value
returns-clause-result_value c = search (rules, lowest_read)
