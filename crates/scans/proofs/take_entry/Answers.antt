use Rattle.std.proofs.Common.{rules, ◌≤◌, arith}
use Rattle.scans.proofs.NumberLaws.{read_high}
use Rattle.scans.proofs.EntryLaws.{length_broken, bytes_cut, value_broken, entry_read}
use Rattle.scans.proofs.take_entry.Goals as goal

pub returns-in_err-size-clause-result_value : goal.returns-in_err-size-clause-result_value
returns-in_err-size-clause-result_value c = search (rules, length_broken)

pub returns-then-file-size-clause-result_value : goal.returns-then-file-size-clause-result_value
returns-then-file-size-clause-result_value c = search (rules, bytes_cut)

pub returns-in_err-value-clause-result_value : goal.returns-in_err-value-clause-result_value
returns-in_err-value-clause-result_value c = search (rules, value_broken)

pub overflow_cast-result : goal.overflow_cast-result
overflow_cast-result c = let word : c.in_ok-value.value.n ≤ 65535 = search (rules, read_high) in omega arith

pub returns-clause-result_value : goal.returns-clause-result_value
returns-clause-result_value c = search (rules, entry_read)
