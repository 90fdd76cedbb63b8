use Rattle.std.proofs.Common.{rules, ◌/◌, ◌≤◌, ◌<◌, get_or, arith}
use Rattle.scans.proofs.NumberLaws.{broken_at_end, last_broken, last_read, few_broken, cut_broken}
use Rattle.scans.proofs.NumberLaws.{read_high, needless_broken, over_broken, whole_read}
use Rattle.scans.proofs.groups.+up_to.Goals as goal

pub returns-then-file-at-clause-result_value : goal.returns-then-file-at-clause-result_value
returns-then-file-at-clause-result_value t c = search broken_at_end

pub returns-then-highest-byte-clause-result_value : goal.returns-then-highest-byte-clause-result_value
returns-then-highest-byte-clause-result_value t c = search last_broken

pub returns-then-byte-lt128-clause-result_value : goal.returns-then-byte-lt128-clause-result_value
returns-then-byte-lt128-clause-result_value t c = search last_read

pub returns-then-highest-lt128-clause-result_value : goal.returns-then-highest-lt128-clause-result_value
returns-then-highest-lt128-clause-result_value t c =
    let byte : get_or c.args.file.now c.args.at 0 < 256 = omega (arith, c.type_inv.file c.args.at) in
    search (few_broken, byte)

pub returns-in_err-upper-clause-result_value : goal.returns-in_err-upper-clause-result_value
returns-in_err-upper-clause-result_value t c =
    let byte : get_or c.args.file.now c.args.at 0 < 256 = omega (arith, c.type_inv.file c.args.at) in
    search (rules, cut_broken, byte)

pub returns-then-upper-lt1-clause-result_value : goal.returns-then-upper-lt1-clause-result_value
returns-then-upper-lt1-clause-result_value t c =
    let byte : get_or c.args.file.now c.args.at 0 < 256 = omega (arith, c.type_inv.file c.args.at) in
    search (rules, needless_broken, byte)

pub overflow_mul-n : goal.overflow_mul-n
overflow_mul-n t c =
    let within : c.in_ok-upper.upper.n ≤ c.args.highest / 128 = search (rules, read_high) in
    omega arith

pub overflow_add-n : goal.overflow_add-n
overflow_add-n t c =
    let byte : get_or c.args.file.now c.args.at 0 < 256 = omega (arith, c.type_inv.file c.args.at) in
    let within : c.in_ok-upper.upper.n ≤ c.args.highest / 128 = search (rules, read_high) in
    omega arith

pub returns-then-highest-n-clause-result_value : goal.returns-then-highest-n-clause-result_value
returns-then-highest-n-clause-result_value t c =
    let byte : get_or c.args.file.now c.args.at 0 < 256 = omega (arith, c.type_inv.file c.args.at) in
    search (rules, over_broken, byte)

pub returns-clause-result_value : goal.returns-clause-result_value
returns-clause-result_value t c =
    let byte : get_or c.args.file.now c.args.at 0 < 256 = omega (arith, c.type_inv.file c.args.at) in
    search (rules, whole_read, byte)
