use Rattle.std.proofs.Common.{rules, ◌≡◌, suc, ◌+◌, ◌-◌, ◌≤◌, ◌<◌, length, arith}
use mathlib.Core.Path.{ap, ◌∙◌}
use Rattle.std.specs.Prelude.{Err}
use Rattle.lengths.specs.Tests.{test_says}
use Rattle.scans.proofs.ScanLaws.{scan_goes_on, scan_broken, scan_not_above, scan_over, scan_ends}
use Rattle.scans.proofs.scan.Goals as goal

pub returns-in_err-entry : goal.returns-in_err-entry
returns-in_err-entry c =
    let one_more : c.args.count - c.loop.counter ≡ suc (c.args.count - (c.loop.counter + 1)) = omega arith in
    let refused : c.from_residual.result ≡ Err c.in_err-entry.field-0.0 = search rules in
    ap test_says refused
    ∙ scan_broken _ _ _ _ _ _ c.loop.invariant _ one_more _ c.take_entry.ensures.result_value _ _ c.ok_or.ensures.value
    (search rules)

pub returns-then-not-is_above : goal.returns-then-not-is_above
returns-then-not-is_above c =
    let one_more : c.args.count - c.loop.counter ≡ suc (c.args.count - (c.loop.counter + 1)) = omega arith in
    scan_not_above _ _ _ _ _ _ c.loop.invariant _ one_more _ c.take_entry.ensures.result_value c.in_ok-entry.entry
    (search rules) (search rules)

pub loop-preserved : goal.loop-preserved
loop-preserved c =
    let one_more : c.args.count - c.loop.counter ≡ suc (c.args.count - (c.loop.counter + 1)) = omega arith in
    search (rules, scan_goes_on, one_more)

pub returns-then-next-file : goal.returns-then-next-file
returns-then-next-file c =
    let further : c.loop.next < length c.args.file.now = omega arith in
    search (rules, scan_over)

pub returns : goal.returns
returns c =
    let over : length c.args.file.now ≤ c.loop.next = omega arith in
    search (rules, scan_ends)
