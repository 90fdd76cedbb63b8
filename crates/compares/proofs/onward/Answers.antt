use native.Mathlib.Omega.{arith}
use Rattle.compares.proofs.Laws.{passes, stops, ends_short}
use Rattle.compares.proofs.onward.Goals as goal

pub returns-then-is_ne-clause-result_value : goal.returns-then-is_ne-clause-result_value
returns-then-is_ne-clause-result_value g c = search (stops, arith, c.requires.by_numbers)

pub loop-i-preserved : goal.loop-i-preserved
loop-i-preserved g c = (omega arith, search (passes, arith, c.requires.by_numbers))

pub returns-clause-result_value : goal.returns-clause-result_value
returns-clause-result_value g c = search (ends_short, arith)
