use Rattle.insertions.proofs.InsertionLaws.{leaf_alone, leaf_over_lower, leaf_under_upper, leaf_between}
use Rattle.insertions.proofs.leaf_fields.Goals as goal

pub returns-then-trace-eq0-2 : goal.returns-then-trace-eq0-2
returns-then-trace-eq0-2 c = search leaf_alone

pub returns-then-trace-eq0 : goal.returns-then-trace-eq0
returns-then-trace-eq0 c = search leaf_over_lower

pub returns-then-trace-eq0-3 : goal.returns-then-trace-eq0-3
returns-then-trace-eq0-3 c = search leaf_under_upper

pub returns : goal.returns
returns c = search leaf_between
