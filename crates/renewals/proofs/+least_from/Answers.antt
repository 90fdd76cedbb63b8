use Rattle.renewals.proofs.SpineLaws.{least_none, least_here, least_below}
use Rattle.renewals.proofs.+least_from.Goals as goal

pub returns-then-remaining-eq0 : goal.returns-then-remaining-eq0
returns-then-remaining-eq0 t c = search least_none

pub returns-then-row-eq0 : goal.returns-then-row-eq0
returns-then-row-eq0 t c = search least_here

pub returns : goal.returns
returns t c = search least_below
