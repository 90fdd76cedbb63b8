use Rattle.sides.specs.Rows.{lowered}
use Rattle.sides.proofs.rows.lowered.Goals as goal

pub returns-then-exchanges : goal.returns-then-exchanges
unfolding lowered
returns-then-exchanges c = simp (← c.exchanges.ensures, c.if-exchanges.true, ← c.to_parent.ensures)
    c.prefixed.ensures

pub returns-else-exchanges : goal.returns-else-exchanges
unfolding lowered
returns-else-exchanges c = simp (← c.exchanges.ensures, c.if-exchanges.false)
