use Rattle.sides.specs.Rows.{raised}
use Rattle.sides.proofs.rows.raised.Goals as goal

pub returns-then-exchanges : goal.returns-then-exchanges
unfolding raised
returns-then-exchanges c = simp (← c.exchanges.ensures, c.if-exchanges.true) c.prefixed.ensures

pub returns-else-exchanges : goal.returns-else-exchanges
unfolding raised
returns-else-exchanges c = simp (← c.exchanges.ensures, c.if-exchanges.false)
