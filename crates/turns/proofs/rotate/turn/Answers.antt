use Rattle.turns.specs.Turns.{turn}
use borrow.Author.Tests.{eq-eqb, ne_eqb}
use Rattle.turns.proofs.rotate.turn.Goals as goal

pub returns-then-son-eq-RIGHT_TALLER : goal.returns-then-son-eq-RIGHT_TALLER
unfolding turn
returns-then-son-eq-RIGHT_TALLER c = simp (← c.row_on-parent.ensures, ← c.row_on-son.ensures, eq-eqb _ _ c.if-son-eq-RIGHT_TALLER.true)
    c.turn_twice.ensures

pub returns-else-son-eq-RIGHT_TALLER : goal.returns-else-son-eq-RIGHT_TALLER
unfolding turn
returns-else-son-eq-RIGHT_TALLER c = simp (← c.row_on-parent.ensures, ← c.row_on-son.ensures, ne_eqb _ _ c.if-son-eq-RIGHT_TALLER.false)
    c.turn_once.ensures
