use borrow.Author.Tests.{eq-eqb, ne_eqb, lt-ltb, le-ltb}
use Rattle.sides.specs.Rows.{exchanges}
use Rattle.sides.proofs.rows.exchanges.Goals as goal

pub returns-then-parent-son : goal.returns-then-parent-son
unfolding exchanges
returns-then-parent-son c =
    simp (← c.to_parent.ensures, eq-eqb _ _ c.if-son-to_parent.true, lt-ltb _ _ c.if-parent-son.true)

pub returns-else-parent-son-2 : goal.returns-else-parent-son-2
unfolding exchanges
returns-else-parent-son-2 c =
    simp (← c.to_parent.ensures, eq-eqb _ _ c.if-son-to_parent.true, le-ltb _ _ c.if-parent-son.false, ne_eqb _ _ c.if-parent-son-2.false)

pub returns-else-son-to_parent : goal.returns-else-son-to_parent
unfolding exchanges
returns-else-son-to_parent c = simp (← c.to_parent.ensures, ne_eqb _ _ c.if-son-to_parent.false)

pub returns-then-not-flip : goal.returns-then-not-flip
unfolding exchanges
returns-then-not-flip c =
    simp (← c.to_parent.ensures, eq-eqb _ _ c.if-son-to_parent.true)
    (simp (le-ltb _ _ c.if-parent-son.false, eq-eqb _ _ c.if-parent-son-2.true, c.if-not-flip.true))

pub returns-else-not-flip : goal.returns-else-not-flip
unfolding exchanges
returns-else-not-flip c =
    simp (← c.to_parent.ensures, eq-eqb _ _ c.if-son-to_parent.true)
    (simp (le-ltb _ _ c.if-parent-son.false, eq-eqb _ _ c.if-parent-son-2.true, c.if-not-flip.false))
