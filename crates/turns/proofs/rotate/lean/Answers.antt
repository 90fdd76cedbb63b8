use Rattle.turns.specs.Turns.{lean}
use borrow.Author.Tests.{eq-eqb, ne_eqb}
use mathlib.Core.Path.{refl}
use Rattle.turns.proofs.rotate.lean.Goals as goal

pub returns-then-row-eq-RIGHT_TALLER : goal.returns-then-row-eq-RIGHT_TALLER
unfolding lean
returns-then-row-eq-RIGHT_TALLER c = simp (← c.row_on-row.ensures, eq-eqb _ _ c.if-row-eq-RIGHT_TALLER.true)
    (record { stored = simp c.linked_row.ensures at c.put_on.ensures; handed = refl })

pub returns-then-row-eq-EVEN : goal.returns-then-row-eq-EVEN
unfolding lean
returns-then-row-eq-EVEN c = simp (← c.row_on-row.ensures, ne_eqb _ _ c.if-row-eq-RIGHT_TALLER.false, eq-eqb _ _ c.if-row-eq-EVEN.true)
    (record { stored = simp c.linked_row-then-row-eq-EVEN.ensures at c.put_on-then-row-eq-EVEN.ensures; handed = refl })

pub returns : goal.returns
unfolding lean
returns c = simp (← c.row_on-row.ensures, ne_eqb _ _ c.if-row-eq-RIGHT_TALLER.false, ne_eqb _ _ c.if-row-eq-EVEN.false)
    c.turn.ensures
