use Rattle.turns.specs.Turns.{shrink}
use mathlib.Core.Path.{refl}
use Rattle.turns.proofs.rotate.shrink.Goals as goal

pub returns-then-tall : goal.returns-then-tall
unfolding shrink
returns-then-tall c = simp c.if-tall.true (record { stored = c.with_son.ensures; handed = refl })

pub returns-else-tall : goal.returns-else-tall
unfolding shrink
returns-else-tall c = simp (← c.with_son.ensures, c.if-tall.false) c.lean.ensures
