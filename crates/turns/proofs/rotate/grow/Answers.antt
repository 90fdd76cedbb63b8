use Rattle.turns.specs.Turns.{grow}
use mathlib.Core.Path.{refl}
use Rattle.turns.proofs.rotate.grow.Goals as goal

pub returns-then-tall : goal.returns-then-tall
unfolding grow
returns-then-tall c = simp (← c.with_son.ensures, c.if-tall.true) c.lean.ensures

pub returns-else-tall : goal.returns-else-tall
unfolding grow
returns-else-tall c = simp c.if-tall.false (record { stored = c.with_son.ensures; handed = refl })
