use mathlib.Core.Path.{sym, ◌∙◌}
use Rattle.decides.proofs.SoundByWalks.{sound_by_walks_lem}
use Rattle.verdicts.proofs.of_table.Goals as goal

pub returns-then-sound_within : goal.returns-then-sound_within
returns-then-sound_within c = rw (sym (c.sound_within.ensures ∙ sound_by_walks_lem _ _ _) ∙ c.if-sound_within.true)

pub returns-else-sound_within : goal.returns-else-sound_within
returns-else-sound_within c = rw (sym (c.sound_within.ensures ∙ sound_by_walks_lem _ _ _) ∙ c.if-sound_within.false)
