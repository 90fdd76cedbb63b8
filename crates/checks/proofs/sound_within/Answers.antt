use Rattle.checks.proofs.SoundLaws.{sound_held, sound_unused, sound_broken, sound_counted, sound_chain}
use Rattle.checks.proofs.sound_within.Goals as goal

pub returns-then-high-held : goal.returns-then-high-held
returns-then-high-held c = search sound_held

pub returns-then-not-unused_slots : goal.returns-then-not-unused_slots
returns-then-not-unused_slots c = search sound_unused

pub returns-in_default : goal.returns-in_default
returns-in_default c = search sound_broken

pub returns-then-tree-held : goal.returns-then-tree-held
returns-then-tree-held c = search sound_chain

pub returns-else-tree-held : goal.returns-else-tree-held
returns-else-tree-held c = search sound_counted
