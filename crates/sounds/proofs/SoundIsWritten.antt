-- The claim on sound tables: the sound tables and stores are exactly the written-out valid plain trees.
-- sound_is_written: so it is where the depth is the deepest that the slots allow.
use Rattle.types.specs.declared.Limits.{Limits}
use Rattle.trees.specs.Heights.{Deepest}
use Rattle.tables.specs.Claims.{SoundIsWritten}
use Rattle.written.proofs.Held.{height_within, sound_of_held, state_of_held}
use Rattle.sounds.proofs.Holds.{holds}

-- The sound tables and stores are exactly the written-out valid plain trees.
pub sound_is_written : (limits : Limits) → Deepest limits.slots limits.depth → SoundIsWritten limits
sound_is_written limits deepest = record {
  holds = holds limits;
  sounds = λ m s held. sound_of_held limits m s held (height_within limits deepest s held.valid);
  reads = λ m s held. state_of_held limits m s held (height_within limits deepest s held.valid);
}
