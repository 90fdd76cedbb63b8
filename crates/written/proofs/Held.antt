-- A memory that holds a valid state, written out: it is sound, and the state is read back.
-- `height_within`: a valid state is no higher than the depth, where that is the deepest that the slots allow.
-- `sound_of_held`, `state_of_held`: what holds a valid state no higher than the depth is sound, and reads as it.
use mathlib.Core.Path.{◌≡◌}
use Prim.Native.Nat.{◌≤◌}
use Rattle.types.specs.declared.Limits.{Limits}
use Rattle.trees.specs.Heights.{height, Deepest}
use Rattle.trees.specs.Plain.{State}
use Rattle.trees.specs.Valid.{Valid}
use Rattle.trees.proofs.Sizes.{deepest_is_depth}
use Rattle.tables.specs.Written.{Memory}
use Rattle.tables.specs.Sound.{state_of}
use Rattle.tables.specs.Claims.{Sound, Holds}
use Rattle.written.proofs.Rows.{length_of_written_table}
use Rattle.written.proofs.Parts.{length_of_written_store}
use Rattle.written.proofs.Readings.{size_within, state_of_written}
use Rattle.written.proofs.Sounds.{sound_of_written}

module _ (limits : Limits) where
  -- A valid state is no higher than the depth, where that is the deepest that the slots allow.
  pub height_within : Deepest limits.slots limits.depth → (s : State) → Valid limits.slots limits.width s
      → height s.tree ≤ limits.depth
  height_within deepest s valid =
      (deepest_is_depth limits.slots limits.depth deepest).bound s.tree valid.balanced
      (size_within limits s valid)

  module _ (m : Memory) (s : State) (holds : Holds limits m s) (shallow : height s.tree ≤ limits.depth) where
    -- What holds a valid state is sound.
    pub sound_of_held : Sound limits m
    sound_of_held =
        rw holds.out
        (record {
          words = length_of_written_table limits s;
          bytes = length_of_written_store limits s;
          so = sound_of_written limits s holds.valid shallow;
        })

    -- What holds a valid state is read as that state.
    pub state_of_held : state_of limits m.table m.store ≡ s
    state_of_held = rw holds.out (state_of_written limits s holds.valid shallow)
