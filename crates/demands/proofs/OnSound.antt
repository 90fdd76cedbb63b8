-- Sound tables and stores, as valid states written out.
-- count_of_map: there are as many pairs in a tree's map as nodes in the tree.
-- of_sound: what is so of every valid state written out is so of every sound table and store.
-- sound_out, map_of_written: a valid state written out is sound, and holds the map of its tree.
use mathlib.Core.Path.{◌≡◌, refl, sym, ap, subst, ◌∙◌}
use lib.ListN.{length, length-map}
use Rattle.types.specs.declared.Limits.{Limits}
use Rattle.trees.specs.Trees.{entries, size}
use Rattle.trees.specs.Heights.{Deepest}
use Rattle.trees.specs.Plain.{State}
use Rattle.trees.specs.Map.{pair_of, map_of}
use Rattle.trees.specs.Valid.{Valid}
use Rattle.trees.proofs.Entries.{length_of_entries}
use Rattle.tables.specs.Written.{Memory, written}
use Rattle.tables.specs.Claims.{Sound}
use Rattle.tables.specs.MapClaims.{map_in}
use Rattle.written.proofs.Held.{height_within, sound_of_held, state_of_held}
use Rattle.sounds.proofs.SoundIsWritten.{sound_is_written}

-- There are as many pairs in the map as nodes in the tree.
pub count_of_map : (s : State) → length (map_of s.tree) ≡ size s.tree
count_of_map s = length-map (entries s.tree) pair_of ∙ length_of_entries s.tree

module _ (limits : Limits) (deepest : Deepest limits.slots limits.depth) where
  -- What is so of every valid state written out is so of every sound table and store.
  pub of_sound : (P : Memory → Type 0) → ((s : State) → Valid limits.slots limits.width s → P (written limits s))
      → (m : Memory) → Sound limits m → P m
  of_sound P of_written m sound =
      let held = (sound_is_written limits deepest).holds m sound in
      subst P (sym held.out) (of_written _ held.valid)

  module _ (s : State) (valid : Valid limits.slots limits.width s) where
    -- A valid state written out is sound.
    pub sound_out : Sound limits (written limits s)
    sound_out =
        sound_of_held limits (written limits s) s (record { valid = valid; out = refl })
        (height_within limits deepest s valid)

    -- It holds the map of the state's tree.
    pub map_of_written : map_in limits (written limits s) ≡ map_of s.tree
    map_of_written =
        ap (λ (state : State). map_of state.tree)
        (state_of_held limits (written limits s) s (record { valid = valid; out = refl })
        (height_within limits deepest s valid))
