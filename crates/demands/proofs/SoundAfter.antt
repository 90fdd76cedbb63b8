-- Every list of calls on what layout left leaves a sound table and store.
-- sound_after: so it is where the depth is the deepest that the slots allow. sound_stays: on any sound memory too.
use mathlib.Core.List.{List, [], ◌∷◌}
use mathlib.Core.Path.{◌≡◌}
use Prim.Native.Nat.{ℕ}
use lib.ListN.{length}
use Rattle.types.specs.declared.Limits.{Limits}
use Rattle.types.specs.Sizes.{table_length, store_length}
use Rattle.trees.specs.Heights.{Deepest}
use Rattle.trees.specs.Plain.{State, fresh, Call, plain_step}
use Rattle.trees.specs.Valid.{Valid}
use Rattle.trees.proofs.ValidSteps.{valid_fresh, valid_after}
use Rattle.tables.specs.Written.{Memory, written}
use Rattle.tables.specs.Outcomes.{layout_outcome}
use Rattle.tables.specs.Claims.{Sound, after_list}
use Rattle.demands.proofs.Fresh.{laid_out_is_fresh}
use Rattle.demands.proofs.CostRule.{call_agrees}
use Rattle.demands.proofs.OnSound.{of_sound, sound_out}

module _ (limits : Limits) (deepest : Deepest limits.slots limits.depth) where
  -- Calls on a valid state written out leave a sound table and store.
  sound_from : (calls : List Call) (s : State) → Valid limits.slots limits.width s
      → Sound limits (after_list limits calls (written limits s))
  sound_from [] s valid = sound_out limits deepest s valid
  sound_from (c ∷ calls) s valid =
      rw (call_agrees limits deepest s valid c).memory
      (sound_from calls (plain_step limits.slots limits.width c s).state
      (valid_after limits.slots limits.width s valid c))

  -- Every list of calls on what layout left leaves a sound table and store.
  pub sound_after : (table store : List ℕ) → length table ≡ table_length limits → length store ≡ store_length limits
      → (calls : List Call) → Sound limits (after_list limits calls (layout_outcome limits table store).memory)
  sound_after table store words bytes calls =
      rw (laid_out_is_fresh limits table store words bytes)
      (sound_from calls fresh (valid_fresh limits.slots limits.width))

  -- Every list of calls on a sound table and store leaves them sound.
  pub sound_stays : (calls : List Call) (m : Memory) → Sound limits m → Sound limits (after_list limits calls m)
  sound_stays calls =
      of_sound limits deepest (λ m. Sound limits (after_list limits calls m)) (λ s valid. sound_from calls s valid)
