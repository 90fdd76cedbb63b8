-- Each label held after a roster has its line.
--     lines_of_sound      a sound table has a line for each node of its tree
--     fresh_is_sound      the fresh table is sound
--     prints_each_label   the claim
use mathlib.Core.Path.{◌≡◌, refl, ap}
use mathlib.Core.List.{List, [], ◌++◌}
use Prim.Native.Nat.{ℕ}
use borrow.Author.Tests.{eq-eqb}
use lib.ListN.{length}
use Rattle.types.specs.Sizes.{hub, table_length, store_length}
use Rattle.trees.specs.Trees.{entries}
use Rattle.tables.specs.Written.{Memory}
use Rattle.tables.specs.Sound.{state_of}
use Rattle.tables.specs.Claims.{Sound}
use Rattle.tables.proofs.Depths.{hub_depth}
use Rattle.rfc4180.specs.Rosters.{roster_outcome}
use Rattle.demands.proofs.SoundAfter.{sound_after}
use Rattle.demands.proofs.Hub.{hub_takes_rosters}
use Rattle.inputs.specs.Inputs.{fresh}
use Rattle.inputs.proofs.Fresh.{layout_is_fresh}
use Rattle.printouts.specs.Printouts.{answer_line, lines_for, label_lines, printout, PrintsEachLabel}

-- a sound table has a line for each node of its tree
pub lines_of_sound : (m : Memory) → Sound hub m
    → label_lines m ≡ lines_for (entries (state_of hub m.table m.store).tree)
unfolding label_lines
lines_of_sound m holds =
    rw (
      eq-eqb (length m.table) (table_length hub) holds.words,
      eq-eqb (length m.store) (store_length hub) holds.bytes,
      holds.so,
    )

-- the fresh table is sound
pub fresh_is_sound : Sound hub fresh
fresh_is_sound =
    rw (layout_is_fresh fresh.table fresh.store refl refl) at
    (sound_after hub hub_depth fresh.table fresh.store refl refl [])

-- the claim
pub prints_each_label : PrintsEachLabel
unfolding printout
prints_each_label text =
    let o = roster_outcome hub fresh.table fresh.store text in
    let holds = hub_takes_rosters.sound fresh fresh_is_sound text in
    ap (λ (lines : List ℕ). answer_line o.answer ++ lines) (lines_of_sound o.memory holds)
