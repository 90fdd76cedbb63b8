-- Listings of a valid state written out.
-- lists_ascending: a listing with room gives the slots of the labels, in ascending order.
use mathlib.Core.List.{List, ◌++◌}
use mathlib.Core.Path.{◌≡◌, ap, ◌∙◌}
use Prim.Native.Nat.{ℕ, ◌≤◌}
use lib.ListN.{length, drop}
use lib.Seq.{take_at, drop_at}
use borrow.Author.Tests.{le-ltb}
use Rattle.types.specs.declared.Limits.{Limits}
use Rattle.types.specs.Answers.{listed}
use Rattle.labels.specs.Neighbours.{none_below, none_above}
use Rattle.trees.specs.Trees.{slots, size}
use Rattle.trees.specs.Heights.{Deepest}
use Rattle.trees.specs.Plain.{State}
use Rattle.trees.specs.Valid.{Valid}
use Rattle.trees.proofs.MapLaws.{keys_of_map}
use Rattle.trees.proofs.SlotCounts.{length_of_slots}
use Rattle.tables.specs.Written.{written, written_table, written_store}
use Rattle.tables.specs.Outcomes.{listing_outcome}
use Rattle.tables.specs.MapClaims.{map_in, ListsAscending}
use Rattle.written.proofs.Rows.{count_of_written}
use Rattle.written.proofs.Slots.{written_represents}
use Rattle.written.proofs.Readings.{state_of_written}
use Rattle.written.proofs.Sounds.{sound_of_written}
use Rattle.written.proofs.Held.{height_within}
use Rattle.demands.proofs.Outcomes.{written_passes}
use Rattle.demands.proofs.LabelsRead.{labels_read}
use Rattle.demands.proofs.OnSound.{count_of_map, map_of_written}

module _ (limits : Limits) (deepest : Deepest limits.slots limits.depth)
    (s : State) (valid : Valid limits.slots limits.width s) (list : List ℕ) where
  -- A listing with room writes the slots in front of the list.
  listing_of_written : size s.tree ≤ length list
      → listing_outcome limits (written_table limits s) (written_store limits s) list
      ≡ record { answer = listed (size s.tree); list = slots s.tree ++ drop (size s.tree) list }
  unfolding listing_outcome
  listing_of_written room =
      rw (
        written_passes limits s,
        sound_of_written limits s valid (height_within limits deepest s valid),
        state_of_written limits s valid (height_within limits deepest s valid),
        count_of_written limits s,
        le-ltb (length list) (size s.tree) room,
        length_of_slots s.tree,
      )

  -- It gives their number, in ascending order of the labels; later words stay.
  pub lists_ascending : length (map_in limits (written limits s)) ≤ length list
      → ListsAscending limits (written limits s) list
  lists_ascending room =
      let map_out = map_of_written limits deepest s valid in
      let counted : length (map_in limits (written limits s)) ≡ size s.tree = ap length map_out ∙ count_of_map s in
      let outcome = listing_of_written (rw counted at room) in
      record {
        count = rw (outcome, counted);
        labels =
            rw (
              outcome,
              counted,
              take_at (slots s.tree) (drop (size s.tree) list) (size s.tree) (length_of_slots s.tree),
              map_out,
              keys_of_map,
            )
            (labels_read limits (written limits s) none_below none_above s.tree (written_represents limits s valid));
        ascending = rw (map_out, keys_of_map) valid.ascending;
        later =
            rw (outcome, counted)
            (drop_at (slots s.tree) (drop (size s.tree) list) (size s.tree) (length_of_slots s.tree));
      }
