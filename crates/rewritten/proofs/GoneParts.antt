-- The store where a node was found and its bytes are cleared.
-- written_parts: its parts are those of the plain tree's next state.
use mathlib.Core.List.{List, [], ◌∷◌}
use mathlib.Core.Path.{◌≡◌, ◌∙◌}
use mathlib.Core.Logic.{◌≢◌}
use Prim.Native.Nat.{ℕ, ◌≤◌}
use native.Mathlib.Decide.{ℕ_discrete}
use Rattle.types.specs.declared.Limits.{Limits}
use Rattle.labels.specs.Labels.{Label}
use Rattle.trees.specs.Trees.{Entry, entries, slots}
use Rattle.trees.specs.Searches.{found, full_search}
use Rattle.trees.specs.Updates.{deleted}
use Rattle.trees.specs.Plain.{State}
use Rattle.trees.specs.Valid.{Valid, occurrences}
use Rattle.trees.proofs.SetIn.{found_is_set_in}
use Rattle.tables.specs.Words.{part_at}
use Rattle.tables.specs.Written.{written_store}
use Rattle.slots.specs.Slots.{without_label}
use Rattle.rewritten.proofs.FromParts.{Each, each_append, each_split, each_map, PartIs}
use Rattle.rewritten.proofs.FromParts.{WrittenParts, parts_of_written}
use Rattle.rewritten.proofs.Freed.{length_cleared, part_cleared, part_past_cleared}
use Rattle.rewritten.proofs.Gone.{after_gone, GoneSlot, gone_slot}

module _ (limits : Limits) (s : State) (x : Label) (e : Entry) (valid : Valid limits.slots limits.width s)
    (there : (full_search x s.tree).result ≡ found e) where
  abbrev store : List ℕ
  store = written_store limits s

  abbrev cleared : List ℕ
  cleared = without_label limits store e.slot

  before : WrittenParts limits store s
  before = parts_of_written limits s valid

  gone : GoneSlot limits.slots s.tree (deleted x s.tree) e.slot
  gone = gone_slot limits s x e valid there

  -- The parts of the next tree's nodes were theirs before.
  parts_kept : Each (PartIs limits store) (entries (deleted x s.tree))
  parts_kept =
      let set = found_is_set_in x s.tree there in
      let parts = rw set.having at before.tree_parts in
      let both = each_split (PartIs limits store) set.first (e ∷ set.last) parts in
      rw set.lacking (each_append (PartIs limits store) set.first set.last both.0 both.1.1)

  -- The parts of the other slots stay.
  part_stays : (k : ℕ) → 1 ≤ k → k ≢ e.slot → part_at limits cleared k ≡ part_at limits store k
  part_stays = part_past_cleared limits store before.long e.slot gone.low gone.up

  -- A slot that is in no node has no bytes.
  part_elsewhere : (k : ℕ) → 1 ≤ k → k ≤ limits.slots → occurrences k (slots (deleted x s.tree)) ≡ 0
      → Dec (k ≡ e.slot) → PartIs limits cleared k []
  part_elsewhere k low up none (yes same) =
      rw same (part_cleared limits store before.long e.slot gone.low gone.up)
  part_elsewhere k low up none (no apart) =
      part_stays k low apart ∙ before.other_parts k low up (gone.none_before k apart none)

  -- The parts are those of the plain tree's next state.
  pub written_parts : WrittenParts limits (without_label limits (written_store limits s) e.slot) (after_gone s x e)
  written_parts = record {
    long = length_cleared limits store e.slot ∙ before.long;
    tree_parts = each_map (PartIs limits store) (PartIs limits cleared) (entries (deleted x s.tree))
        (λ k y occurs part. part_stays k (gone.others_low k occurs) (gone.apart k occurs) ∙ part) parts_kept;
    other_parts = λ k low up none. part_elsewhere k low up none (ℕ_discrete k e.slot);
  }
