-- The file of a sound table, by its links.
-- `file_of_sound`: it is the file of the map that the table holds.
use mathlib.Core.List.{List, ◌∷◌, ◌++◌, map, map-append}
use mathlib.Core.Bool.{true}
use mathlib.Core.Path.{◌≡◌, refl, sym, ap, ap₂, ◌∙◌}
use Prim.Native.Nat.{ℕ}
use lib.ListN.{length, length-map}
use Rattle.types.specs.declared.Limits.{Limits}
use Rattle.labels.proofs.Clashes.{clash}
use Rattle.trees.specs.Trees.{Entry, Tree, slots}
use Rattle.trees.specs.Map.{Pair, pair_of, map_of}
use Rattle.trees.proofs.Entries.{mapped_node}
use Rattle.tables.specs.Words.{root_link, labels_held, high_mark, entry_at}
use Rattle.tables.specs.Sound.{Reading, unreadable, reads, read_tree, Chain, endless, chain}
use Rattle.tables.specs.Sound.{sound_reading, sound, state_read, state_of}
use Rattle.tables.proofs.Reading.{Stands, stands_none, stands_node, tree_read, stands_when_read}
use Rattle.files.specs.Groups.{groups_of}
use Rattle.files.specs.Files.{entries_of, file_of}
use Rattle.files.specs.Saves.{file_in}
use Rattle.lists.specs.Listed.{slots_listed}
use Rattle.lists.proofs.SoundLists.{slots_of_sound}
use Rattle.saves.specs.Saved.{pair_in_slot, entries_from, file_from}

module _ (limits : Limits) (table store : List ℕ) where
  -- the pair in a slot
  abbrev pair_in : ℕ → Pair
  pair_in = pair_in_slot limits table store

  -- The slots of a tree that stands in the table hold its pairs.
  pairs_standing : {t : Tree} {link : ℕ} → Stands limits table store t link → map pair_in (slots t) ≡ map_of t
  pairs_standing stands_none = refl
  pairs_standing (stands_node {k} {l} {r} low up of_l of_r) =
      let e = entry_at limits table store k in
      ap (map pair_in) (mapped_node (λ (x : Entry). x.slot) l e r)
      ∙ map-append pair_in (slots l) (k ∷ slots r)
      ∙ ap₂ ◌++◌ (pairs_standing of_l) (ap (λ (more : List Pair). pair_of e ∷ more) (pairs_standing of_r))
      ∙ sym (mapped_node pair_of l e r)

  -- So do those of the tree that a sound table holds, by what the links give.
  pairs_by_reading : (reading : Reading) (free : Chain)
      → read_tree limits table store limits.depth (root_link table) ≡ reading
      → sound_reading limits table store reading free ≡ true
      → map pair_in (slots (state_read reading free (high_mark table)).tree)
      ≡ map_of (state_read reading free (high_mark table)).tree
  pairs_by_reading unreadable free is holds = clash cc
  pairs_by_reading (reads t) endless is holds = clash cc
  pairs_by_reading (reads t) (chain freed) is holds =
      pairs_standing (stands_when_read (tree_read limits table store limits.depth (root_link table)) is)

  -- the tree that the table holds
  abbrev tree : Tree
  tree = (state_of limits table store).tree

  pairs_of_sound : sound limits table store ≡ true → map pair_in (slots tree) ≡ map_of tree
  unfolding sound state_of
  pairs_of_sound holds = pairs_by_reading _ _ refl holds

  -- It is the file of the map that the table holds.
  pub file_of_sound : sound limits table store ≡ true
      → file_from limits table store ≡ file_in limits (record { table = table; store = store })
  unfolding file_from entries_from file_of
  file_of_sound holds =
      let listed = slots_of_sound limits table store holds in
      let pairs = ap (map pair_in) listed.slots ∙ pairs_of_sound holds in
      let count : labels_held table ≡ length (map_of tree) =
      sym listed.count ∙ sym (length-map (slots_listed limits table) pair_in) ∙ ap length pairs in
      ap₂ ◌++◌ (ap groups_of count) (ap entries_of pairs)
