-- A sound table passes the walks of the soundness test.
-- `walks_of_sound`: so it is.
use mathlib.Core.List.{List, ◌++◌}
use mathlib.Core.Path.{◌≡◌}
use mathlib.Core.Bool.{true}
use Prim.Native.Nat.{ℕ, ◌+◌, ◌-◌, ◌≤◌}
use native.Mathlib.Omega.{arith}
use lib.ListN.{length, length-append}
use borrow.Author.Tests.{le-leb, eq-eqb}
use Rattle.types.specs.declared.Limits.{Limits}
use Rattle.labels.specs.Neighbours.{none_below, none_above}
use Rattle.trees.specs.Trees.{slots}
use Rattle.trees.proofs.Counts.{occurrences_append, Exactly, exactly_of_test, occurs_inside}
use Rattle.trees.proofs.Sorted.{between_of_ascends}
use Rattle.trees.proofs.SlotCounts.{length_of_slots}
use Rattle.tables.specs.Words.{root_link, labels_held, first_free, high_mark}
use Rattle.tables.specs.Sound.{unused_slots, sound}
use Rattle.checks.specs.Check.{check_tree, check_chain, count_is, sound_by_walks}
use Rattle.trees.proofs.Passing.{and_true}
use Rattle.decides.proofs.OnceEach.{All, all_of_occurring, InRange}
use Rattle.tables.proofs.Reading.{tree_read, chain_read}
use Rattle.tables.proofs.Reading.{stands_when_read, follows_when_read}
use Rattle.tables.proofs.Clauses.{SoundRead, read_of_sound}
use Rattle.decides.proofs.TreeWalks.{walk_of_reading}
use Rattle.decides.proofs.FineTrees.{Fine, check_of_fine}
use Rattle.decides.proofs.ChainWalks.{check_of_chain}

-- The last part of a list that is exactly 1 to high lies within it.
last_in_range : {high : ℕ} (a b : List ℕ) → Exactly high (a ++ b) → All (InRange high) b
last_in_range a b exact =
    all_of_occurring b (λ k occurs.
    let inside = occurs_inside exact k (omega (arith, occurrences_append k a b)) in
    record { low = inside.0; high = inside.1 })

module _ (limits : Limits) (table store : List ℕ) (is : SoundRead limits table store) where
  -- The tree passes its walk.
  tree_passes : count_is (labels_held table) (check_tree limits table store limits.depth (root_link table) 0 0) ≡ true
  unfolding count_is
  tree_passes =
      let parts = is.parts in
      let stands = stands_when_read (tree_read limits table store limits.depth (root_link table)) is.tree_read in
      let fine : Fine limits table store none_below none_above is.tree = record {
        used = parts.used;
        between = between_of_ascends is.tree parts.ascending;
        balanced = parts.balanced;
        balances = parts.balances;
        prefixes = parts.prefixes;
      } in
      let found = check_of_fine limits table store stands none_below none_above fine in
      rw (walk_of_reading limits table store limits.depth (root_link table) 0 0, is.tree_read, found)
      (eq-eqb _ _ parts.held)

  -- The slots in the tree and freed are exactly those up to the high mark.
  allotted : Exactly (high_mark table) (slots is.tree ++ is.freed)
  allotted = exactly_of_test (high_mark table) (slots is.tree ++ is.freed) is.parts.allotted

  -- They number the high mark.
  total : labels_held table + length is.freed ≡ high_mark table
  total =
      omega (
        arith,
        allotted.counted,
        length-append (slots is.tree) is.freed,
        length_of_slots is.tree,
        is.parts.held,
      )

  -- The free chain passes its walk.
  chain_passes : check_chain limits table store (high_mark table - labels_held table) (first_free table) ≡ true
  chain_passes =
      let follows = follows_when_read (chain_read limits table limits.slots (first_free table)) is.chain_read in
      let ranged = last_in_range (slots is.tree) is.freed allotted in
      let rest : high_mark table - labels_held table ≡ length is.freed = omega (arith, total) in
      rw rest (check_of_chain limits table store follows is.parts.free ranged)

  -- Both pass, over an all-zero rest.
  walks_of_read : sound_by_walks limits table store ≡ true
  unfolding sound_by_walks
  walks_of_read =
      let parts = is.parts in
      let fewer : labels_held table ≤ high_mark table = omega (arith, total) in
      let unused : unused_slots limits table store (high_mark table) ≡ true =
      and_true (le-leb _ _ parts.within) (and_true parts.words_above parts.bytes_above) in
      and_true (le-leb _ _ fewer) (and_true unused (and_true tree_passes chain_passes))

-- A sound table passes the walks.
pub walks_of_sound : (limits : Limits) (table store : List ℕ) → sound limits table store ≡ true
    → sound_by_walks limits table store ≡ true
walks_of_sound limits table store passed = walks_of_read limits table store (read_of_sound limits table store passed)
