-- The soundness test by walks is soundness.
-- `sound_of_walks`: a table that passes the walks is sound.
-- `sound_by_walks_lem`: the two tests agree, on every table and store.
use mathlib.Core.List.{List}
use mathlib.Core.Path.{◌≡◌, refl, sym, ap, ◌∙◌}
use mathlib.Core.Bool.{true}
use Prim.Native.Nat.{ℕ, ◌-◌, ◌≤◌}
use native.Mathlib.Omega.{arith}
use lib.Dec.{leb}
use borrow.Author.Tests.{leb-true, eqb-true}
use Rattle.std.specs.Prelude.{Option, Some, None}
use Rattle.types.specs.declared.Limits.{Limits}
use Rattle.labels.specs.Neighbours.{none_below, none_above}
use Rattle.trees.specs.Trees.{Tree, size}
use Rattle.trees.proofs.Views.{both_true}
use Rattle.trees.proofs.Counts.{test_of_exactly}
use Rattle.trees.proofs.Sorted.{ascends_of_between}
use Rattle.tables.specs.Words.{root_link, labels_held, first_free, high_mark}
use Rattle.tables.specs.Sound.{Reading, reads, read_tree, unused_slots, sound}
use Rattle.checks.specs.Check.{check_tree, check_chain, count_is, sound_by_walks}
use Rattle.heights.specs.declared.Subtree.{Subtree}
use Rattle.trees.proofs.Passing.{false_not_true, same_tests}
use Rattle.tables.proofs.Reading.{Stands, TreeRead, no_tree, a_tree, tree_read}
use Rattle.tables.proofs.Reading.{read_when_follows}
use Rattle.tables.proofs.Clauses.{SoundRead, sound_of_read}
use Rattle.decides.proofs.SonTests.{unsound_not_sound}
use Rattle.decides.proofs.TreeWalks.{sound_as, check_reading, walk_of_reading}
use Rattle.decides.proofs.FineTrees.{Fine, fine_of_check}
use Rattle.decides.proofs.ChainWalks.{chain_of_check}
use Rattle.decides.proofs.AllottedSlots.{exactly_allotted}
use Rattle.decides.proofs.WalksPass.{walks_of_sound}

-- What counts n nodes is sound, with some height.
sound_of_count : (n : ℕ) (x : Option Subtree) → count_is n x ≡ true → (h : ℕ) × (x ≡ sound_as h n)
unfolding count_is
sound_of_count n None passed = false_not_true passed
sound_of_count n (Some s) passed = (s.height, ap (sound_as s.height) (eqb-true s.count n passed))

-- a fine tree of n nodes is read at a link
record FineRead (limits : Limits) (table store : List ℕ) (remaining link n : ℕ) : Type 0 where
  tree : Tree
  is_read : read_tree limits table store remaining link ≡ reads tree
  stands : Stands limits table store tree link
  fine : Fine limits table store none_below none_above tree
  many : n ≡ size tree

module _ (limits : Limits) (table store : List ℕ) where
  -- Where the walk over the tree passes, a fine tree is read.
  tree_of_walk : (remaining link n : ℕ) → count_is n (check_tree limits table store remaining link 0 0) ≡ true
      → FineRead limits table store remaining link n
  tree_of_walk remaining link n passed =
      go refl (tree_read limits table store remaining link)
      (sym (walk_of_reading limits table store remaining link 0 0) ∙ (sound_of_count n _ passed).1)
    where
      go : {x : Reading} {h : ℕ} → read_tree limits table store remaining link ≡ x → TreeRead limits table store link x
          → check_reading limits table store none_below none_above x ≡ sound_as h n
          → FineRead limits table store remaining link n
      go is no_tree found = unsound_not_sound found
      go is (a_tree {t} stands) found =
          let seen = fine_of_check limits table store stands none_below none_above found in
          record { tree = t; is_read = is; stands = stands; fine = seen.fine; many = seen.many }

  -- Where both walks pass, over an all-zero rest, a tree and a chain are read that pass the test.
  read_of_walks : unused_slots limits table store (high_mark table) ≡ true → labels_held table ≤ high_mark table
      → count_is (labels_held table) (check_tree limits table store limits.depth (root_link table) 0 0) ≡ true
      → check_chain limits table store (high_mark table - labels_held table) (first_free table) ≡ true
      → SoundRead limits table store
  read_of_walks unused fewer tree_passed chain_passed =
      let (within, above) = (both_true (leb (high_mark table) limits.slots) _).0 unused in
      let (words_above, bytes_above) = (both_true _ _).0 above in
      let fits : high_mark table ≤ limits.slots = leb-true _ _ within in
      let one = tree_of_walk limits.depth (root_link table) (labels_held table) tree_passed in
      let free = chain_of_check limits table store fits _ (first_free table) chain_passed in
      let many : size one.tree ≡ labels_held table = sym one.many in
      let exact =
      exactly_allotted limits table store one.stands one.fine.between one.fine.used free.follows
      free.free (high_mark table) words_above free.within (omega (arith, free.counted)) in
      record {
        tree = one.tree;
        freed = free.freed;
        tree_read = one.is_read;
        chain_read = read_when_follows free.follows limits.slots (omega (arith, free.counted));
        parts = record {
          used = one.fine.used;
          free = free.free;
          within = fits;
          words_above = words_above;
          bytes_above = bytes_above;
          held = many;
          room = omega arith;
          ascending = ascends_of_between one.tree one.fine.between;
          balanced = one.fine.balanced;
          balances = one.fine.balances;
          prefixes = one.fine.prefixes;
          allotted = test_of_exactly exact;
        };
      }

  -- A table that passes the walks is sound.
  pub sound_of_walks : sound_by_walks limits table store ≡ true → sound limits table store ≡ true
  unfolding sound_by_walks
  sound_of_walks passed =
      let (fewer, after_fewer) = (both_true (leb (labels_held table) (high_mark table)) _).0 passed in
      let (unused, walks) = (both_true (unused_slots limits table store (high_mark table)) _).0 after_fewer in
      let (tree_passed, chain_passed) = (both_true _ _).0 walks in
      sound_of_read limits table store (read_of_walks unused (leb-true _ _ fewer) tree_passed chain_passed)

  -- The test by walks is soundness.
  pub sound_by_walks_lem : sound_by_walks limits table store ≡ sound limits table store
  sound_by_walks_lem =
      same_tests (sound_by_walks limits table store) (sound limits table store) sound_of_walks
      (walks_of_sound limits table store)
