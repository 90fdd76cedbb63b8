-- The soundness test, taken apart into what each part of it says.
-- SoundParts, parts_of_test, test_of_parts: what the test says of the whole.
-- SoundRead, read_of_sound, sound_of_read: what soundness says: that a tree and a chain are read and pass the test.
-- UsedSlot, used_of_test: what it says of a slot in use. FreedSlot, freed_of_test: what it says of a freed slot.
use mathlib.Core.List.{List, ◌∷◌, ◌++◌}
use mathlib.Core.Path.{◌≡◌, refl}
use mathlib.Core.Bool.{true, ◌&&◌}
use Prim.Native.Nat.{ℕ, ◌+◌, ◌*◌, ◌≤◌}
use lib.ListN.{drop}
use borrow.Author.Tests.{leb-true, le-leb, eqb-true, eq-eqb}
use Rattle.types.specs.declared.Limits.{Limits}
use Rattle.labels.specs.Neighbours.{none_below, none_above}
use Rattle.trees.specs.Trees.{Tree, labels, slots, size}
use Rattle.trees.specs.Charges.{is_charge}
use Rattle.trees.specs.Heights.{is_balanced}
use Rattle.trees.specs.Valid.{ascends, exactly_up_to}
use Rattle.trees.proofs.Views.{both_true}
use Rattle.tables.specs.Words.{root_link, labels_held, first_free, high_mark, row_at, part_at}
use Rattle.tables.specs.Sound.{Reading, unreadable, reads, read_tree, Chain, endless, chain, read_chain}
use Rattle.tables.specs.Sound.{all_zero, used_slot, used_slots, zero_besides_left, freed_slots}
use Rattle.tables.specs.Sound.{true_balances, true_prefixes}
use Rattle.tables.specs.Sound.{words_and_bytes, counted, sound_as, sound_reading, sound}
use Rattle.trees.proofs.Passing.{and_true, false_not_true}

-- what the soundness test says of the tree and the chain that were read
pub record SoundParts (limits : Limits) (table store : List ℕ) (t : Tree) (freed : List ℕ) : Type 0 where
  pub used : used_slots limits table store t ≡ true
  pub free : freed_slots limits table store freed ≡ true
  pub within : high_mark table ≤ limits.slots
  pub words_above : all_zero (drop (4 + 8 * high_mark table) table) ≡ true
  pub bytes_above : all_zero (drop (limits.width * high_mark table) store) ≡ true
  pub held : size t ≡ labels_held table
  pub room : size t ≤ limits.slots
  pub ascending : ascends (labels t) ≡ true
  pub balanced : is_balanced t ≡ true
  pub balances : true_balances table t ≡ true
  pub prefixes : true_prefixes table none_below none_above t ≡ true
  pub allotted : exactly_up_to (high_mark table) (slots t ++ freed) ≡ true

-- A passed test says each of its parts.
pub parts_of_test : {limits : Limits} {table store : List ℕ} {t : Tree} {freed : List ℕ}
    → sound_as limits table store t freed ≡ true → SoundParts limits table store t freed
unfolding sound_as words_and_bytes counted
parts_of_test passed =
    let (laid, after_laid) = (both_true _ _).0 passed in
    let (used, after_used) = (both_true _ _).0 laid in
    let (free, unused) = (both_true _ _).0 after_used in
    let (within, above) = (both_true _ _).0 unused in
    let (words_above, bytes_above) = (both_true _ _).0 above in
    let (number, after_number) = (both_true _ _).0 after_laid in
    let (held, room) = (both_true _ _).0 number in
    let (ascending, after_ascending) = (both_true _ _).0 after_number in
    let (heights, after_heights) = (both_true _ _).0 after_ascending in
    let (balanced, balances) = (both_true _ _).0 heights in
    let (prefixes, allotted) = (both_true _ _).0 after_heights in
    record {
      used = used;
      free = free;
      within = leb-true _ _ within;
      words_above = words_above;
      bytes_above = bytes_above;
      held = eqb-true _ _ held;
      room = leb-true _ _ room;
      ascending = ascending;
      balanced = balanced;
      balances = balances;
      prefixes = prefixes;
      allotted = allotted;
    }

-- What keeps each part passes the test.
pub test_of_parts : {limits : Limits} {table store : List ℕ} {t : Tree} {freed : List ℕ}
    → SoundParts limits table store t freed → sound_as limits table store t freed ≡ true
unfolding sound_as words_and_bytes counted
test_of_parts parts =
    and_true
    (and_true parts.used
    (and_true parts.free
    (and_true (le-leb _ _ parts.within) (and_true parts.words_above parts.bytes_above))))
    (and_true (and_true (eq-eqb _ _ parts.held) (le-leb _ _ parts.room))
    (and_true parts.ascending
    (and_true (and_true parts.balanced parts.balances) (and_true parts.prefixes parts.allotted))))

-- a tree and a chain are read at the table's links, and pass the test
pub record SoundRead (limits : Limits) (table store : List ℕ) : Type 0 where
  pub tree : Tree
  pub freed : List ℕ
  pub tree_read : read_tree limits table store limits.depth (root_link table) ≡ reads tree
  pub chain_read : read_chain limits table limits.slots (first_free table) ≡ chain freed
  pub parts : SoundParts limits table store tree freed

module _ (limits : Limits) (table store : List ℕ) where
  -- In a sound table a tree and a chain are read, and pass the test.
  pub read_of_sound : sound limits table store ≡ true → SoundRead limits table store
  unfolding sound
  read_of_sound =
      go (read_tree limits table store limits.depth (root_link table)) refl
      (read_chain limits table limits.slots (first_free table)) refl
    where
      go : (x : Reading) → read_tree limits table store limits.depth (root_link table) ≡ x
          → (y : Chain) → read_chain limits table limits.slots (first_free table) ≡ y
          → sound_reading limits table store x y ≡ true → SoundRead limits table store
      go unreadable tree_is y chain_is passed = false_not_true passed
      go (reads t) tree_is endless chain_is passed = false_not_true passed
      go (reads t) tree_is (chain freed) chain_is passed = record {
        tree = t;
        freed = freed;
        tree_read = tree_is;
        chain_read = chain_is;
        parts = parts_of_test passed;
      }

  -- A table in which a tree and a chain are read that pass the test is sound.
  pub sound_of_read : SoundRead limits table store → sound limits table store ≡ true
  unfolding sound
  sound_of_read is = rw (is.tree_read, is.chain_read) (test_of_parts is.parts)

-- what the test of a slot in use says
pub record UsedSlot (limits : Limits) (table store : List ℕ) (k : ℕ) : Type 0 where
  pub some : 1 ≤ (row_at table k).len
  pub short : (row_at table k).len ≤ limits.width
  pub charge : is_charge (row_at table k).charge ≡ true
  pub zeros : all_zero (drop (row_at table k).len (part_at limits store k)) ≡ true

-- A passed test of a slot in use says each of its parts.
pub used_of_test : {limits : Limits} {table store : List ℕ} {k : ℕ}
    → used_slot limits table store k ≡ true → UsedSlot limits table store k
used_of_test passed =
    let (some, after_some) = (both_true _ _).0 passed in
    let (short, after_short) = (both_true _ _).0 after_some in
    let (charge, zeros) = (both_true _ _).0 after_short in
    record { some = leb-true _ _ some; short = leb-true _ _ short; charge = charge; zeros = zeros }

-- what the test of a freed slot and those after it says
pub record FreedSlot (limits : Limits) (table store : List ℕ) (k : ℕ) (more : List ℕ) : Type 0 where
  pub words : zero_besides_left (row_at table k) ≡ true
  pub bytes : all_zero (part_at limits store k) ≡ true
  pub others : freed_slots limits table store more ≡ true

-- A passed test of freed slots says the parts for the first of them.
pub freed_of_test : (limits : Limits) (table store : List ℕ) (k : ℕ) (more : List ℕ)
    → freed_slots limits table store (k ∷ more) ≡ true → FreedSlot limits table store k more
freed_of_test limits table store k more passed =
    let part = all_zero (part_at limits store k) in
    let rest = freed_slots limits table store more in
    let (words, after_words) = (both_true (zero_besides_left (row_at table k)) (part && rest)).0 passed in
    let (bytes, others) = (both_true part rest).0 after_words in
    record { words = words; bytes = bytes; others = others }
