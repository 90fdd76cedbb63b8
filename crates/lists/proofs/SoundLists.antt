-- The slots of a sound table.
-- `slots_of_reading`: the tree that the links give has the slots that the walk lists.
-- `slots_of_sound`: so has a sound table's tree, and they are as many as the labels held.
use mathlib.Core.List.{List, [], ◌∷◌, ◌++◌}
use mathlib.Core.Bool.{Bool, true, false, ◌&&◌}
use mathlib.Core.Path.{◌≡◌, refl, sym, ap, ◌∙◌}
use Prim.Native.Nat.{ℕ, zero, suc}
use lib.Dec.{ltb}
use lib.ListN.{length}
use borrow.Author.Tests.{eqb-true}
use Rattle.types.specs.declared.Limits.{Limits}
use Rattle.trees.specs.Trees as trees
use Rattle.trees.specs.Trees.{Entry, Tree, slots}
use Rattle.trees.proofs.Entries.{mapped_node}
use Rattle.trees.proofs.SlotCounts.{length_of_slots}
use Rattle.tables.specs.Words.{root_link, labels_held, high_mark, row_at, entry_at}
use Rattle.tables.specs.Sound.{Reading, unreadable, reads, read_node, read_tree, Chain, endless, chain}
use Rattle.tables.specs.Sound.{words_and_bytes, counted, sound_as, sound_reading, sound, state_read, state_of}
use Rattle.lists.specs.Listed.{slots_from}
use Rattle.labels.proofs.Clashes.{clash}

-- the slots of what was read
abbrev slots_read : Reading → List ℕ
slots_read unreadable = []
slots_read (reads t) = slots t

-- nothing that is unreadable is a tree
not_readable : {A : Type 0} (t : Tree) → unreadable ≡ reads t → A
not_readable t e = clash cc

-- the slots over two sons that were read
slots_over : (b : Bool) (l r : Reading) (e : Entry) (t : Tree) (near far : List ℕ)
    → ((u : Tree) → l ≡ reads u → near ≡ slots u) → ((u : Tree) → r ≡ reads u → far ≡ slots u)
    → elim b [ true ↦ unreadable | false ↦ read_node l e r ] ≡ reads t
    → elim b [ true ↦ [] | false ↦ near ++ (e.slot ∷ far) ] ≡ slots t
slots_over true l r e t near far p q is = not_readable t is
slots_over false unreadable r e t near far p q is = not_readable t is
slots_over false (reads l) unreadable e t near far p q is = not_readable t is
slots_over false (reads l) (reads r) e t near far p q is =
    rw (p l refl, q r refl) (sym (mapped_node (λ (x : Entry). x.slot) l e r) ∙ ap slots_read is)

module _ (limits : Limits) (table store : List ℕ) where
  pub slots_of_reading : (remaining link : ℕ) (t : Tree) → read_tree limits table store remaining link ≡ reads t
      → slots_from limits table remaining link ≡ slots t
  unfolding slots_from
  slots_of_reading zero zero t is = ap slots_read is
  slots_of_reading zero (suc k) t is = not_readable t is
  slots_of_reading (suc remaining) zero t is = ap slots_read is
  slots_of_reading (suc remaining) (suc k) t is =
      slots_over (ltb limits.slots (suc k))
      (read_tree limits table store remaining (row_at table (suc k)).left)
      (read_tree limits table store remaining (row_at table (suc k)).right)
      (entry_at limits table store (suc k)) t
      (slots_from limits table remaining (row_at table (suc k)).left)
      (slots_from limits table remaining (row_at table (suc k)).right)
      (slots_of_reading remaining _) (slots_of_reading remaining _) is

-- the walk from the root lists the slots of a tree, as many as the labels held
pub record SlotsAre (limits : Limits) (table : List ℕ) (t : Tree) : Type 0 where
  pub slots : slots_from limits table limits.depth (root_link table) ≡ trees.slots t
  pub count : length (slots_from limits table limits.depth (root_link table)) ≡ labels_held table

-- a test of two that holds
both_hold : (a b : Bool) → (a && b) ≡ true → (a ≡ true) × (b ≡ true)
both_hold true b e = (refl, e)
both_hold false b e = clash cc

module _ (limits : Limits) (table store : List ℕ) where
  -- the tree of a sound table has as many nodes as labels are held
  slots_counted : (t : Tree) (freed : List ℕ) → sound_as limits table store t freed ≡ true
      → length (slots t) ≡ labels_held table
  unfolding sound_as counted
  slots_counted t freed is =
      let rest = (both_hold (words_and_bytes limits table store t freed) _ is).1 in
      let count = (both_hold _ _ (both_hold (counted limits table t) _ rest).0).0 in
      length_of_slots t ∙ eqb-true _ _ count

  -- by what the links give
  slots_by_reading : (reading : Reading) (free : Chain)
      → read_tree limits table store limits.depth (root_link table) ≡ reading
      → sound_reading limits table store reading free ≡ true
      → SlotsAre limits table (state_read reading free (high_mark table)).tree
  slots_by_reading unreadable free is holds = clash cc
  slots_by_reading (reads t) endless is holds = clash cc
  slots_by_reading (reads t) (chain freed) is holds =
      let same = slots_of_reading limits table store limits.depth (root_link table) t is in
      record { slots = same; count = ap length same ∙ slots_counted t freed holds }

  pub slots_of_sound : sound limits table store ≡ true → SlotsAre limits table (state_of limits table store).tree
  unfolding sound state_of
  slots_of_sound holds = slots_by_reading (read_tree limits table store limits.depth (root_link table)) _ refl holds
