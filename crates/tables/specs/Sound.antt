-- Soundness ('The prefix fields' of document 01, its last sentence), over a table and a store of any content.
-- The links are read as a tree and a chain; each part of the sentence is a test of what was read.
use Rattle.std.specs.Prelude.{List, [], ◌∷◌, ◌++◌, Bool, true, false, ◌&&◌, ℕ, zero, suc, ◌+◌, ◌*◌, eqb, ltb, leb, drop}
use Rattle.types.specs.declared.Limits.{Limits}
use Rattle.types.specs.declared.Row.{Row}
use Rattle.labels.specs.Neighbours.{Neighbour, none_below, held, none_above}
use Rattle.trees.specs.Trees.{Entry, Tree, empty, node, labels, slots, size}
use Rattle.trees.specs.Charges.{is_charge}
use Rattle.trees.specs.Heights.{height, is_balanced}
use Rattle.trees.specs.Plain.{State, fresh}
use Rattle.trees.specs.Valid.{ascends, exactly_up_to}
use Rattle.tables.specs.Words.{root_link, labels_held, first_free, high_mark, row_at, part_at, entry_at}
use Rattle.tables.specs.Prefix.{place_within, side_within, balance_of}

-- ---- what the links give

pub data Reading : Type 0 where
  unreadable : Reading
  reads : Tree → Reading

abbrev pub read_node : Reading → Entry → Reading → Reading
read_node unreadable e r = unreadable
read_node (reads l) e unreadable = unreadable
read_node (reads l) e (reads r) = reads (node l e r)

-- the tree at a link, at most left nodes deep
abbrev pub read_tree : Limits → (table store : List ℕ) → (left link : ℕ) → Reading
read_tree limits table store zero zero = reads empty
read_tree limits table store zero (suc k) = unreadable
read_tree limits table store (suc left) zero = reads empty
read_tree limits table store (suc left) (suc k) =
    elim (ltb limits.slots (suc k)) [
      | true ↦ unreadable
      | false ↦ read_node
          (read_tree limits table store left (row_at table (suc k)).left)
          (entry_at limits table store (suc k))
          (read_tree limits table store left (row_at table (suc k)).right)
    ]

pub data Chain : Type 0 where
  endless : Chain
  chain : List ℕ → Chain

abbrev pub linked_to : ℕ → Chain → Chain
linked_to k endless = endless
linked_to k (chain more) = chain (k ∷ more)

-- the free chain at a link, at most left slots long
abbrev pub read_chain : Limits → (table : List ℕ) → (left link : ℕ) → Chain
read_chain limits table zero zero = chain []
read_chain limits table zero (suc k) = endless
read_chain limits table (suc left) zero = chain []
read_chain limits table (suc left) (suc k) =
    elim (ltb limits.slots (suc k)) [
      | true ↦ endless
      | false ↦ linked_to (suc k) (read_chain limits table left (row_at table (suc k)).left)
    ]

-- ---- "all words and bytes are as laid out above"

abbrev pub all_zero : List ℕ → Bool
all_zero [] = true
all_zero (n ∷ more) = eqb n 0 && all_zero more

-- a slot in use: a length of 1 to 64; word 7 a charge, "The soundness check demands it" (M-109 of document 02); "zeros
-- after the label's end"
abbrev pub used_slot : Limits → (table store : List ℕ) → ℕ → Bool
used_slot limits table store k =
    leb 1 (row_at table k).len
    && (leb (row_at table k).len limits.width
    && (is_charge (row_at table k).charge && all_zero (drop (row_at table k).len (part_at limits store k))))

abbrev pub used_slots : Limits → (table store : List ℕ) → Tree → Bool
used_slots limits table store empty = true
used_slots limits table store (node l e r) =
    used_slot limits table store e.slot && (used_slots limits table store l && used_slots limits table store r)

-- all words of a row but word 0
abbrev pub zero_besides_left : Row → Bool
zero_besides_left row =
    all_zero (row.right ∷ row.place ∷ row.side ∷ row.balance ∷ row.len ∷ row.value ∷ row.charge ∷ [])

-- "A freed slot has all words 0 but word 0, the next free link; its 64 bytes are zero."
abbrev pub freed_slots : Limits → (table store : List ℕ) → List ℕ → Bool
freed_slots limits table store [] = true
freed_slots limits table store (k ∷ more) =
    zero_besides_left (row_at table k) && (all_zero (part_at limits store k) && freed_slots limits table store more)

-- "Slots above the high mark are all zero." The high mark is "at most 512".
abbrev pub unused_slots : Limits → (table store : List ℕ) → (high : ℕ) → Bool
unused_slots limits table store high =
    leb high limits.slots && (all_zero (drop (4 + 8 * high) table) && all_zero (drop (limits.width * high) store))

unfoldable pub words_and_bytes : Limits → (table store : List ℕ) → Tree → List ℕ → Bool
words_and_bytes limits table store t freed =
    used_slots limits table store t
    && (freed_slots limits table store freed && unused_slots limits table store (high_mark table))

-- ---- "the reached nodes number the labels held, at most 512"

unfoldable pub counted : Limits → (table : List ℕ) → Tree → Bool
counted limits table t = eqb (size t) (labels_held table) && leb (size t) limits.slots

-- ---- "labels ascend strictly from left to right": ascends (labels t)

-- ---- "every node keeps the height rule and balances are the true ones": is_balanced t, and

abbrev pub true_balances : (table : List ℕ) → Tree → Bool
true_balances table empty = true
true_balances table (node l e r) =
    eqb (row_at table e.slot).balance (balance_of (height l) (height r))
    && (true_balances table l && true_balances table r)

-- ---- "place and side are as defined"

abbrev pub true_prefixes : (table : List ℕ) → Neighbour → Neighbour → Tree → Bool
true_prefixes table p s empty = true
true_prefixes table p s (node l e r) =
    eqb (row_at table e.slot).place (place_within p e.label s)
    && (eqb (row_at table e.slot).side (side_within p e.label s)
    && (true_prefixes table p (held e.label) l && true_prefixes table (held e.label) s r))

-- ---- "the free chain holds exactly the other slots up to the high mark":
-- ---- exactly_up_to (high_mark table) (slots t ++ freed)

-- the parts of the sentence, in its order
unfoldable pub sound_as : Limits → (table store : List ℕ) → Tree → List ℕ → Bool
sound_as limits table store t freed =
    words_and_bytes limits table store t freed
    && (counted limits table t
    && (ascends (labels t)
    && ((is_balanced t && true_balances table t)
    && (true_prefixes table none_below none_above t && exactly_up_to (high_mark table) (slots t ++ freed)))))

abbrev pub sound_reading : Limits → (table store : List ℕ) → Reading → Chain → Bool
sound_reading limits table store unreadable free = false
sound_reading limits table store (reads t) endless = false
sound_reading limits table store (reads t) (chain freed) = sound_as limits table store t freed

-- "A table is sound when"
unfoldable pub sound : Limits → (table store : List ℕ) → Bool
sound limits table store =
    sound_reading limits table store
    (read_tree limits table store limits.depth (root_link table))
    (read_chain limits table limits.slots (first_free table))

abbrev pub state_read : Reading → Chain → ℕ → State
state_read unreadable free high = fresh
state_read (reads t) endless high = fresh
state_read (reads t) (chain freed) high = record { tree = t; freed = freed; high = high }

-- the plain tree, freed slots and high mark that a sound table holds
unfoldable pub state_of : Limits → (table store : List ℕ) → State
state_of limits table store =
    state_read (read_tree limits table store limits.depth (root_link table))
    (read_chain limits table limits.slots (first_free table)) (high_mark table)
