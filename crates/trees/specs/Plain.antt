-- The plain tree with its freed slots and high mark, and what a call does to it ('The cost rule' of document 01).
-- Capacity and label width are parameters.
use Rattle.std.specs.Prelude.{List, [], ◌∷◌, Bool, true, false, not, ℕ, suc, ltb, leb, eqb, length}
use Rattle.labels.specs.Labels.{Label}
use Rattle.trees.specs.Trees.{Entry, Tree, empty, size}
use Rattle.trees.specs.Charges.{unknown, is_charge, charged}
use Rattle.trees.specs.Searches.{Held, absent, found, Search, full_search, slot_of}
use Rattle.trees.specs.Updates.{inserted, deleted}

-- "With it go the freed slots, last freed first, and the high mark"
pub record State : Type 0 where
  pub tree : Tree
  pub freed : List ℕ
  pub high : ℕ

-- "It starts empty, with no freed slot and high mark 0."
abbrev pub fresh : State
fresh = record { tree = empty; freed = []; high = 0 }

pub data Call : Type 0 where
  search : Label → Call
  insert : Label → ℕ → Call
  delete : Label → Call
  -- "the list may hold the new call" (M-109 of document 02)
  set_charge : Label → ℕ → Call

abbrev pub sought_by : Call → Label
sought_by (search x) = x
sought_by (insert x v) = x
sought_by (delete x) = x
sought_by (set_charge x n) = x

pub data Reply : Type 0 where
  found_at : (slot value : ℕ) → Reply
  not_held : (below above : ℕ) → Reply
  updated : (slot : ℕ) → Reply
  refused : (number : ℕ) → Reply

pub record After : Type 0 where
  pub reply : Reply
  pub state : State

-- "A refused call leaves the tree as it was."
abbrev pub refuse : ℕ → State → After
refuse n s = record { reply = refused n; state = s }

-- "Search: found with the node's slot and value, or absent; the tree stays." An absent label comes with "the slots of
-- the nearest smaller and nearest larger held labels" (M-107 of document 02).
abbrev pub after_search : Held → (below above : ℕ) → State → After
after_search absent below above s = record { reply = not_held below above; state = s }
after_search (found e) below above s = record { reply = found_at e.slot e.value; state = s }

-- "Insert writes 255" (M-109 of document 02)
abbrev pub new_node : Label → ℕ → ℕ → Entry
new_node x v k = record { label = x; value = v; slot = k; charge = unknown }

abbrev pub hung : Label → ℕ → ℕ → Tree → List ℕ → ℕ → After
hung x v k t freed high =
    record { reply = updated k; state = record { tree = inserted (new_node x v k) t; freed = freed; high = high } }

-- "A new label takes the slot freed last; if none is free, the slot just above the high mark, which rises by one."
abbrev pub new_entry : Label → ℕ → Tree → List ℕ → ℕ → After
new_entry x v t [] high = hung x v (suc high) t [] (suc high)
new_entry x v t (k ∷ freed) high = hung x v k t freed high

abbrev pub insert_if_room : Bool → Label → ℕ → State → After
insert_if_room true x v s = refuse 9 s
insert_if_room false x v s = new_entry x v s.tree s.freed s.high

-- "Insert: found, refused by 7; else with 512 nodes, by 9; else a new node hangs where the search ended."
abbrev pub after_insert : ℕ → Held → Label → ℕ → State → After
after_insert capacity absent x v s = insert_if_room (leb capacity (size s.tree)) x v s
after_insert capacity (found e) x v s = refuse 7 s

-- "Delete: absent, refused by 8; else the found node is taken out as under Updates."
abbrev pub after_delete : Held → Label → State → After
after_delete absent x s = refuse 8 s
after_delete (found e) x s =
    record {
      reply = updated e.slot;
      state = record { tree = deleted x s.tree; freed = e.slot ∷ s.freed; high = s.high };
    }

-- "then 8 where absent, else the charge is set" (M-109 of document 02)
abbrev pub after_charge : Held → Label → ℕ → State → After
after_charge absent x n s = refuse 8 s
after_charge (found e) x n s =
    record {
      reply = updated e.slot;
      state = record { tree = charged x n s.tree; freed = s.freed; high = s.high };
    }

abbrev pub after_full_search : ℕ → Call → Search → State → After
after_full_search capacity (search x) f s = after_search f.result (slot_of f.below) (slot_of f.above) s
after_full_search capacity (insert x v) f s = after_insert capacity f.result x v s
after_full_search capacity (delete x) f s = after_delete f.result x s
after_full_search capacity (set_charge x n) f s = after_charge f.result x n s

-- "24, a charge neither 0 to 100 nor 255" (M-109 of document 02)
abbrev pub wrong_charge : Call → Bool
wrong_charge (search x) = false
wrong_charge (insert x v) = false
wrong_charge (delete x) = false
wrong_charge (set_charge x n) = not (is_charge n)

-- "24 comes before its search"
abbrev pub after_arguments : Bool → ℕ → Call → State → After
after_arguments true capacity c s = refuse 24 s
after_arguments false capacity c s = after_full_search capacity c (full_search (sought_by c) s.tree) s

abbrev pub after_length : Bool → Bool → ℕ → Call → State → After
after_length true long capacity c s = refuse 3 s
after_length false true capacity c s = refuse 4 s
after_length false false capacity c s = after_arguments (wrong_charge c) capacity c s

-- "Any call: length 0 is refused by 3, above 64 by 4, with no search made. Otherwise the full comparison search is made
-- first."
abbrev pub plain_step : (capacity width : ℕ) → Call → State → After
plain_step capacity width c s =
    after_length (eqb (length (sought_by c)) 0) (ltb width (length (sought_by c))) capacity c s
