-- The claims: sound tables are the written-out trees; demand 3, the cost rule over a whole list of calls. Demand 2 is
-- MapClaims.
use Rattle.std.specs.Prelude.{List, [], ◌∷◌, ◌≡◌, true, false, ℕ, ◌+◌, ◌≤◌, length}
use Rattle.types.specs.declared.Limits.{Limits}
use Rattle.types.specs.Sizes.{table_length, store_length}
use Rattle.types.specs.Answers.{found}
use Rattle.labels.specs.Labels.{Label, Alike}
use Rattle.labels.specs.Shared.{most_shared}
use Rattle.trees.specs.Trees.{Entry, Tree, NodeOf, labels, size}
use Rattle.trees.specs.Heights.{least}
use Rattle.trees.specs.Searches.{full_search}
use Rattle.trees.specs.Plain as plain
use Rattle.trees.specs.Plain.{State, fresh, Call, sought_by, wrong_charge, plain_step}
use Rattle.trees.specs.Valid.{Valid}
use Rattle.tables.specs.Words.{slot_start, part_start}
use Rattle.tables.specs.Written.{Memory, written}
use Rattle.tables.specs.Steps.{ended, search_steps}
use Rattle.tables.specs.Sound.{sound, state_of}
use Rattle.tables.specs.Outcomes.{Outcome, search_outcome, update_outcome, layout_outcome}
use Rattle.tables.specs.Outcomes.{reply_answer, visits_of, places_of}

-- ---- sizes

-- The claim: offsets of slots and labels stay inside the lent lengths.
pub record OffsetsInside (limits : Limits) : Type 0 where
  pub row : (k : ℕ) → 1 ≤ k → k ≤ limits.slots → slot_start k + 8 ≤ table_length limits
  pub part : (k : ℕ) → 1 ≤ k → k ≤ limits.slots → part_start limits k + limits.width ≤ store_length limits

-- ---- sound tables

-- a table and a store of the right lengths that are sound
pub record Sound (limits : Limits) (m : Memory) : Type 0 where
  pub words : length m.table ≡ table_length limits
  pub bytes : length m.store ≡ store_length limits
  pub so : sound limits m.table m.store ≡ true

-- the tree that a sound table holds is valid, and the table and store are that tree written out
pub record Holds (limits : Limits) (m : Memory) (s : State) : Type 0 where
  pub valid : Valid limits.slots limits.width s
  pub out : m ≡ written limits s

-- The claim: the sound tables and stores are exactly the written-out valid plain trees.
pub record SoundIsWritten (limits : Limits) : Type 0 where
  pub holds : (m : Memory) → Sound limits m → Holds limits m (state_of limits m.table m.store)
  pub sounds : (m : Memory) (s : State) → Holds limits m s → Sound limits m
  pub reads : (m : Memory) (s : State) → Holds limits m s → state_of limits m.table m.store ≡ s

-- ---- labels

-- "A label is 1 to 64 bytes"
pub record LabelFits (limits : Limits) (x : Label) : Type 0 where
  pub some : 1 ≤ length x
  pub short : length x ≤ limits.width

-- ---- demand 3: "one claim about the whole list of calls, not a claim for each call"

-- a call's search, on the memory as the call finds it, beside the full comparison search of the plain tree
pub record SearchAgrees (limits : Limits) (x : Label) (m : Memory) (t : Tree) : Type 0 where
  -- the labels visited are those of the full comparison search, in order; it finds the same, and the same nodes are the
  -- nearest smaller and nearest larger ones; the walk is not broken
  pub walk :
      search_steps limits m.table m.store x
      ≡ ended (full_search x t) (places_of (search_steps limits m.table m.store x))
  -- v visits only while at least as many labels are held as the smallest height-balanced tree of height v has
  pub few : least (length (full_search x t).visited) ≤ size t
  pub shallow : length (full_search x t).visited ≤ limits.depth
  -- "places are at most visits plus the most leading bytes the sought label shares with any one held label" (M-113 of
  -- document 02)
  pub shared :
      places_of (search_steps limits m.table m.store x)
      ≤ length (full_search x t).visited + most_shared x (labels t)
  -- places at most the sought label's length plus the visits
  pub short : places_of (search_steps limits m.table m.store x) ≤ length x + length (full_search x t).visited

-- "Search: found with the node's slot and value, or absent": where a node of the plain tree has the label, in this or
-- another spelling, the search is answered found with that node's slot and value; and it is answered found nowhere else
pub record FindsHeld (limits : Limits) (x : Label) (m : Memory) (t : Tree) : Type 0 where
  pub held :
      (e : Entry) → NodeOf e t → Alike x e.label
      → search_outcome limits m.table m.store x
      ≡ found e.slot e.value (visits_of (search_steps limits m.table m.store x))
      (places_of (search_steps limits m.table m.store x))
  pub only :
      (slot value visits places : ℕ) → search_outcome limits m.table m.store x ≡ found slot value visits places
      → (e : Entry) × NodeOf e t × Alike x e.label × (e.slot ≡ slot) × (e.value ≡ value)

-- what a call answers and leaves
abbrev pub call_outcome : Limits → Call → Memory → Outcome
call_outcome limits (plain.search x) m = record { answer = search_outcome limits m.table m.store x; memory = m }
call_outcome limits (plain.insert x value) m = update_outcome limits (plain.insert x value) m.table m.store
call_outcome limits (plain.delete x) m = update_outcome limits (plain.delete x) m.table m.store
call_outcome limits (plain.set_charge x charge) m =
    update_outcome limits (plain.set_charge x charge) m.table m.store

-- what a list of calls leaves
abbrev pub after_list : Limits → List Call → Memory → Memory
after_list limits [] m = m
after_list limits (c ∷ calls) m = after_list limits calls (call_outcome limits c m).memory

-- a call that makes a search: its label fits, and what it gives is a charge ("24 comes before its search", M-109 of
-- document 02)
pub record Searches (limits : Limits) (c : Call) : Type 0 where
  pub label : LabelFits limits (sought_by c)
  pub charge : wrong_charge c ≡ false

-- one call of the list, beside the plain tree's step
pub record CallAgrees (limits : Limits) (c : Call) (m : Memory) (s : State) : Type 0 where
  pub search : Searches limits c → SearchAgrees limits (sought_by c) m s.tree
  pub finds : Searches limits c → FindsHeld limits (sought_by c) m s.tree
  -- refused when the plain tree refuses, by the same number; slots and values are the plain tree's, and so are the
  -- neighbours of an absent label; the counts are those of the steps
  pub answer :
      (call_outcome limits c m).answer
      ≡ reply_answer (plain_step limits.slots limits.width c s).reply
      (search_steps limits m.table m.store (sought_by c))
  -- "The words and bytes after each call are the plain tree and its freed slots, written out"
  pub memory : (call_outcome limits c m).memory ≡ written limits (plain_step limits.slots limits.width c s).state

-- the calls of a list, one after the other; the plain tree is fed the calls alone; with no call left, and so for the
-- empty list too, the words and bytes are the plain tree and its freed slots, written out
abbrev pub CallsAgree : Limits → List Call → Memory → State → Type 0
CallsAgree limits [] m s = m ≡ written limits s
CallsAgree limits (c ∷ calls) m s =
    CallAgrees limits c m s
    × CallsAgree limits calls (call_outcome limits c m).memory (plain_step limits.slots limits.width c s).state

-- The claim of demand 3: every list of calls, on what layout left at the right lengths.
abbrev pub CostRule : Limits → Type 0
CostRule limits =
    (table store : List ℕ) → length table ≡ table_length limits → length store ≡ store_length limits → (calls : List Call)
    → CallsAgree limits calls (layout_outcome limits table store).memory fresh
