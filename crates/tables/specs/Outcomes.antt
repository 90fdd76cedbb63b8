-- What each public call answers and leaves, on lent memory of any length and content ('Updates' and 'Where each call
-- turns away' of document 01).
use Rattle.std.specs.Prelude.{List, [], ◌++◌, Bool, true, false, not, ◌||◌, ℕ, eqb, ltb, length, drop, replicate}
use Rattle.types.specs.declared.Limits.{Limits}
use Rattle.types.specs.Sizes.{table_length, store_length}
use Rattle.types.specs.Answers.{Answer, found, absent, updated, listed, done, refused}
use Rattle.labels.specs.Labels.{Label}
use Rattle.trees.specs.Trees.{slots}
use Rattle.trees.specs.Searches as held
use Rattle.trees.specs.Searches.{slot_of}
use Rattle.trees.specs.Plain as plain
use Rattle.trees.specs.Plain.{Call, Reply, After, sought_by, wrong_charge, plain_step}
use Rattle.tables.specs.Words.{labels_held, row_at, label_at}
use Rattle.tables.specs.Written.{Memory, written}
use Rattle.tables.specs.Steps.{Walk, broken, ended, search_steps}
use Rattle.tables.specs.Sound.{sound, state_of}

-- ---- the table of refusals: "Checked downwards, the first that applies"

pub data Verdict : Type 0 where
  pass : Verdict
  refuse : ℕ → Verdict

-- a line of the table: when it applies, its number, and the lines below
abbrev pub line : Bool → ℕ → Verdict → Verdict
line true number below = refuse number
line false number below = below

-- "lent memory: 1, table not 4,100 words; 2, store not 32,768 bytes", for all calls
abbrev pub of_memory : Limits → (table store : List ℕ) → Verdict → Verdict
of_memory limits table store below =
    line (not (eqb (length table) (table_length limits))) 1
    (line (not (eqb (length store) (store_length limits))) 2 below)

-- "label: 3, length 0; 4, length above 64"
abbrev pub of_label : Limits → Label → Verdict → Verdict
of_label limits x below = line (eqb (length x) 0) 3 (line (ltb limits.width (length x)) 4 below)

-- the same by a length alone, where there is no label to lend
abbrev pub of_length : Limits → ℕ → Verdict → Verdict
of_length limits n below = line (eqb n 0) 3 (line (ltb limits.width n) 4 below)

-- "Checks: 24, a charge neither 0 to 100 nor 255, after 4" (M-109 of document 02)
abbrev pub of_charge : Call → Verdict → Verdict
of_charge c below = line (wrong_charge c) 24 below

-- "slot given: 11, 0, above 512, or its length word is 0 or above 64"
abbrev pub of_slot : Limits → (table : List ℕ) → ℕ → Verdict → Verdict
of_slot limits table k below =
    line
    (eqb k 0 || (ltb limits.slots k || (eqb (row_at table k).len 0 || ltb limits.width (row_at table k).len))) 11
    below

-- "whole table: 6, not sound"
abbrev pub of_table : Limits → (table store : List ℕ) → Verdict → Verdict
of_table limits table store below = line (not (sound limits table store)) 6 below

-- "list: 10, shorter than the labels held"
abbrev pub of_list : (table list : List ℕ) → Verdict → Verdict
of_list table list below = line (ltb (length list) (labels_held table)) 10 below

abbrev pub answer_by : Verdict → Answer → Answer
answer_by pass a = a
answer_by (refuse number) a = refused number

-- ---- search, check, view

abbrev pub answer_of : held.Held → (below above visits places : ℕ) → Answer
answer_of held.absent below above visits places = absent below above visits places
answer_of (held.found e) below above visits places = found e.slot e.value visits places

-- "Visits counts nodes"; "walk: 5, broken"
abbrev pub walk_answer : Walk → Answer
walk_answer broken = refused 5
walk_answer (ended s places) =
    answer_of s.result (slot_of s.below) (slot_of s.above) (length s.visited) places

unfoldable pub search_outcome : Limits → (table store : List ℕ) → Label → Answer
search_outcome limits table store x =
    answer_by (of_memory limits table store (of_label limits x pass)) (walk_answer (search_steps limits table store x))

unfoldable pub check_outcome : Limits → (table store : List ℕ) → Answer
check_outcome limits table store = answer_by (of_memory limits table store (of_table limits table store pass)) done

abbrev pub view_verdict : Limits → (table store : List ℕ) → ℕ → Verdict
view_verdict limits table store k = of_memory limits table store (of_slot limits table k pass)

-- "The view is two calls on equal inputs: one gives the refusal number or done, the other the part."
unfoldable pub view_outcome : Limits → (table store : List ℕ) → ℕ → Answer
view_outcome limits table store k = answer_by (view_verdict limits table store k) done

abbrev pub part_by : Verdict → List ℕ → List ℕ
part_by pass part = part
part_by (refuse number) part = []

-- "The label view returns the part of the lent store that holds the slot's label"; "Where the view's first call
-- refuses, its second returns the empty part"
unfoldable pub view_part : Limits → (table store : List ℕ) → ℕ → List ℕ
view_part limits table store k =
    part_by (view_verdict limits table store k) (label_at limits store k (row_at table k).len)

-- ---- listing

pub record Listing : Type 0 where
  pub answer : Answer
  pub list : List ℕ

abbrev pub listing_by : Verdict → (list slots : List ℕ) → Listing
listing_by pass list slots = record { answer = listed (length slots); list = slots ++ drop (length slots) list }
listing_by (refuse number) list slots = record { answer = refused number; list = list }

-- "Listing writes slots in ascending label order into a lent list of words and gives their number; later words stay."
unfoldable pub listing_outcome : Limits → (table store list : List ℕ) → Listing
listing_outcome limits table store list =
    listing_by (of_memory limits table store (of_table limits table store (of_list table list pass))) list
    (slots (state_of limits table store).tree)

-- ---- layout, insert, delete, a charge set

pub record Outcome : Type 0 where
  pub answer : Answer
  pub memory : Memory

-- "the answer is the number only, all lent memory stays"
abbrev pub outcome_by : Verdict → Memory → Outcome → Outcome
outcome_by pass m o = o
outcome_by (refuse number) m o = record { answer = refused number; memory = m }

-- "Layout sets every word and byte to 0"
unfoldable pub layout_outcome : Limits → (table store : List ℕ) → Outcome
layout_outcome limits table store =
    outcome_by (of_memory limits table store pass) (record { table = table; store = store })
    (record {
      answer = done;
      memory = record { table = replicate (length table) 0; store = replicate (length store) 0 };
    })

abbrev pub visits_of : Walk → ℕ
visits_of broken = 0
visits_of (ended s places) = length s.visited

abbrev pub places_of : Walk → ℕ
places_of broken = 0
places_of (ended s places) = places

-- the plain tree's reply, with "its search's counts"
abbrev pub reply_answer : Reply → Walk → Answer
reply_answer (plain.found_at slot value) w = found slot value (visits_of w) (places_of w)
reply_answer (plain.not_held below above) w = absent below above (visits_of w) (places_of w)
reply_answer (plain.updated slot) w = updated slot (visits_of w) (places_of w)
reply_answer (plain.refused number) w = refused number

-- what the plain tree's step leaves, written out; "map: 7, label held already; 8, label not held; 9, 512 labels held":
-- all lent memory stays
abbrev pub memory_after : Limits → Memory → Reply → plain.State → Memory
memory_after limits m (plain.found_at slot value) s = m
memory_after limits m (plain.not_held below above) s = m
memory_after limits m (plain.updated slot) s = written limits s
memory_after limits m (plain.refused number) s = m

abbrev pub settled : Limits → Memory → Walk → After → Outcome
settled limits m w a =
    record { answer = reply_answer a.reply w; memory = memory_after limits m a.reply a.state }

-- insert, delete and the call that sets a charge: the plain tree's own step on the tree that the sound table holds,
-- written out again
unfoldable pub update_outcome : Limits → Call → (table store : List ℕ) → Outcome
update_outcome limits c table store =
    outcome_by
    (of_memory limits table store (of_label limits (sought_by c) (of_charge c (of_table limits table store pass))))
    (record { table = table; store = store })
    (settled limits (record { table = table; store = store }) (search_steps limits table store (sought_by c))
    (plain_step limits.slots limits.width c (state_of limits table store)))

unfoldable pub insert_outcome : Limits → (table store : List ℕ) → Label → ℕ → Outcome
insert_outcome limits table store x value = update_outcome limits (plain.insert x value) table store

unfoldable pub delete_outcome : Limits → (table store : List ℕ) → Label → Outcome
delete_outcome limits table store x = update_outcome limits (plain.delete x) table store

-- "The new call tests soundness, refuses a label not held by 8 and answers as delete does" (M-109 of document 02)
unfoldable pub charge_outcome : Limits → (table store : List ℕ) → Label → ℕ → Outcome
charge_outcome limits table store x charge = update_outcome limits (plain.set_charge x charge) table store
