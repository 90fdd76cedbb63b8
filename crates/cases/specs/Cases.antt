-- The starred cases of 'Worked on paper' in document 01, in one table, at the hub's limits.
use Rattle.std.specs.Prelude.{List, [], ◌∷◌, ◌++◌, map, ◌≡◌, ℕ, replicate}
use Rattle.types.specs.Sizes.{hub, table_length, store_length}
use Rattle.types.specs.Answers.{Answer, found, absent, updated, listed, done, refused}
use Rattle.labels.specs.Labels.{Label}
use Rattle.trees.specs.Plain.{Call, search, insert, delete}
use Rattle.tables.specs.Words.{root_link, row_at}
use Rattle.tables.specs.Written.{Memory}
use Rattle.tables.specs.Outcomes.{search_outcome, layout_outcome}
use Rattle.tables.specs.Claims.{call_outcome, after_list}
use Rattle.tables.specs.MapClaims.{label_in}

-- what a case asks, after its calls
pub data Question : Type 0 where
  call : Call → Question
  prefix : Label → Question
  root : Question
  balance : Label → Question

-- what it shows: an answer; place and side; the root's label and slot; a balance
pub data Finding : Type 0 where
  answers : Answer → Finding
  fields : (place side : ℕ) → Finding
  root_is : Label → (slot : ℕ) → Finding
  leans : ℕ → Finding

abbrev pub slot_in : Answer → ℕ
slot_in (found slot value visits places) = slot
slot_in (absent below above visits places) = 0
slot_in (updated slot visits places) = slot
slot_in (listed count) = 0
slot_in done = 0
slot_in (refused number) = 0

-- the slot of a held label
abbrev pub slot_of : Memory → Label → ℕ
slot_of m x = slot_in (search_outcome hub m.table m.store x)

abbrev pub asked : Question → Memory → Finding
asked (call k) m = answers (call_outcome hub k m).answer
asked (prefix x) m = fields (row_at m.table (slot_of m x)).place (row_at m.table (slot_of m x)).side
asked root m = root_is (label_in hub m (root_link m.table)) (root_link m.table)
asked (balance x) m = leans (row_at m.table (slot_of m x)).balance

-- what layout leaves of a table and a store of the hub's lengths
abbrev pub laid_out : Memory
laid_out = (layout_outcome hub (replicate (table_length hub) 1) (replicate (store_length hub) 1)).memory

-- a case: its number on paper, what is asked, what it shows
pub record Case : Type 0 where
  pub number : ℕ
  pub asks : Question
  pub shows : Finding

-- calls, and the cases asked after them
pub record Scene : Type 0 where
  pub calls : List Call
  pub cases : List Case

-- the bytes of "a", "b", "c", "d"
abbrev pub a : ℕ
a = 97

abbrev pub b : ℕ
b = 98

abbrev pub c : ℕ
c = 99

abbrev pub d : ℕ
d = 100

abbrev pub roster : List Call
roster = insert (b ∷ []) 10 ∷ insert (a ∷ []) 20 ∷ insert (d ∷ d ∷ []) 30 ∷ insert (c ∷ []) 40 ∷ []

abbrev pub three : List Call
three = insert (a ∷ b ∷ []) 1 ∷ insert (a ∷ b ∷ c ∷ []) 2 ∷ insert (a ∷ b ∷ d ∷ []) 3 ∷ []

abbrev pub two : List Call
two = three ++ (delete (a ∷ b ∷ c ∷ []) ∷ [])

abbrev pub case : ℕ → Question → Finding → Case
case number asks shows = record { number = number; asks = asks; shows = shows }

-- the table: calls made on a fresh table, and after them each case by its number on paper; case 6 as M-106 of document
-- 02 has it: "Case 6 becomes 3 and 3"; absent answers with their neighbours first, as M-107 asks
unfoldable pub starred : List Scene
starred =
    record { calls = []; cases = case 1 (call (search (a ∷ []))) (answers (absent 0 0 0 0)) ∷ [] }
    ∷ record {
      calls = insert (a ∷ []) 5 ∷ [];
      cases =
          case 2 (call (search (a ∷ []))) (answers (found 1 5 1 2))
          ∷ case 3 (call (search (a ∷ a ∷ []))) (answers (absent 1 0 1 2))
          ∷ [];
    }
    ∷ record {
      calls = roster;
      cases =
          case 4 (prefix (a ∷ [])) (fields 1 1)
          ∷ case 5 (prefix (c ∷ [])) (fields 1 0)
          ∷ case 6 (call (search (d ∷ a ∷ []))) (answers (absent 4 3 3 3))
          ∷ case 7 (call (search (d ∷ d ∷ []))) (answers (found 3 30 2 4))
          ∷ [];
    }
    ∷ record {
      calls = three;
      cases =
          case 8 root (root_is (a ∷ b ∷ c ∷ []) 2)
          ∷ case 8 (prefix (a ∷ b ∷ [])) (fields 3 1)
          ∷ case 8 (prefix (a ∷ b ∷ d ∷ [])) (fields 3 0)
          ∷ case 9 (call (delete (a ∷ b ∷ c ∷ []))) (answers (updated 2 1 4))
          ∷ [];
    }
    ∷ record {
      calls = two;
      cases =
          case 9 root (root_is (a ∷ b ∷ d ∷ []) 3)
          ∷ case 9 (prefix (a ∷ b ∷ [])) (fields 3 1)
          ∷ case 9 (balance (a ∷ b ∷ d ∷ [])) (leans 0)
          ∷ case 10 (call (insert (a ∷ []) 7)) (answers (updated 2 2 2))
          ∷ [];
    }
    ∷ []

-- what cases show of one memory
abbrev pub findings : List Case → Memory → List Finding
findings cases m = map (λ row. asked row.asks m) cases

-- The claim: each case shows what the table says.
abbrev pub StarredCases : Type 0
StarredCases =
    map (λ scene. findings scene.cases (after_list hub scene.calls laid_out)) starred
    ≡ map (λ scene. map (λ row. row.shows) scene.cases) starred
