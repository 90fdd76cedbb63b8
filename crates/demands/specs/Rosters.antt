-- Rosters: M-100 of document 02, "Take a club's roster file".
use Rattle.std.specs.Prelude.{List, [], ◌∷◌, ◌++◌, ◌≡◌, ℕ, zero, suc, ◌-◌, ◌≤◌, length, drop}
use Rattle.types.specs.declared.Limits.{Limits}
use Rattle.types.specs.Sizes.{table_length, store_length}
use Rattle.types.specs.RosterReplies.{RosterReply, taken, refused}
use Rattle.labels.specs.Labels.{Label}
use Rattle.trees.specs.Plain.{Call, insert, fresh}
use Rattle.tables.specs.Written.{Memory}
use Rattle.tables.specs.Outcomes.{pass, refuse, of_memory, insert_outcome, layout_outcome}
use Rattle.tables.specs.Claims.{Sound, after_list, CallsAgree}
use Rattle.tables.specs.MapClaims.{said, refused_by}
use Rattle.files.specs.FileReads.{EntryRead, no_entry, entry}
use Rattle.rfc4180.specs.Records.{records_of}
use Rattle.rfc4180.specs.Rosters.{longest_text, RosterOutcome, stopped_at, of_text, roster_outcome}
use Rattle.demands.specs.Loads.{Lent, AllAccepted}

-- what taking a roster into a memory gives and leaves
abbrev pub roster_of : Limits → Memory → (text : List ℕ) → RosterOutcome
roster_of limits m text = roster_outcome limits m.table m.store text

-- the inserts of the first so many records
abbrev pub inserts_to : (n : ℕ) → List EntryRead → List Call
inserts_to zero entries = []
inserts_to (suc n) [] = []
inserts_to (suc n) (no_entry ∷ more) = []
inserts_to (suc n) (entry x value rest ∷ more) = insert x value ∷ inserts_to n more

-- records 1 to n of a text went in
pub record Entered (limits : Limits) (m : Memory) (text : List ℕ) (n : ℕ) : Type 0 where
  -- there are so many, and none is refused by 13
  pub many : length (inserts_to n (records_of text)) ≡ n
  -- no insert of them is refused
  pub accepted : AllAccepted limits (inserts_to n (records_of text)) m
  -- what is left is exactly what their inserts leave
  pub left : (roster_of limits m text).memory ≡ after_list limits (inserts_to n (records_of text)) m

-- the first of the records that are left is refused by a number: by 13, or by that of its insert
abbrev pub FirstRefused : Limits → Memory → List EntryRead → (number : ℕ) → Type 0
FirstRefused limits m [] number = ⊥
FirstRefused limits m (no_entry ∷ more) number = number ≡ 13
FirstRefused limits m (entry x value rest ∷ more) number =
    said (insert_outcome limits m.table m.store x value).answer ≡ refused_by number

-- how many records went in
abbrev pub entered_by : RosterReply → ℕ
entered_by (taken count) = count
entered_by (refused n number) = n - 1

-- the number of records that an answer names
abbrev pub named_by : RosterReply → ℕ
named_by (taken count) = count
named_by (refused n number) = n

-- a roster on what a list of calls left: what is left then is what those calls and the inserts of the records that went
-- in leave, which are one list of demand 3
pub record GoesOn (limits : Limits) (start : Memory) (calls : List Call) (text : List ℕ) (inserts : List Call) : Type 0
  where
    pub left : (roster_of limits (after_list limits calls start) text).memory ≡ after_list limits (calls ++ inserts) start
    pub agree : CallsAgree limits (calls ++ inserts) start fresh

-- The claim.
pub record TakesRosters (limits : Limits) : Type 0 where
  -- "Otherwise the answer is how many went in": all records
  pub all :
      (m : Memory) (text : List ℕ) (count : ℕ) → (roster_of limits m text).answer ≡ taken count
      → Entered limits m text count × (length (records_of text) ≡ count)
  -- "Records before the first refused one stay in; the answer names that record's number, from 1, and the refusal"
  pub some :
      (m : Memory) (text : List ℕ) (n number : ℕ) → (roster_of limits m text).answer ≡ refused (suc n) number
      → Entered limits m text n
      × FirstRefused limits (roster_of limits m text).memory (drop n (records_of text)) number
  -- "A refusal by 1, 2 or 12 names record 0", and no other does; nothing is changed then
  pub early :
      (m : Memory) (text : List ℕ) (number : ℕ)
      → of_memory limits m.table m.store (of_text text pass) ≡ refuse number
      → roster_of limits m text ≡ stopped_at 0 number m
  pub early_only :
      (m : Memory) (text : List ℕ) (number : ℕ) → (roster_of limits m text).answer ≡ refused 0 number
      → of_memory limits m.table m.store (of_text text pass) ≡ refuse number
  -- "The rule that a refusal changes nothing now holds for each record by itself": its insert leaves what it found
  pub by_itself :
      (m : Memory) (x : Label) (value number : ℕ)
      → said (insert_outcome limits m.table m.store x value).answer ≡ refused_by number
      → (insert_outcome limits m.table m.store x value).memory ≡ m
  -- "An empty text has no records and gives 0", whatever the table holds
  pub empty : (m : Memory) → Lent limits m → roster_of limits m [] ≡ record { answer = taken 0; memory = m }
  -- a sound table is sound then
  pub sound : (m : Memory) → Sound limits m → (text : List ℕ) → Sound limits (roster_of limits m text).memory
  -- demand 3 speaks of the table after any roster
  pub goes_on :
      (table store : List ℕ) → length table ≡ table_length limits → length store ≡ store_length limits
      → (calls : List Call) (text : List ℕ)
      → GoesOn limits (layout_outcome limits table store).memory calls text
      (inserts_to
      (entered_by
      (roster_of limits (after_list limits calls (layout_outcome limits table store).memory) text).answer)
      (records_of text))
  -- the number that an answer names is at most that of the bytes of the longest text
  pub within : (m : Memory) (text : List ℕ) → named_by (roster_of limits m text).answer ≤ longest_text
