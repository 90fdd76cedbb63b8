-- Memory of one index lent to a call of another: M-101 of document 02, "1 .. use the limits of the index called".
use Rattle.std.specs.Prelude.{List, [], ◌≡◌, ℕ, length}
use Rattle.types.specs.declared.Limits.{Limits}
use Rattle.types.specs.Sizes.{table_length}
use Rattle.types.specs.Answers.{refused}
use Rattle.types.specs.SaveReplies as replies
use Rattle.types.specs.LoadReplies as load_replies
use Rattle.labels.specs.Labels.{Label}
use Rattle.tables.specs.Written.{lent}
use Rattle.tables.specs.Outcomes.{Outcome, Listing, layout_outcome, search_outcome, insert_outcome, delete_outcome}
use Rattle.tables.specs.Outcomes.{charge_outcome, check_outcome, listing_outcome, view_outcome, view_part}
use Rattle.files.specs.Saves.{save_outcome}
use Rattle.files.specs.Loads.{load_outcome}
use Rattle.rfc4180.specs.Rosters.{stopped_at, roster_outcome}

-- refused by 1, with all lent memory as it was
abbrev pub wrong_table : (table store : List ℕ) → Outcome
wrong_table table store = record { answer = refused 1; memory = record { table = table; store = store } }

-- the same of a listing, with its list as it was
abbrev pub wrong_table_for : (list : List ℕ) → Listing
wrong_table_for list = record { answer = refused 1; list = list }

-- what each call says and leaves
pub record AllRefused (limits : Limits) (table store : List ℕ) : Type 0 where
  pub layout : layout_outcome limits table store ≡ wrong_table table store
  pub search : (x : Label) → search_outcome limits table store x ≡ refused 1
  pub insert : (x : Label) (value : ℕ) → insert_outcome limits table store x value ≡ wrong_table table store
  pub delete : (x : Label) → delete_outcome limits table store x ≡ wrong_table table store
  pub charge : (x : Label) (charge : ℕ) → charge_outcome limits table store x charge ≡ wrong_table table store
  pub check : check_outcome limits table store ≡ refused 1
  pub listing : (list : List ℕ) → listing_outcome limits table store list ≡ wrong_table_for list
  pub view : (k : ℕ) → view_outcome limits table store k ≡ refused 1
  pub part : (k : ℕ) → view_part limits table store k ≡ []
  pub save :
      (output : List ℕ)
      → save_outcome limits table store output ≡ record { answer = replies.refused 1; output = output }
  pub load :
      (file : List ℕ)
      → load_outcome limits table store file
      ≡ record { answer = load_replies.refused 1; memory = record { table = table; store = store } }
  pub roster : (text : List ℕ) → roster_outcome limits table store text ≡ stopped_at 0 1 (lent table store)

-- The claim: each call of an index refuses another's table by 1, whatever it and the store hold.
abbrev pub RefusesTableOf : (called other : Limits) → Type 0
RefusesTableOf called other =
    (table store : List ℕ) → length table ≡ table_length other → AllRefused called table store
