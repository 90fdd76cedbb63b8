-- What an exported call gives and leaves, against a defined outcome: its answer packed, and each lent part.
use Rattle.std.specs.Prelude.{List, ◌≡◌, ℕ, length}
use Rattle.types.specs.declared.Limits.{Limits}
use Rattle.types.specs.Answers.{refused}
use Rattle.tables.specs.Outcomes.{Outcome, Listing, Verdict, pass, refuse, view_verdict, view_part}
use Rattle.views.specs.Parts.{view_start}
use Rattle.files.specs.Saves.{Saving}
use Rattle.files.specs.Loads.{Loading}
use Rattle.rfc4180.specs.Rosters.{RosterOutcome}
use Rattle.packs.specs.Packed.{packed, packed_save, packed_load, packed_roster, packed_part}

-- a call that may change the table and the store
pub record Packs (outcome : Outcome) (given : ℕ) (words bytes : List ℕ) : Type 0 where
  pub answer : given ≡ packed outcome.answer
  pub table : words ≡ outcome.memory.table
  pub store : bytes ≡ outcome.memory.store

-- a listing
pub record PacksList (listing : Listing) (given : ℕ) (words : List ℕ) : Type 0 where
  pub answer : given ≡ packed listing.answer
  pub list : words ≡ listing.list

-- a save
pub record PacksSave (saving : Saving) (given : ℕ) (bytes : List ℕ) : Type 0 where
  pub answer : given ≡ packed_save saving.answer
  pub output : bytes ≡ saving.output

-- a load
pub record PacksLoad (loading : Loading) (given : ℕ) (words bytes : List ℕ) : Type 0 where
  pub answer : given ≡ packed_load loading.answer
  pub table : words ≡ loading.memory.table
  pub store : bytes ≡ loading.memory.store

-- a roster
pub record PacksRoster (outcome : RosterOutcome) (given : ℕ) (words bytes : List ℕ) : Type 0 where
  pub answer : given ≡ packed_roster outcome.answer
  pub table : words ≡ outcome.memory.table
  pub store : bytes ≡ outcome.memory.store

-- the view's two calls in one number: the part's start and length, or the refusal
abbrev pub viewed_by : Verdict → (start len : ℕ) → ℕ
viewed_by pass start len = packed_part start len
viewed_by (refuse number) start len = packed (refused number)

unfoldable pub packed_view : Limits → (table store : List ℕ) → ℕ → ℕ
packed_view limits table store k =
    viewed_by (view_verdict limits table store k) (view_start limits table store k)
    (length (view_part limits table store k))
