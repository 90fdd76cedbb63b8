-- The entries of a file, inserted one after the other; and what the functions of a load take for granted.
use Rattle.std.specs.Prelude.{List, [], ◌∷◌, ◌≡◌, ℕ, zero, suc, length}
use Rattle.types.specs.declared.Limits.{Limits}
use Rattle.types.specs.Sizes.{table_length, store_length}
use Rattle.trees.specs.Plain.{Call, insert}
use Rattle.tables.specs.Written.{Memory}
use Rattle.files.specs.FileReads.{EntryRead, no_entry, entry, take_entry}
use Rattle.endings.specs.Ready.{EditsFit}

abbrev pub call_then : EntryRead → (List ℕ → List Call) → List Call
call_then no_entry next = []
call_then (entry x value rest) next = insert x value ∷ next rest

-- the inserts of so many entries, up to the first that is not whole
unfoldable pub calls_in : Limits → (count : ℕ) → List ℕ → List Call
calls_in limits zero text = []
calls_in limits (suc count) text = call_then (take_entry limits text) (λ rest. calls_in limits count rest)

-- table and store are those of a memory
pub record Leaves (m : Memory) (words bytes : List ℕ) : Type 0 where
  pub table : words ≡ m.table
  pub store : bytes ≡ m.store

-- a table and a store of the right lengths, in limits that fit
pub record LoadReady (limits : Limits) (table store : List ℕ) : Type 0 where
  pub limits_fit : EditsFit limits
  pub words : length table ≡ table_length limits
  pub bytes : length store ≡ store_length limits
