-- A slot's part of a store, and the label at its front: what is asked before it is read, and where it stands.
use Rattle.std.specs.Prelude.{◌≡◌, List, ℕ, ◌+◌, ◌^◌, ◌≤◌, ◌<◌, length}
use Rattle.std.specs.Borrow.{Bor}
use Rattle.types.specs.declared.Limits.{Limits}
use Rattle.tables.specs.Words.{part_start, label_at}

-- a slot whose part starts at a machine word
pub record StartFits (limits : Limits) (k : ℕ) : Type 0 where
  pub low : 1 ≤ k
  pub small : part_start limits k < 2 ^ 64

-- a slot whose label, of this length, lies within the store
pub record LabelInside (limits : Limits) (store : List ℕ) (k len : ℕ) : Type 0 where
  pub low : 1 ≤ k
  pub inside : part_start limits k + len ≤ length store

-- the part r of a lent store is the label in a slot: its bytes and their number, its memory block, its first byte there
pub record Shows (limits : Limits) (store : Bor (List ℕ)) (k len : ℕ) (r : Bor (List ℕ)) : Type 0 where
  pub bytes : r.now ≡ label_at limits store.now k len
  pub whole : length r.now ≡ len
  pub block : r.ref_ptr.0 ≡ store.ref_ptr.0
  pub start : r.ref_ptr.1 ≡ store.ref_ptr.1 + part_start limits k
