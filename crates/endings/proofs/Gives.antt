-- What insert and delete give and leave where they end, once their refusals are past.
-- `gives_outcome`: a defined outcome is given. `traces`: the trace is the way of the search.
-- `insert_held`, `insert_full`, `insert_new`: an insert. `delete_missing`, `delete_gone`: a delete.
use mathlib.Core.List.{List}
use mathlib.Core.Path.{◌≡◌, sym, ap}
use Prim.Native.Nat.{ℕ, ◌≤◌, ◌<◌}
use lib.ListN.{get_or}
use Rattle.types.specs.declared.Limits.{Limits}
use Rattle.types.specs.Answers.{Answer, updated, refused}
use Rattle.labels.specs.Labels.{Label}
use Rattle.trees.proofs.Sorted.{between_of_ascends}
use Rattle.tables.specs.Written.{Memory, written}
use Rattle.tables.specs.Outcomes.{Outcome, insert_outcome, delete_outcome}
use Rattle.written.proofs.Rows.{root_of_written}
use Rattle.written.proofs.Slots.{written_represents}
use Rattle.written.proofs.Held.{height_within}
use Rattle.tables.specs.Given.{Gives}
use Rattle.traces.specs.declared.Trace.{Trace}
use Rattle.slots.specs.Slots.{slot_taken, with_label, without_label}
use Rattle.traces.specs.Traces.{traced}
use Rattle.insertions.specs.Insertions.{inserted_table, inserted_memory}
use Rattle.deletions.specs.Deletions.{deleted_table, deleted_memory}
use Rattle.rewritten.proofs.Traces.{Way}
use Rattle.rewritten.proofs.Ways.{way_of_trace}
use Rattle.endings.specs.Ready.{Ready}
use Rattle.endings.proofs.Lands.{InsertLands, insert_lands, DeleteLands, delete_lands, Traces}

-- A defined outcome is given where answer, table and store are its own.
pub gives_outcome : {o : Outcome} (answer : Answer) (table store : List ℕ)
    → o ≡ record { answer = answer; memory = record { table = table; store = store } } → Gives o answer table store
gives_outcome answer table store same = record {
  answer = sym (ap (λ (o : Outcome). o.answer) same);
  table = sym (ap (λ (o : Outcome). o.memory.table) same);
  store = sym (ap (λ (o : Outcome). o.memory.store) same);
}

module _ (limits : Limits) (table store : List ℕ) (x : Label) (ready : Ready limits table store x)
    (trace : Trace) (is : trace ≡ traced limits table store x) where
  abbrev Lent : Memory
  Lent = record { table = table; store = store }

  -- The trace is the way of the search, whatever tree the memory holds.
  pub traces : Traces limits ready.limits_fit.deepest x ready.label trace Lent
  traces s valid out = rw is (way_in_written (ap (λ (m : Memory). m.table) out) (ap (λ (m : Memory). m.store) out))
    where
      way_in_written : table ≡ (written limits s).table → store ≡ (written limits s).store
          → Way limits table store x s.tree (traced limits table store x)
      way_in_written on_table on_store =
          rw (on_table, on_store)
          (way_of_trace limits (written limits s).table (written limits s).store x s.tree
          (root_of_written limits s)
          (written_represents limits s valid) (between_of_ascends s.tree valid.ascending)
          (height_within limits ready.limits_fit.deepest s valid))

  inserts : (value : ℕ) → InsertLands limits Lent x value trace
  inserts value = insert_lands limits ready.limits_fit.deepest x ready.label trace value Lent
      ready.sound traces

  deletes : DeleteLands limits Lent x trace
  deletes = delete_lands limits ready.limits_fit.deepest x ready.label trace Lent ready.sound traces

  -- The label is held already.
  pub insert_held : (value : ℕ) → (trace.found ≡ 0 → ⊥)
      → Gives (insert_outcome limits table store x value) (refused 7) table store
  insert_held value some = gives_outcome (refused 7) table store ((inserts value).held some)

  -- The table is full.
  pub insert_full : (value count : ℕ) → trace.found ≡ 0 → count ≡ get_or table 1 0 → limits.slots ≤ count
      → Gives (insert_outcome limits table store x value) (refused 9) table store
  insert_full value count none read full =
      gives_outcome (refused 9) table store ((inserts value).full none (rw read at full))

  -- The label goes in.
  pub insert_new : (value count slot : ℕ) (words bytes : List ℕ) → trace.found ≡ 0 → count ≡ get_or table 1 0
      → count < limits.slots → slot ≡ slot_taken table → words ≡ inserted_table table x value trace
      → bytes ≡ with_label limits store (slot_taken table) x
      → Gives (insert_outcome limits table store x value) (updated slot trace.visits trace.places) words bytes
  unfolding inserted_memory
  insert_new value count slot words bytes none read room taken on_table on_store =
      rw (taken, on_table, on_store)
      (gives_outcome (updated (slot_taken table) trace.visits trace.places) (inserted_table table x value trace)
      (with_label limits store (slot_taken table) x) ((inserts value).new none (rw read at room)))

  -- The label is not held.
  pub delete_missing : trace.found ≡ 0 → Gives (delete_outcome limits table store x) (refused 8) table store
  delete_missing none = gives_outcome (refused 8) table store (deletes.missing none)

  -- The label goes out.
  pub delete_gone : (words bytes : List ℕ) → (trace.found ≡ 0 → ⊥) → words ≡ deleted_table limits table store trace
      → bytes ≡ without_label limits store trace.found
      → Gives (delete_outcome limits table store x) (updated trace.found trace.visits trace.places) words bytes
  unfolding deleted_memory
  delete_gone words bytes some on_table on_store =
      rw (on_table, on_store)
      (gives_outcome (updated trace.found trace.visits trace.places) (deleted_table limits table store trace)
      (without_label limits store trace.found) (deletes.gone some))
