-- `loads::insert_entries` meets its contract. The invariant: what is left to insert leaves the whole, and the table is
-- sound.
use Prim.Native.Nat.{◌-◌}
use lib.ListN.{drop}
use Rattle.tables.specs.Written.{lent}
use Rattle.tables.specs.Claims.{after_list}
use Rattle.loads.specs.Inserted.{calls_in}
use Rattle.loads.proofs.InsertLaws.{Inserting}
use Rattle.loads.proofs.insert_entries.Given as goal

abbrev pub invariant-loop : goal.invariant-loop
invariant-loop l = Inserting l.limits l.file (after_list l.limits (calls_in l.limits l.count (drop l.at l.file)) (lent l.initial.table l.initial.store)) l.table l.store
    (l.count - l.counter) l.next
