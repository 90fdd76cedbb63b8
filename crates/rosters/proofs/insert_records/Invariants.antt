-- `rosters::insert_records` meets its contract. The invariant: what is left of the text gives the whole, and the table
-- is sound. The measure is what is left of the text.
use lib.ListN.{length}
use Rattle.tables.specs.Written.{lent}
use Rattle.rfc4180.specs.Records.{records_of}
use Rattle.rfc4180.specs.Rosters.{roster_from}
use Rattle.rosters.proofs.EnteringLaws.{Entering}
use Rattle.rosters.proofs.insert_records.Given as goal

abbrev pub invariant-loop-rest : goal.invariant-loop-rest
invariant-loop-rest l =
    Entering l.limits l.text (roster_from l.limits 0 (records_of l.text) (lent l.initial.table l.initial.store))
    l.table l.store l.buffer l.rest l.count

abbrev pub decreases-loop-rest : goal.decreases-loop-rest
decreases-loop-rest l = length l.rest
