use Rattle.std.proofs.Common.{arith}
use Rattle.std.proofs.lemmas.List.{set-get_or}
use Rattle.records.proofs.GatherLaws.{gather_goes_on, gather_ends}
use Rattle.records.proofs.quotes.gather.Goals as goal

pub loop-slot-preserved : goal.loop-slot-preserved
loop-slot-preserved c = search gather_goes_on

pub returns-in_default : goal.returns-in_default
returns-in_default c = rw set-get_or (gather_ends _ _ _ _ _ c.loop-slot.invariant (omega arith))
