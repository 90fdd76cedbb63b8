use Rattle.endings.proofs.Fits.{can_insert}
use Rattle.endings.proofs.Gives.{insert_held, insert_full, insert_new}
use Rattle.inserts.proofs.insert_ready.Goals as goal

pub returns-then-trace-ne0 : goal.returns-then-trace-ne0
returns-then-trace-ne0 c = search insert_held

pub returns-then-limits-held : goal.returns-then-limits-held
returns-then-limits-held c = search insert_full

pub insert_entry-slot-requires : goal.insert_entry-slot-requires
insert_entry-slot-requires c = search can_insert

pub returns : goal.returns
returns c = search insert_new
