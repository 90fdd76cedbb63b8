-- `records::quotes::gather` meets its contract. The invariant: the front of the buffer, and the content of what is left
-- of the part, are the content.
use Rattle.std.proofs.Common.{length}
use Rattle.records.proofs.GatherLaws.{Gathering}
use Rattle.records.proofs.quotes.gather.Given as goal

abbrev pub invariant-loop-slot : goal.invariant-loop-slot
invariant-loop-slot l = Gathering l.part (length l.initial.buffer) l.buffer l.rest l.slot-index
