-- The loop's invariant: what is put goes on with the lines of the slots still to come to those of all, with at most
-- 107 bytes for each slot.
use Rattle.printing.proofs.Slots.{Putting}
use Rattle.printing.proofs.held.Held.put_lines.Given as goal

abbrev pub invariant-loop-slot : goal.invariant-loop-slot
invariant-loop-slot g l = Putting l.self l.slots l.initial.out l.out l.slot-index
