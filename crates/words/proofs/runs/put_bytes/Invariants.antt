-- `words::runs::put_bytes` meets its contract. The invariant: the bytes from the index on, from their position on, are
-- what is left to write.
use Prim.Native.Nat.{◌≤◌, ◌+◌}
use lib.ListN.{length, drop}
use Rattle.words.proofs.Filling.{Left}
use Rattle.words.proofs.runs.put_bytes.Given as goal

abbrev pub invariant-loop-i : goal.invariant-loop-i
invariant-loop-i l = (l.i ≤ length l.bytes) × Left l.bytes l.initial.output l.at (drop l.i l.bytes) l.output (l.at + l.i)
