-- `decimals::number_of` meets its contract. The loop's invariant: what is left, after the number read so far, gives the
-- value of the whole; the number is at most 65535. Assumes nothing.
use Rattle.std.proofs.Common.{◌≡◌, ◌≤◌, drop}
use Rattle.decimals.specs.Values.{value_after}
use Rattle.decimals.proofs.number_of.Given as goal

abbrev pub invariant-loop-byte : goal.invariant-loop-byte
invariant-loop-byte l = (value_after l.number (drop l.byte-index l.text) ≡ value_after 0 l.text) × (l.number ≤ 65535)
