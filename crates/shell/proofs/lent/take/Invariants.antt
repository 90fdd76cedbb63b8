-- The loop's invariant: what was said and kept goes on with the bytes still to come to what all say; the text has at
-- most 96 bytes for each byte taken.
use Rattle.std.proofs.Common.{◌≡◌, ◌*◌, ◌≤◌, drop}
use Rattle.inputs.specs.Reads.{after, taken}
use Rattle.shell.specs.Shells.{shell_of}
use Rattle.shell.specs.Lent.{progress_in}
use Rattle.shell.proofs.lent.take.Given as goal

abbrev pub invariant-loop-byte : goal.invariant-loop-byte
invariant-loop-byte l = record {
  said : after (progress_in l.table l.store l.out (record { line = l.line; end = l.end })) (drop l.byte-index l.bytes)
      ≡ taken (shell_of l.initial.table l.initial.store l.initial.line) l.bytes;
  room : l.end ≤ 96 * l.byte-index;
}
