-- The loop's invariant: what was said and kept goes on with the bytes still to come to what all say; the text has at
-- most 96 bytes more for each byte taken.
use Rattle.std.proofs.Common.{◌≡◌, ◌+◌, ◌*◌, ◌≤◌, length, drop}
use Rattle.inputs.specs.Reads.{after}
use Rattle.shell.specs.Shells.{shell_of, progress_of}
use Rattle.shell.proofs.Shell.take.Given as goal

abbrev pub invariant-loop-byte : goal.invariant-loop-byte
invariant-loop-byte g l =
    let shell = shell_of l.self-inside.table.now l.self-inside.store.now l.self-inside.line in
    record {
      said : after (progress_of shell l.out) (drop l.byte-index l.bytes)
          ≡ after (progress_of l.fn.self l.initial.out) l.bytes;
      room : length l.out ≤ length l.initial.out + 96 * l.byte-index;
    }
