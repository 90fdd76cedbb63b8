-- `scans::scan` meets its contract. The invariant: what is left to read decides the whole.
use Prim.Native.Nat.{◌-◌}
use mathlib.Core.List.{[]}
use lib.ListN.{drop}
use Rattle.files.specs.FileReads.{take_entries}
use Rattle.scans.specs.Scanned.{verdict_of}
use Rattle.scans.proofs.ScanLaws.{Scans}
use Rattle.scans.proofs.scan.Given as goal

abbrev pub invariant-loop : goal.invariant-loop
invariant-loop l = Scans l.limits l.file (verdict_of (take_entries l.limits l.count [] (drop l.at l.file))) (l.count - l.counter) l.next l.before
