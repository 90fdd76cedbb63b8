-- The lines of slots, of which those from place i on are still to be put: `Putting`.
use mathlib.Core.Path.{◌≡◌}
use mathlib.Core.List.{List, ◌++◌, map}
use Prim.Native.Nat.{ℕ, ◌+◌, ◌*◌, ◌≤◌}
use lib.ListN.{length, drop}
use Rattle.tables.specs.Written.{Memory}
use Rattle.printouts.specs.Printouts.{lines_for}
use Rattle.printouts.specs.Rooms.{line_room}
use Rattle.printing.specs.Prints.{shown_at}

pub record Putting (m : Memory) (slots before out : List ℕ) (i : ℕ) : Type 0 where
  pub text :
      out ++ lines_for (map (shown_at m) (drop i slots)) ≡ before ++ lines_for (map (shown_at m) slots)
  pub room : length out ≤ length before + line_room * i
