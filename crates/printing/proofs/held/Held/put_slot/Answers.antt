-- The label that the view shows is short enough for a line.
use Rattle.std.proofs.Common.{rules}
use Rattle.printing.proofs.Shown.{shown_short}
use Rattle.printing.proofs.held.Held.put_slot.Goals as goal

pub put_line-requires : goal.put_line-requires
put_line-requires g c = (search rules, (search shown_short, search rules))
