-- The memory that the roster goes into is what layout left.
use Rattle.std.proofs.Common.{refl}
use Rattle.printing.proofs.Printed.{printed_fresh}
use Rattle.printing.proofs.put_printout.Goals as goal

pub returns : goal.returns
returns g c = printed_fresh _ _ _ _ _ refl refl c.layout.ensures _ _ _ _ _ c.put_printout_on.ensures
