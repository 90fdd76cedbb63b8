use native.Mathlib.Omega.{arith}
use Rattle.words.proofs.ChargeLaws.{charge_stored}
use Rattle.words.proofs.charge.put_charge.Goals as goal

pub returns : goal.returns
returns c = charge_stored _ _ _ _ _ (omega (arith, c.row_start-base.ensures)) c.set_word.ensures
