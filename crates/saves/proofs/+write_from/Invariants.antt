-- `saves::write_from` meets its contract. Each return is a step of the definition.
-- The measure is the remaining height.
use Rattle.saves.proofs.+write_from.Given as goal

abbrev pub decreases-write_from : goal.decreases-write_from
decreases-write_from l = l.remaining
