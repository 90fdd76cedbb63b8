-- `saves::count_from` meets its contract. Each return is a step of the definition.
-- The measure is the remaining height.
use Rattle.saves.proofs.+count_from.Given as goal

abbrev pub decreases-count_from : goal.decreases-count_from
decreases-count_from l = l.remaining
