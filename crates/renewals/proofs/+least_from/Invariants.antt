-- `renewals::least_from` meets its contract. Each return is a step of the definition.
-- The measure is the number of nodes that remain.
use Rattle.renewals.proofs.+least_from.Given as goal

abbrev pub decreases-least_from : goal.decreases-least_from
decreases-least_from l = l.remaining
