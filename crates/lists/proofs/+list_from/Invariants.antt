-- `lists::list_from` meets its contract. Each return is a step of the definition.
-- The measure is the remaining height.
use Rattle.lists.proofs.+list_from.Given as goal

abbrev pub decreases-list_from : goal.decreases-list_from
decreases-list_from l = l.remaining
