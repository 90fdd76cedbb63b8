-- `paths::insert_along` meets its contract. Each return is a step of the definition.
-- The measure is the length of the path.
use Rattle.paths.proofs.+insert_along.Given as goal

abbrev pub decreases-insert_along : goal.decreases-insert_along
decreases-insert_along l = l.length
