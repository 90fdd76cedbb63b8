-- `paths::delete_along` meets its contract. Each return is a step of the definition.
-- The measure is the length of the path.
use Rattle.paths.proofs.+delete_along.Given as goal

abbrev pub decreases-delete_along : goal.decreases-delete_along
decreases-delete_along l = l.length
