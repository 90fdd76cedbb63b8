-- `paths::pop_least` meets its contract. Each return is a step of the definition. The measure is the height.
use Rattle.paths.proofs.+pop_least.Given as goal

abbrev pub decreases-pop_least : goal.decreases-pop_least
decreases-pop_least l = l.height
