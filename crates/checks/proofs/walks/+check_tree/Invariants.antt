-- `walks::check_tree` meets its contract: one law for each way out. The measure is the remaining height.
use Rattle.checks.proofs.walks.+check_tree.Given as goal

abbrev pub decreases-check_tree : goal.decreases-check_tree
decreases-check_tree l = l.remaining
