-- `scans::groups::up_to` meets its contract: each return is a law of the first group and what is read after it.
-- The measure is the highest number.
use Rattle.scans.proofs.groups.+up_to.Given as goal

abbrev pub decreases-up_to : goal.decreases-up_to
decreases-up_to l = l.highest
