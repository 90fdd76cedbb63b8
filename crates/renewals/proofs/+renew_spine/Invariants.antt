-- `renewals::renew_spine` meets its contract. Each return is a step of the definition.
-- The measure is the number of nodes that remain.
use Rattle.renewals.proofs.+renew_spine.Given as goal

abbrev pub decreases-renew_spine : goal.decreases-renew_spine
decreases-renew_spine l = l.remaining
