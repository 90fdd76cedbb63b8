use Rattle.lists.proofs.ListingLaws.{listing_done}
use Rattle.lists.proofs.list_ready.Goals as goal

pub returns : goal.returns
returns c = search listing_done
