use borrow.Author.Rules.{rules}
use Rattle.lists.proofs.ListingLaws.{listing_refused, list_ready, listing_passed}
use Rattle.lists.proofs.listing_within.Goals as goal

pub returns-in_err-whole_table : goal.returns-in_err-whole_table
returns-in_err-whole_table c = search (rules, listing_refused)

pub list_ready-requires : goal.list_ready-requires
list_ready-requires c = search (rules, list_ready)

pub returns : goal.returns
returns c = listing_passed _ _ _ _ c.whole_table.ensures c.requires (search rules) _ _ _ c.list_ready.ensures
