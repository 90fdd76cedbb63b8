use borrow.Author.Rules.{rules}
use Rattle.lists.proofs.ListingLaws.{list_ready}
use Rattle.saves.proofs.SavingLaws.{saving_refused, saving_passed}
use Rattle.saves.proofs.save_within.Goals as goal

pub returns-in_err-whole_table : goal.returns-in_err-whole_table
returns-in_err-whole_table c = search (rules, saving_refused)

pub save_ready-requires : goal.save_ready-requires
save_ready-requires c = search (rules, list_ready)

pub returns : goal.returns
returns c = saving_passed _ _ _ _ c.whole_table.ensures c.requires (search rules) _ _ _ c.save_ready.ensures
