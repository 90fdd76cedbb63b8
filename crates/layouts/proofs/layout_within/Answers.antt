use borrow.Author.Rules.{rules}
use Rattle.layouts.proofs.LayoutLaws.{layout_refused, layout_done}
use Rattle.layouts.proofs.layout_within.Goals as goal

pub returns-in_err-of_memory : goal.returns-in_err-of_memory
returns-in_err-of_memory c = search (rules, layout_refused)

pub returns : goal.returns
returns c = search (rules, layout_done)
