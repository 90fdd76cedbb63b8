use Rattle.slots.specs.Slots.{with_count}
use borrow.Author.Rules.{rules}
use Rattle.slots.proofs.set_count.Goals as goal

pub returns : goal.returns
unfolding with_count
returns c = search rules
