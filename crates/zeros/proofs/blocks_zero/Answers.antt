use Rattle.std.proofs.Common.{rules}
use Rattle.std.proofs.lemmas.Iterator.{YieldsList-from_slice}
use Rattle.std.proofs.lemmas.Iterator.Search.{all_from_yields_List}
use borrow.Author.Tests.{tests}
use Rattle.tables.specs.Sound.{all_zero}
use Rattle.zeros.proofs.blocks_zero.Goals as goal

pub returns : goal.returns
returns g c =
    all_from_yields_List all_zero _ _ _ c.all.ensures.ran (YieldsList-from_slice c.args.blocks.now cc)
    (λ x b q k. search (rules, tests))
