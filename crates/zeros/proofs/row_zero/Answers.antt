use Rattle.std.proofs.Common.{rules}
use Rattle.std.proofs.lemmas.Iterator.{YieldsList-from_slice}
use Rattle.std.proofs.lemmas.Iterator.Consumers.{fold_from_yields_List}
use Rattle.std.specs.Int.Bits.{bit_or}
use Rattle.zeros.proofs.ZeroLaws.{gathered_zero}
use Rattle.zeros.proofs.row_zero.Goals as goal

pub returns : goal.returns
returns c =
    gathered_zero c.fold.result c.args.row.now (fold_from_yields_List _ bit_or 0 c.fold.result c.fold.ensures.ran
    (YieldsList-from_slice c.args.row.now cc) (λ a x b q k. search rules))
