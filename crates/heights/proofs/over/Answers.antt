use Rattle.std.proofs.Common.{arith, rules}
use Rattle.heights.proofs.OverLaws.{balance_beyond, balance_untrue, balance_true}
use Rattle.heights.proofs.over.Goals as goal

pub returns-then-balance-gt2 : goal.returns-then-balance-gt2
returns-then-balance-gt2 c = search balance_beyond

pub returns-then-left-balance : goal.returns-then-left-balance
returns-then-left-balance c = balance_untrue c.args.balance c.args.left c.args.right (λ e. omega arith)

pub returns : goal.returns
returns c = balance_true _ _ _ c.max.result (omega arith) (omega arith) (search rules)
