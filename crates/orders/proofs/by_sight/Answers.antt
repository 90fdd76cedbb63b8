use Rattle.std.proofs.Common.{rules}
use Rattle.orders.proofs.OrderLaws.{by_shown}
use Rattle.orders.proofs.by_sight.Goals as goal

pub returns : goal.returns
returns c = by_shown _ _ _ _ c.if-a-b.false c.shown.ensures c.then_with.ensures (λ k. search rules)
