use Rattle.eights.proofs.AgreeLaws.{order_unlike, order_alike}
use Rattle.eights.proofs.order_at.Goals as goal

pub returns-then-agree_before : goal.returns-then-agree_before
returns-then-agree_before c = search order_alike

pub returns-else-agree_before : goal.returns-else-agree_before
returns-else-agree_before c = search order_unlike
