use Rattle.compares.proofs.Laws.{order_end, order_other_end, order_bytes}
use Rattle.compares.proofs.at_place.Goals as goal

pub returns-then-x-index : goal.returns-then-x-index
returns-then-x-index c = search order_end

pub returns-then-y-index : goal.returns-then-y-index
returns-then-y-index c = search order_other_end

pub returns : goal.returns
returns c = search order_bytes
