use borrow.Author.Tests.{not-true, not-false}
use Rattle.nodechecks.proofs.NodeLaws.{node_unused, node_used, node_placed}
use Rattle.nodechecks.proofs.node_gaps.Goals as goal

pub returns-then-not-used_row : goal.returns-then-not-used_row
returns-then-not-used_row c = search (node_unused, not-true)

pub label_at-label-requires : goal.label_at-label-requires
label_at-label-requires c = search (node_used, not-false)

pub returns : goal.returns
returns c = search (node_placed, not-false)
