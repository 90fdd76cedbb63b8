-- `search::walks::walk` meets its contract.
-- The invariant: from the link reached, the answer is that from the root; the counts are within their bounds.
-- The measure: the nodes that are left to visit.
use Rattle.tables.specs.Steps.{steps}
use Rattle.tables.specs.Outcomes.{walk_answer}
use Rattle.search.proofs.Answers.{Reached}
use Rattle.search.proofs.walks.walk.Given as goal

abbrev pub invariant-loop-ends : goal.invariant-loop-ends
invariant-loop-ends l = Reached l.limits l.table l.store l.label (walk_answer (steps l.limits l.table l.store l.label l.limits.depth l.root 1 1))
    l.link l.remaining l.places l.ends l.near

abbrev pub decreases-loop-ends : goal.decreases-loop-ends
decreases-loop-ends l = l.remaining
