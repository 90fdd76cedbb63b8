use Rattle.insertions.specs.Insertions.{with_leaf}
use Rattle.insertions.proofs.hang_leaf.Goals as goal

pub returns-clause-table_after : goal.returns-clause-table_after
unfolding with_leaf
returns-clause-table_after c = simp (c.put_leaf.ensures, c.count_in-slot.ensures.table_after, c.count_in-slot.ensures.value)
    at c.set_root_place.ensures
