-- The fresh table is what layout leaves.
--     layout_is_fresh  in memory of the hub's lengths
use Rattle.tables.specs.Outcomes.{layout_outcome}
use Rattle.inputs.specs.Inputs.{LayoutIsFresh}

-- in memory of the hub's lengths
pub layout_is_fresh : LayoutIsFresh
unfolding layout_outcome
layout_is_fresh table store words bytes = rw (words, bytes)
