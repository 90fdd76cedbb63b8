-- The prefix fields of a node between two others, by their labels.
use Rattle.std.specs.Prelude.{List, ℕ, max}
use Rattle.types.specs.declared.Limits.{Limits}
use Rattle.labels.specs.Neighbours.{held, difference}
use Rattle.tables.specs.Words.{entry_at}
use Rattle.tables.specs.Prefix.{side_by}
use Rattle.gaps.specs.Windows.{below_in, above_in}
use Rattle.sides.specs.declared.Fields.{Fields}

abbrev pub no_fields : Fields
no_fields = record { place = 0; side = 0 }

-- the fields of the node in a slot, between the nodes in the slots below and above, 0 for none; the root's place
-- counts as 0
unfoldable pub fields_between : Limits → (table store : List ℕ) → (slot below above : ℕ) → Fields
fields_between limits table store slot below above =
    let x = held (entry_at limits table store slot).label in
    let lower = difference (below_in limits table store below) x in
    let upper = difference x (above_in limits table store above) in
    record { place = max lower upper; side = side_by lower upper }
