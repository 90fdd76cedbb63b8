-- Insert in the words and bytes, where a search of a sound table ended at an empty link.
use Rattle.std.specs.Prelude.{List, cond, ◌&&◌, ℕ, ◌+◌, max, eqb, length}
use Rattle.types.specs.declared.Limits.{Limits}
use Rattle.types.specs.declared.Row.{Row}
use Rattle.labels.specs.Labels.{Label}
use Rattle.trees.specs.Charges.{unknown}
use Rattle.tables.specs.Words.{root_link, labels_held}
use Rattle.tables.specs.Prefix.{side_by}
use Rattle.tables.specs.Written.{Memory}
use Rattle.words.specs.Rows.{put_row}
use Rattle.paths.specs.Paths.{insert_along, rooted}
use Rattle.traces.specs.declared.Trace.{Trace}
use Rattle.sides.specs.declared.Fields.{Fields}
use Rattle.slots.specs.Slots.{slot_taken, after_taken, with_count, with_root_place, with_label}

-- a new leaf's place: the larger of P and S, but 0 at the root
abbrev pub leaf_place : Trace → ℕ
leaf_place trace = cond (eqb trace.below 0 && eqb trace.above 0) 0 (max trace.p trace.s)

-- its side, by which neighbours it has: "'a' under 'b' has both at 1, yet no predecessor"
abbrev pub leaf_side : Trace → ℕ
leaf_side trace = cond (eqb trace.above 0) 0 (cond (eqb trace.below 0) 1 (side_by trace.p trace.s))

unfoldable pub leaf_fields : Trace → Fields
leaf_fields trace = record { place = leaf_place trace; side = leaf_side trace }

abbrev pub leaf_row : Fields → (len value : ℕ) → Row
leaf_row fields len value =
    record {
      left = 0;
      right = 0;
      place = fields.place;
      side = fields.side;
      balance = 1;
      len = len;
      value = value;
      charge = unknown;
    }

-- the leaf in its slot, one label more, the root's place counted as 0
unfoldable pub with_leaf : List ℕ → Label → (value : ℕ) → Trace → List ℕ
with_leaf table x value trace =
    with_root_place
    (put_row (with_count (after_taken table) (labels_held table + 1)) (slot_taken table)
    (leaf_row (leaf_fields trace) (length x) value)) 0

unfoldable pub inserted_table : List ℕ → Label → (value : ℕ) → Trace → List ℕ
inserted_table table x value trace =
    rooted (insert_along trace.length trace.path (with_leaf table x value trace) (root_link table) (slot_taken table))

unfoldable pub inserted_memory : Limits → (table store : List ℕ) → Label → (value : ℕ) → Trace → Memory
inserted_memory limits table store x value trace =
    record { table = inserted_table table x value trace; store = with_label limits store (slot_taken table) x }
