-- Delete in the words and bytes, where a search of a sound table found the label.
use Rattle.std.specs.Prelude.{List, ℕ, ◌-◌}
use Rattle.types.specs.declared.Limits.{Limits}
use Rattle.tables.specs.Words.{root_link, labels_held}
use Rattle.tables.specs.Written.{Memory}
use Rattle.paths.specs.Paths.{delete_along, rooted}
use Rattle.traces.specs.declared.Trace.{Trace}
use Rattle.slots.specs.Slots.{after_freed, with_count, with_root_place, without_label}
use Rattle.renewals.specs.Renewals.{Renewed, renewed_around}

-- the nodes around the found one renewed, the root's place counted as 0
abbrev pub ready_to_delete : Limits → (table store : List ℕ) → Trace → Renewed
ready_to_delete limits table store trace =
    renewed_around limits (with_root_place table 0) store trace.found trace.below trace.above

unfoldable pub deleted_table : Limits → (table store : List ℕ) → Trace → List ℕ
deleted_table limits table store trace =
    let ready = ready_to_delete limits table store trace in
    let out = delete_along trace.length trace.path limits.depth ready.table (root_link table)
    ready.next.place ready.next.side in
    with_count (after_freed (rooted out) trace.found) (labels_held table - 1)

unfoldable pub deleted_memory : Limits → (table store : List ℕ) → Trace → Memory
deleted_memory limits table store trace =
    record { table = deleted_table limits table store trace; store = without_label limits store trace.found }
