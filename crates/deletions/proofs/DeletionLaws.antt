-- `deleted_in_turn`: the steps of delete, in the form in which the code takes them.
use Prim.Native.Nat.{ℕ, ◌-◌}
use mathlib.Core.Path.{◌≡◌, ap, ◌∙◌}
use mathlib.Core.List.{List}
use lib.ListN.{get_or}
use Rattle.types.specs.declared.Limits.{Limits}
use Rattle.tables.specs.Words.{root_link, labels_held}
use Rattle.turns.specs.Turns.{Turned}
use Rattle.paths.specs.Paths.{delete_along, rooted}
use Rattle.traces.specs.declared.Trace.{Trace}
use Rattle.sides.specs.declared.Fields.{Fields}
use Rattle.slots.specs.Slots.{after_freed, with_count}
use Rattle.deletions.specs.Deletions.{ready_to_delete, deleted_table}

module _ (limits : Limits) (table store : List ℕ) (trace : Trace) where
  -- The steps of delete: the nodes around renewed, the node taken out, its slot freed and the label no more counted.
  pub deleted_in_turn : (root count : ℕ) (next : Fields) (ready out done : List ℕ) → root ≡ get_or table 0 0
      → count ≡ get_or table 1 0
      → next ≡ (ready_to_delete limits table store trace).next → ready ≡ (ready_to_delete limits table store trace).table
      → out ≡ rooted (delete_along trace.length trace.path limits.depth ready root next.place next.side)
      → done ≡ with_count (after_freed out trace.found) (count - 1) → done ≡ deleted_table limits table store trace
  unfolding deleted_table
  deleted_in_turn root count next ready out done of_root of_count of_next of_ready of_out counted =
      let prepared = ready_to_delete limits table store trace in
      let along : List ℕ → ℕ → Fields → Turned =
      λ t r f. delete_along trace.length trace.path limits.depth t r f.place f.side in
      let taken_out : out ≡ rooted (along prepared.table (root_link table) prepared.next) =
      of_out ∙ ap (λ t. rooted (along t root next)) of_ready ∙ ap (λ r. rooted (along prepared.table r next)) of_root
      ∙ ap (λ f. rooted (along prepared.table (root_link table) f)) of_next in
      counted ∙ ap (λ n. with_count (after_freed out trace.found) (n - 1)) of_count
      ∙ ap (λ t. with_count (after_freed t trace.found) (labels_held table - 1)) taken_out
