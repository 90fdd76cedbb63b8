-- Delete in the words and bytes.
-- delete_written: it leaves the plain tree's next state written out.
use mathlib.Core.List.{◌∷◌}
use mathlib.Core.Path.{◌≡◌, ◌∙◌}
use Rattle.types.specs.declared.Limits.{Limits}
use Rattle.labels.specs.Labels.{Label}
use Rattle.trees.specs.Trees.{Entry}
use Rattle.trees.specs.Heights.{Deepest}
use Rattle.trees.specs.Searches.{found, full_search}
use Rattle.trees.specs.Updates.{deleted}
use Rattle.trees.specs.Plain.{State}
use Rattle.trees.specs.Valid.{Valid}
use Rattle.tables.specs.Written.{written_table, written_store, written}
use Rattle.traces.specs.declared.Trace.{Trace}
use Rattle.slots.specs.Slots.{without_label}
use Rattle.deletions.specs.Deletions.{deleted_table, deleted_memory}
use Rattle.rewritten.proofs.Traces.{Way}
use Rattle.rewritten.proofs.FromRows.{table_from_rows}
use Rattle.rewritten.proofs.FromParts.{store_from_parts}
use Rattle.rewritten.proofs.Gone.{after_gone}
use Rattle.rewritten.proofs.GoneParts.{written_parts}
use Rattle.rewritten.proofs.GoneRows.{written_rows}
use Rattle.rewritten.proofs.TakenOut.{TakenOut, found_slot, taken_out}

-- Delete in the words and bytes leaves the plain tree's next state written out.
pub delete_written : (limits : Limits) (s : State) (x : Label) (e : Entry) (trace : Trace)
    → Deepest limits.slots limits.depth → Valid limits.slots limits.width s
    → (full_search x s.tree).result ≡ found e
    → Way limits (written_table limits s) (written_store limits s) x s.tree trace
    → deleted_memory limits (written_table limits s) (written_store limits s) trace
    ≡ written limits (record { tree = deleted x s.tree; freed = e.slot ∷ s.freed; high = s.high })
unfolding deleted_memory
delete_written limits s x e trace deepest valid there way = λ i. record { table = on_table i; store = on_store i }
  where
    after : TakenOut s.tree (written_table limits s) (deleted x s.tree) e.slot
        (deleted_table limits (written_table limits s) (written_store limits s) trace)
    after = taken_out limits s x e trace deepest valid there way

    on_table : deleted_table limits (written_table limits s) (written_store limits s) trace
        ≡ written_table limits (after_gone s x e)
    on_table =
        after.stores
        ∙ table_from_rows limits _ (after_gone s x e)
        (written_rows limits s x e valid there after.out after.turned)

    on_store : without_label limits (written_store limits s) trace.found ≡ written_store limits (after_gone s x e)
    on_store =
        rw (found_slot limits s x e trace deepest valid there way)
        (store_from_parts limits (without_label limits (written_store limits s) e.slot) (after_gone s x e)
        (written_parts limits s x e valid there))
