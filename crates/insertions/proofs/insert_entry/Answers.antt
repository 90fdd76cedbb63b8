use mathlib.Core.Path.{ap, ◌∙◌}
use Rattle.slots.specs.Slots.{with_label}
use Rattle.insertions.proofs.InsertionLaws.{inserted_in_turn}
use Rattle.insertions.proofs.insert_entry.Goals as goal

pub returns-clause-table_after : goal.returns-clause-table_after
returns-clause-table_after c =
    let label = c.args.label.now in
    let of_slot = c.hang_leaf-slot.ensures.value in
    let of_store =
    c.set_label.ensures ∙ ap (λ k. with_label c.args.limits c.args.store.now k label) of_slot in
    search inserted_in_turn
