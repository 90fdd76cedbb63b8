use Rattle.deletions.proofs.DeletionLaws.{deleted_in_turn}
use Rattle.deletions.proofs.delete_entry.Goals as goal

pub returns-clause-table_after : goal.returns-clause-table_after
returns-clause-table_after c = search deleted_in_turn
