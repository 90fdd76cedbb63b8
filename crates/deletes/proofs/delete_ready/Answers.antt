use Rattle.endings.proofs.Fits.{can_delete}
use Rattle.endings.proofs.Gives.{delete_missing, delete_gone}
use Rattle.deletes.proofs.delete_ready.Goals as goal

pub returns-then-trace-eq0 : goal.returns-then-trace-eq0
returns-then-trace-eq0 c = search delete_missing

pub delete_entry-requires : goal.delete_entry-requires
delete_entry-requires c = search can_delete

pub returns : goal.returns
returns c = search delete_gone
