use Rattle.renewals.proofs.RowsFits.{rows_fit_root_placed}
use Rattle.deletions.proofs.get_ready.Goals as goal

pub renew_around-requires : goal.renew_around-requires
renew_around-requires c = rows_fit_root_placed 0 c.set_root_place.ensures c.requires
