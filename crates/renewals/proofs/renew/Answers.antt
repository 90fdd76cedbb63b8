use Rattle.renewals.proofs.RenewalLaws.{renewed_by_fields}
use Rattle.renewals.proofs.renew.Goals as goal

pub returns : goal.returns
returns c = let both = renewed_by_fields c.args.limits c.args.table.now c.args.store.now
    c.args.slot
    c.args.below c.args.above _ _ _ _ c.between-fields.ensures c.row_of-row.ensures
    c.prefixed.ensures c.put_row.ensures c.requires in record { table_after = both.0; rows_fit = both.1 }
