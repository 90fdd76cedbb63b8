use Rattle.slots.proofs.Bytes.{length_of_label}
use Rattle.fields.proofs.label_in.Goals as goal

pub returns-clause-result_len_bound : goal.returns-clause-result_len_bound
returns-clause-result_len_bound c = let limits = c.args.limits in
    let store = c.args.store.now in
    let slot = c.args.slot in
    let whole = c.held_label.ensures in
    length_of_label limits store slot _ _ whole (c.requires.lengths slot)
