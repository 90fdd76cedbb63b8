use Rattle.slots.proofs.Bytes.{label_set}
use Rattle.slots.proofs.set_label.Goals as goal

pub returns : goal.returns
returns c = search label_set
