use Rattle.records.proofs.BareLaws.{bare_read}
use Rattle.records.proofs.fields.bare.Goals as goal

pub returns : goal.returns
returns c = bare_read _ _ _ _ c.textdata_len-len.ensures c.split_at.ensures.front c.split_at.ensures.back c.split_at.ensures.front_len
