-- What the byte says is put behind what was said before.
use Rattle.shell.proofs.Behind.{said_behind}
use Rattle.shell.proofs.lent.take_byte.Goals as goal

pub returns-clause-result_after : goal.returns-clause-result_after
returns-clause-result_after c =
    said_behind _ _ _ _ _ _ _ _ c.new-said.ensures c.take_byte.ensures.says c.bytes.ensures.value c.put.ensures.text
