-- What is read prints what the whole text prints.
use Rattle.std.proofs.Common.{◌≡◌, ◌∙◌, arith, length}
use Rattle.printing.proofs.Filled.{prints_read}
use Rattle.printing.proofs.pipes.run.Goals as goal

pub returns : goal.returns
returns g c =
    let full : length c.read_full.new.text ≡ 16385 = omega arith in
    let printed = rw c.new-out.ensures at c.put_printout.ensures.text in
    prints_read _ _ _ _ _ _ _ full c.in_ok-len.ensures.front (c.bytes.ensures.value ∙ printed) c.write_all.ensures.bytes
