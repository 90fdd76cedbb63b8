-- What a read says comes before what the rest says.
use Rattle.std.proofs.Common.{rules}
use Rattle.shell.proofs.Writing.{writes_on, turns_on}
use Rattle.shell.proofs.pipes.answer_all.Goals as goal

pub loop-turn-preserved : goal.loop-turn-preserved
loop-turn-preserved g c = record {
  written = λ holds writes. c.loop-turn.invariant.written holds
      (writes_on _ _ _ _ _ _ _ (c.in_ok-more.ensures.more (search rules)) writes);
  turns = turns_on _ _ _ _ _ _ _ _ c.loop-turn.invariant.turns (c.in_ok-more.ensures.more (search rules));
}
