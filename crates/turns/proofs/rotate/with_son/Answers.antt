use Rattle.turns.proofs.SonStored.{left_stored, right_stored}
use Rattle.turns.proofs.rotate.with_son.Goals as goal

pub returns-then-flip : goal.returns-then-flip
returns-then-flip c = search right_stored

pub returns-else-flip : goal.returns-else-flip
returns-else-flip c = search left_stored
