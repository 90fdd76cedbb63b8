-- Where there is room the byte is kept, and where there is none the line stays.
use Rattle.std.proofs.Common.{arith}
use Rattle.keeps.proofs.Keeping.{kept_with_room, kept_without_room, padded_with_one}
use Rattle.keeps.proofs.Line.push.Goals as goal

pub invariant_of-self : goal.invariant_of-self
invariant_of-self c = padded_with_one _ _ _ c.self.invariant (omega (arith, c.if-self-lt-ROOM.true))

pub returns-then-self-lt-ROOM : goal.returns-then-self-lt-ROOM
returns-then-self-lt-ROOM c =
    rw (← c.self.view_is) (kept_with_room _ _ _ c.self.invariant (omega (arith, c.if-self-lt-ROOM.true)))

pub returns-else-self-lt-ROOM : goal.returns-else-self-lt-ROOM
returns-else-self-lt-ROOM c =
    rw (← c.self.view_is) (kept_without_room _ _ _ c.self.invariant (omega (arith, c.if-self-lt-ROOM.false)))
