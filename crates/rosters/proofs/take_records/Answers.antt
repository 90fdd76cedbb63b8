use Rattle.std.proofs.Common.{rules}
use Rattle.rosters.proofs.RosterLaws.{first_refused}
use Rattle.rosters.proofs.take_records.Goals as goal

pub returns-in-Err : goal.returns-in-Err
returns-in-Err c = first_refused _ _ _ _ _ c.requires (search rules) _ c.first_refusal.ensures _ c.in-Err.is
