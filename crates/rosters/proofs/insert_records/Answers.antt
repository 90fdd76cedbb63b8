use Rattle.std.proofs.Common.{rules, arith}
use Rattle.rosters.proofs.EnteringLaws.{entering_goes_on, entering_stops, entering_ends}
use Rattle.rosters.proofs.insert_records.Goals as goal

pub returns-in-Err : goal.returns-in-Err
returns-in-Err c = entering_stops _ _ _ _ _ _ _ _ c.loop-rest.invariant (search rules) _ _ _ _ (omega arith) c.in-Err.ensures

pub loop-rest-preserved : goal.loop-rest-preserved
loop-rest-preserved c = entering_goes_on _ _ _ _ _ _ _ _ c.loop-rest.invariant (search rules) _ _ _ _ _ (omega arith) (search rules) c.in-Ok.ensures

pub returns : goal.returns
returns c = entering_ends _ _ _ _ _ _ _ _ c.loop-rest.invariant (search rules)
