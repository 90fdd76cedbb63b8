use Rattle.rosters.proofs.RosterLaws.{roster_passed}
use Rattle.rosters.proofs.roster_within.Goals as goal

pub returns : goal.returns
returns c = roster_passed _ _ _ _ _ c.early_refusal.ensures c.in_default.is _ _ _ c.take_records.ensures
