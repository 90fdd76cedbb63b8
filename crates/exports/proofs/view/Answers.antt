use Rattle.exported.proofs.GivenLaws.{start_fits, shown_packed, hidden_packed}
use Rattle.exports.proofs.view.Goals as goal

pub part_start-start-requires : goal.part_start-start-requires
part_start-start-requires g c = let fits = g.met.I.Index.fits.fit in search start_fits

pub returns-in-Ok : goal.returns-in-Ok
returns-in-Ok g c = search shown_packed

pub returns-in-Err : goal.returns-in-Err
returns-in-Err g c = search hidden_packed
