use Rattle.fields.proofs.FieldLaws.{place_of_compared}
use Rattle.fields.proofs.difference_place.Goals as goal

pub returns : goal.returns
returns c = search place_of_compared
