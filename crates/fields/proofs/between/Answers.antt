use Rattle.fields.proofs.FieldLaws.{fields_by_differences}
use Rattle.fields.proofs.between.Goals as goal

pub returns : goal.returns
returns c = search fields_by_differences
