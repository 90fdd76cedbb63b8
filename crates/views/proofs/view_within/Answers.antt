use Rattle.views.proofs.ViewLaws.{view_has_row, view_label, view_shown, view_hidden}
use Rattle.views.proofs.view_within.Goals as goal

pub returns-in_default : goal.returns-in_default
returns-in_default c = search view_hidden

pub held_label-requires-clause-has_row : goal.held_label-requires-clause-has_row
held_label-requires-clause-has_row c = search view_has_row

pub held_label-requires-clause-label_inside : goal.held_label-requires-clause-label_inside
held_label-requires-clause-label_inside c = search view_label

pub returns : goal.returns
returns c = search view_shown
