-- The starred cases hold: the definitions compute them.
use mathlib.Core.Path.{refl}
use Rattle.labels.specs.Labels.{number_of, compare_labels, compare_from, difference_place}
use Rattle.tables.specs.Words.{row_at, part_at, label_at}
use Rattle.tables.specs.Written.{written_table, written_store}
use Rattle.tables.specs.Steps.{is_bad, search_steps}
use Rattle.tables.specs.Sound.{words_and_bytes, counted, sound_as, sound, state_of}
use Rattle.tables.specs.Outcomes.{search_outcome, layout_outcome, update_outcome}
use Rattle.cases.specs.Cases.{starred, StarredCases}

pub starred_cases : StarredCases
unfolding
    number_of compare_labels compare_from difference_place row_at part_at label_at written_table written_store is_bad search_steps
    words_and_bytes counted sound_as sound state_of search_outcome layout_outcome update_outcome starred
starred_cases = refl
