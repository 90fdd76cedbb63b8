-- What an update takes for granted past its first tests: an insert, a delete, a charge set.
use Rattle.std.specs.Prelude.{List, ℕ}
use Rattle.types.specs.declared.Limits.{Limits}
use Rattle.labels.specs.Labels.{Label}
use Rattle.trees.specs.Heights.{Deepest}
use Rattle.tables.specs.Claims.{Sound, LabelFits}
use Rattle.words.specs.Limits.{LimitsFit}

-- limits whose numbers fit machine words, and whose depth is the deepest that the slots allow
pub record EditsFit (limits : Limits) : Type 0 where
  pub fit : LimitsFit limits
  pub deepest : Deepest limits.slots limits.depth

-- past the tests that come before the map: the memory is sound, and the label fits
pub record Ready (limits : Limits) (table store : List ℕ) (x : Label) : Type 0 where
  pub limits_fit : EditsFit limits
  pub sound : Sound limits (record { table = table; store = store })
  pub label : LabelFits limits x

-- a sound table, in limits that fit: labels can be inserted one after the other
pub record InsertsReady (limits : Limits) (table store : List ℕ) : Type 0 where
  pub limits_fit : EditsFit limits
  pub sound : Sound limits (record { table = table; store = store })
