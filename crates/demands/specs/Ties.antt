-- What the first line of the search steps saves (M-106 of document 02).
use Rattle.std.specs.Prelude.{List, ◌≡◌, ℕ, zero, suc, ◌+◌}
use Rattle.types.specs.declared.Limits.{Limits}
use Rattle.labels.specs.Labels.{Label}
use Rattle.trees.specs.Searches.{Search}
use Rattle.trees.specs.Valid.{one_if}
use Rattle.tables.specs.Written.{Memory}
use Rattle.tables.specs.Steps.{Step, go_left, go_right, stop, StepRule, lines_at, is_tie, step_at, Walk, ended}
use Rattle.tables.specs.Steps.{walk_from_root, search_steps}
use Rattle.tables.specs.Outcomes.{places_of}
use Rattle.tables.specs.Claims.{Sound}

-- the walk by the steps before the request: the lines of document 01 alone
unfoldable pub steps_before : Limits → (table store : List ℕ) → Label → Walk
steps_before = walk_from_root lines_at

-- 1 at a node where the new line applies, and else 0
abbrev pub ties_at : (side d p s : ℕ) → ℕ
ties_at zero d p s = one_if (is_tie d p s)
ties_at (suc side) d p s = 0

-- a step, with so many places for those that it examined
abbrev pub examining : ℕ → Step → Step
examining n (go_left p s examined) = go_left p s n
examining n (go_right p s examined) = go_right p s n
examining n (stop examined) = stop n

abbrev pub tie_step : StepRule
tie_step x c side d p s = examining (ties_at side d p s) (step_at x c side d p s)

-- "every such node": at how many nodes of the walk now the new line applied
unfoldable pub ties_met : Limits → (table store : List ℕ) → Label → ℕ
ties_met limits table store x = places_of (walk_from_root tie_step limits table store x)

-- the walk now ends with a search, and the walk before with the same search and a place more for each such node
pub record Saved (limits : Limits) (m : Memory) (x : Label) : Type 0 where
  pub search : Search
  pub places : ℕ
  pub now : search_steps limits m.table m.store x ≡ ended search places
  pub before :
      steps_before limits m.table m.store x
      ≡ ended search (places + ties_met limits m.table m.store x)

-- The claim: "On a sound table the places count falls by one at every such node, and no other answer changes." A
-- search has the labels visited and what was found.
abbrev pub TieSaves : Limits → Type 0
TieSaves limits = (m : Memory) → Sound limits m → (x : Label) → Saved limits m x
