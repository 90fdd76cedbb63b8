-- What the cost rule says of the counts of one search in a list of calls ('The cost rule' of document 01), and where a
-- walk breaks on any memory.
use Rattle.std.specs.Prelude.{List, ◌≡◌, ℕ, ◌≤◌, ◌<◌, length}
use Rattle.types.specs.declared.Limits.{Limits}
use Rattle.types.specs.Sizes.{table_length, store_length}
use Rattle.labels.specs.Labels.{Label}
use Rattle.trees.specs.Plain.{Call}
use Rattle.tables.specs.Words.{root_link}
use Rattle.tables.specs.Steps.{Walk, broken, steps, search_steps}
use Rattle.tables.specs.Outcomes.{layout_outcome, visits_of, places_of}
use Rattle.tables.specs.Claims.{LabelFits, after_list}

-- a walk that is not broken, visits at most so many nodes and examines at most so many places
pub record Few (visits places : ℕ) (w : Walk) : Type 0 where
  pub whole : w ≡ broken → ⊥
  pub few_visits : visits_of w ≤ visits
  pub examined : places_of w ≤ places

-- The claim: so is the search of every call that follows any list of calls on what layout left.
abbrev pub CountsWithin : Limits → (visits places : ℕ) → Type 0
CountsWithin limits visits places =
    (table store : List ℕ) → length table ≡ table_length limits → length store ≡ store_length limits
    → (calls : List Call) (x : Label) → LabelFits limits x
    → Few visits places
    (search_steps limits (after_list limits calls (layout_outcome limits table store).memory).table
    (after_list limits calls (layout_outcome limits table store).memory).store x)

-- The claim, on words and bytes of any content: a walk that would visit more than so many nodes, were it let visit any
-- number, is broken; so none visits more. Of the page, "its seventh node breaks a walk" (M-101 of document 02).
abbrev pub BreaksAfter : Limits → ℕ → Type 0
BreaksAfter limits visits =
    (table store : List ℕ) (x : Label) (any : ℕ)
    → visits < visits_of (steps limits table store x any (root_link table) 1 1)
    → search_steps limits table store x ≡ broken
