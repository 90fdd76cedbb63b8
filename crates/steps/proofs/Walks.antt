-- The search steps on a table and a store that hold a tree go as the full comparison search on the tree goes.
-- `steps_at_missing`: a walk at a missing link is over.
-- `Agrees`: a walk ends with what a search finds and visits, and examines few places.
-- `steps_agree`: so does the walk into each subtree.
-- `Walked`, `search_agrees`: so do the search steps; the places are at most the visits and the most bytes shared with a
-- label held.
use mathlib.Core.List.{List, ◌∷◌, map-append}
use mathlib.Core.Path.{◌≡◌, refl, ap}
use Prim.Native.Nat.{ℕ, zero, suc, ◌+◌, ◌≤◌, ◌<◌, max}
use native.Mathlib.Omega.{arith}
use lib.ListN.{length}
use Rattle.types.specs.declared.Limits.{Limits}
use Rattle.labels.specs.Labels.{Label, Comparison, place_of, difference_place}
use Rattle.labels.specs.Neighbours.{Neighbour, none_below, held, none_above, difference}
use Rattle.labels.specs.Shared.{shared_bytes, most_shared}
use Rattle.labels.proofs.Difference.{difference_symmetric}
use Rattle.labels.proofs.Shared.{place_after_shared, most_of_append}
use Rattle.trees.specs.Trees.{Entry, Tree, empty, node, labels, Side, left, right}
use Rattle.trees.specs.Searches.{Search, visit, search_by, full_search}
use Rattle.trees.specs.Heights.{height}
use Rattle.trees.proofs.Sorted.{Between}
use Rattle.tables.specs.Words.{root_link}
use Rattle.tables.specs.Written.{link_of}
use Rattle.tables.specs.Steps.{Step, StepRule, step_at, Walk, ended, visit_then, walk_by, missing}
use Rattle.tables.specs.Steps.{steps_by, steps, search_steps}
use Rattle.tables.specs.Outcomes.{places_of}
use Rattle.tables.proofs.Represents.{Represents}
use Rattle.steps.proofs.Window.{Sought, sought_first}
use Rattle.steps.proofs.Node.{Goes, goes_left, goes_stop, goes_right, step_goes}
use Rattle.steps.proofs.Rows.{steps_at_node}

-- a walk that starts with the numbers P and S ends as the search does; it examines places beyond the larger of P and S,
-- up to a last one, and one more at each visit
pub record Agrees (last P S : ℕ) (walk : Walk) (search : Search) : Type 0 where
  pub places : ℕ
  pub ends : walk ≡ ended search places
  pub few : places + max P S ≤ length search.visited + last

-- a walk at a missing link is over
pub steps_at_missing : (step : StepRule) (limits : Limits) (table store : List ℕ)
    (x : Label) (remaining P S : ℕ) → steps_by step limits table store x remaining 0 P S ≡ missing
steps_at_missing step limits table store x zero P S = refl
steps_at_missing step limits table store x (suc remaining) P S = refl

-- a walk that visits a node first agrees with a search that does, if all places but one that it examines there raise
-- the larger of P and S
visited_agrees : {last P S P' S' : ℕ} {walk : Walk} {search : Search} (side : Side) (e : Entry) (examined : ℕ)
    → examined + max P S ≤ suc (max P' S') → Agrees last P' S' walk search
    → Agrees last P S (visit_then side e examined walk) (visit side e search)
visited_agrees side e examined raised rest =
    record { places = examined + rest.places; ends = ap (visit_then side e examined) rest.ends; few = omega arith }

-- a step that goes as a comparison does, which ends at the last place or before, leads to a walk that agrees, if the
-- walks into the sons agree
walk_agrees : {p s : Neighbour} {x : Label} {last P S : ℕ} {r : Comparison} {step : Step}
    (e : Entry) (to_left to_right : ℕ → ℕ → Walk) (on_left on_right : Search)
    → ((P' S' : ℕ) → Sought p x (held e.label) P' S' → Agrees last P' S' (to_left P' S') on_left)
    → ((P' S' : ℕ) → Sought (held e.label) x s P' S' → Agrees last P' S' (to_right P' S') on_right)
    → place_of r ≤ last → Goes p x e.label s P S r step
    → Agrees last P S (walk_by step e to_left to_right) (search_by r e on_left on_right)
walk_agrees e to_left to_right on_left on_right there elsewhere within (goes_left i P' S' examined sought raised) =
    visited_agrees left e examined raised (there P' S' sought)
walk_agrees e to_left to_right on_left on_right elsewhere further within (goes_stop i examined raised) =
    record { places = examined; ends = refl; few = omega arith }
walk_agrees e to_left to_right on_left on_right elsewhere there within (goes_right i P' S' examined sought raised) =
    visited_agrees right e examined raised (there P' S' sought)

-- the search steps for x end as the full comparison search does, and examine few places
pub record Walked (limits : Limits) (table store : List ℕ) (x : Label) (t : Tree) : Type 0 where
  pub walk : search_steps limits table store x ≡ ended (full_search x t) (places_of (search_steps limits table store x))
  pub shared :
      places_of (search_steps limits table store x) ≤ length (full_search x t).visited + most_shared x (labels t)

-- what a walk ended with holds its places
ended_with_places : {walk : Walk} {search : Search} {places : ℕ} → walk ≡ ended search places
    → walk ≡ ended search (places_of walk)
ended_with_places ends = cc (ap places_of ends)

-- x shares fewer bytes than the number of the last place with each label of both subtrees, and its difference place
-- with the node's label is up to the last; so it is where x shares fewer with all of them
record Near (x : Label) (last : ℕ) (l : Tree) (e : Entry) (r : Tree) : Type 0 where
  on_left_lem : most_shared x (labels l) < last
  here : difference_place x e.label ≤ last
  on_right_lem : most_shared x (labels r) < last

near_of_node : {x : Label} {last : ℕ} (l : Tree) (e : Entry) (r : Tree) → most_shared x (labels (node l e r)) < last
    → Near x last l e r
near_of_node {x} l e r less =
    let most : most_shared x (labels (node l e r))
    ≡ max (most_shared x (labels l)) (max (shared_bytes x e.label) (most_shared x (labels r))) =
    rw map-append (most_of_append x (labels l) (e.label ∷ labels r)) in
    record { on_left_lem = omega arith; here = omega (arith, place_after_shared x e.label); on_right_lem = omega arith }

module _ (limits : Limits) (table store : List ℕ) (x : Label) (last : ℕ) where
  -- the walk into a subtree goes as the full comparison search in it; the difference places of x with its window and
  -- with the labels of the subtree are up to the last place
  pub steps_agree : (t : Tree) (remaining : ℕ) (p s : Neighbour) (P S : ℕ) → Between p s t
      → Represents limits table store p s t → height t ≤ remaining → Sought p x s P S
      → difference p (held x) ≤ last → difference (held x) s ≤ last → most_shared x (labels t) < last
      → Agrees last P S (steps limits table store x remaining (link_of t) P S) (full_search x t)
  unfolding difference_place
  steps_agree empty remaining p s P S between represented fits sought lower upper less =
      rw (steps_at_missing step_at limits table store x remaining P S)
      (record { places = 0; ends = refl; few = omega (arith, sought.told.p_within, sought.told.s_within) })
  steps_agree (node l e r) zero p s P S between represented fits sought lower upper less = absurd (omega arith)
  steps_agree (node l e r) (suc remaining) p s P S between represented fits sought lower upper less =
      let c = held e.label in
      let near = near_of_node l e r less in
      rw (steps_at_node step_at limits table store x represented.0 remaining P S)
      (walk_agrees e (steps limits table store x remaining (link_of l)) (steps limits table store x remaining (link_of r))
      (full_search x l) (full_search x r)
      (λ P' S' on_left_lem. steps_agree l remaining p c P' S' between.on_left_lem represented.1 (omega arith) on_left_lem
      lower near.here near.on_left_lem)
      (λ P' S' on_right_lem. steps_agree r remaining c s P' S' between.on_right_lem represented.2 (omega arith) on_right_lem
      (rw (difference_symmetric c (held x)) near.here) upper near.on_right_lem)
      near.here (step_goes sought between.above between.below))

-- the search steps on a table and a store that hold a tree go as the full comparison search on the tree
pub search_agrees : (limits : Limits) (table store : List ℕ) (x : Label) (t : Tree) → root_link table ≡ link_of t
    → Represents limits table store none_below none_above t → Between none_below none_above t
    → height t ≤ limits.depth → Walked limits table store x t
unfolding search_steps
search_agrees limits table store x t root represented between fits =
    let last = suc (most_shared x (labels t)) in
    let whole : Agrees last 1 1 (steps limits table store x limits.depth (root_link table) 1 1) (full_search x t) =
    rw root
    (steps_agree limits table store x last t limits.depth none_below none_above 1 1 between represented fits
    (sought_first x) (omega arith) (omega arith) (omega arith)) in
    record {
      walk = ended_with_places whole.ends;
      shared = omega (arith, whole.few, ap places_of whole.ends);
    }
