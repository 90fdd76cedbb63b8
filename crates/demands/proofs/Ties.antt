-- What the first line of the search steps saves, on a sound table and store.
-- ThreeWalks: the walk now, the walk that counts the nodes where the line applies, and the walk before.
-- walks_into: these walks into each subtree. tie_saves: what the line saves.
use mathlib.Core.List.{List}
use mathlib.Core.Path.{◌≡◌, refl, sym, ap, ◌∙◌}
use Prim.Native.Nat.{ℕ, zero, suc, ◌+◌, ◌≤◌}
use native.Mathlib.Omega.{arith}
use Rattle.types.specs.declared.Limits.{Limits}
use Rattle.labels.specs.Labels.{Label, Comparison}
use Rattle.labels.specs.Neighbours.{Neighbour, none_below, held, none_above}
use Rattle.trees.specs.Trees.{Entry, Tree, empty, node, Side, left, right}
use Rattle.trees.specs.Searches.{Search, nothing_visited, visit, stop_at}
use Rattle.trees.specs.Heights.{height, Deepest}
use Rattle.trees.specs.Plain.{State}
use Rattle.trees.specs.Valid.{Valid}
use Rattle.trees.proofs.Sorted.{Between, between_of_ascends}
use Rattle.tables.specs.Words.{root_link}
use Rattle.tables.specs.Prefix.{place_within, side_within}
use Rattle.tables.specs.Written.{link_of, written, written_table, written_store}
use Rattle.tables.specs.Steps.{Step, StepRule, lines_at, step_at, Walk, ended, visit_then, walk_by, steps_by, search_steps}
use Rattle.tables.specs.Outcomes.{places_of}
use Rattle.tables.proofs.Represents.{Represents}
use Rattle.steps.proofs.Window.{Sought, sought_first}
use Rattle.steps.proofs.Node.{Goes, goes_left, goes_stop, goes_right, step_goes}
use Rattle.steps.proofs.Rows.{steps_at_node}
use Rattle.steps.proofs.Walks.{steps_at_missing}
use Rattle.written.proofs.Rows.{root_of_written}
use Rattle.written.proofs.Slots.{written_represents}
use Rattle.written.proofs.Held.{height_within}
use Rattle.demands.specs.Ties.{steps_before, ties_at, examining, tie_step, ties_met, Saved, TieSaves}
use Rattle.demands.proofs.OnSound.{of_sound}
use Rattle.demands.proofs.TieSteps.{examining_more, lines_at_node}

-- the walk now, the one that counts the nodes where the line applies, and the one before, with what they end
record ThreeWalks (now counting before : Walk) : Type 0 where
  search : Search
  places : ℕ
  ties : ℕ
  now_ends : now ≡ ended search places
  counting_ends : counting ≡ ended search ties
  before_ends : before ≡ ended search (places + ties)

-- walks that are the same
same_walks : {now counting before now' counting' before' : Walk} → now ≡ now' → counting ≡ counting'
    → before ≡ before' → ThreeWalks now' counting' before' → ThreeWalks now counting before
same_walks a b c rest =
    record {
      search = rest.search;
      places = rest.places;
      ties = rest.ties;
      now_ends = a ∙ rest.now_ends;
      counting_ends = b ∙ rest.counting_ends;
      before_ends = c ∙ rest.before_ends;
    }

-- walks that are over, after such places
over_walks : (search : Search) (examined n : ℕ)
    → ThreeWalks (ended search examined) (ended search n) (ended search (examined + n))
over_walks search examined n =
    record {
      search = search;
      places = examined;
      ties = n;
      now_ends = refl;
      counting_ends = refl;
      before_ends = refl;
    }

-- walks that visit a node first
visited_walks : {now counting before : Walk} (side : Side) (e : Entry) (examined n : ℕ) → ThreeWalks now counting before
    → ThreeWalks (visit_then side e examined now) (visit_then side e n counting) (visit_then side e (examined + n) before)
visited_walks side e examined n rest =
    record {
      search = visit side e rest.search;
      places = examined + rest.places;
      ties = n + rest.ties;
      now_ends = ap (visit_then side e examined) rest.now_ends;
      counting_ends = ap (visit_then side e n) rest.counting_ends;
      before_ends =
          ap (visit_then side e (examined + n)) rest.before_ends
          ∙ ap (ended (visit side e rest.search)) (omega arith);
    }

-- walks by one step, with a place more in the last for each that the second has
walks_by : {p s : Neighbour} {x : Label} {P S : ℕ} {r : Comparison} {step : Step} (e : Entry) (n : ℕ)
    (on_left counting_left left_before on_right counting_right right_before : ℕ → ℕ → Walk)
    → ((P' S' : ℕ) → Sought p x (held e.label) P' S'
    → ThreeWalks (on_left P' S') (counting_left P' S') (left_before P' S'))
    → ((P' S' : ℕ) → Sought (held e.label) x s P' S'
    → ThreeWalks (on_right P' S') (counting_right P' S') (right_before P' S'))
    → Goes p x e.label s P S r step
    → ThreeWalks (walk_by step e on_left on_right) (walk_by (examining n step) e counting_left counting_right)
    (walk_by (examining_more n step) e left_before right_before)
walks_by e n _ _ _ _ _ _ on_left_lem on_right_lem (goes_left i P' S' examined sought raised) =
    visited_walks left e examined n (on_left_lem P' S' sought)
walks_by e n _ _ _ _ _ _ on_left_lem on_right_lem (goes_stop i examined raised) =
    over_walks (stop_at e) examined n
walks_by e n _ _ _ _ _ _ on_left_lem on_right_lem (goes_right i P' S' examined sought raised) =
    visited_walks right e examined n (on_right_lem P' S' sought)

module _ (limits : Limits) (table store : List ℕ) (x : Label) where
  -- the walk into a subtree by a rule
  abbrev walk : StepRule → (remaining link p s : ℕ) → Walk
  walk step = steps_by step limits table store x

  -- the three walks into a subtree
  walks_into : (t : Tree) (remaining : ℕ) (p s : Neighbour) (P S : ℕ) → Between p s t
      → Represents limits table store p s t → height t ≤ remaining → Sought p x s P S
      → ThreeWalks (walk step_at remaining (link_of t) P S) (walk tie_step remaining (link_of t) P S)
      (walk lines_at remaining (link_of t) P S)
  walks_into empty remaining p s P S between represented fits sought =
      same_walks (steps_at_missing step_at limits table store x remaining P S)
      (steps_at_missing tie_step limits table store x remaining P S)
      (steps_at_missing lines_at limits table store x remaining P S) (over_walks nothing_visited 0 0)
  walks_into (node l e r) zero p s P S between represented fits sought = absurd (omega arith)
  walks_into (node l e r) (suc remaining) p s P S between represented fits sought =
      same_walks (steps_at_node step_at limits table store x represented.0 remaining P S)
      (steps_at_node tie_step limits table store x represented.0 remaining P S)
      (steps_at_node lines_at limits table store x represented.0 remaining P S
      ∙ ap (λ (step : Step). walk_by step e (walk lines_at remaining (link_of l)) (walk lines_at remaining (link_of r)))
      (lines_at_node sought between.above between.below))
      (walks_by e (ties_at (side_within p e.label s) (place_within p e.label s) P S)
      (walk step_at remaining (link_of l)) (walk tie_step remaining (link_of l)) (walk lines_at remaining (link_of l))
      (walk step_at remaining (link_of r)) (walk tie_step remaining (link_of r)) (walk lines_at remaining (link_of r))
      (λ P' S'. walks_into l remaining p (held e.label) P' S' between.on_left_lem represented.1 (omega arith))
      (λ P' S'. walks_into r remaining (held e.label) s P' S' between.on_right_lem represented.2 (omega arith))
      (step_goes sought between.above between.below))

module _ (limits : Limits) (deepest : Deepest limits.slots limits.depth) where
  -- on a valid state written out
  saved_on_written : (x : Label) (s : State) → Valid limits.slots limits.width s
      → Saved limits (written limits s) x
  unfolding search_steps steps_before ties_met
  saved_on_written x s valid =
      let table = written_table limits s in
      let store = written_store limits s in
      let walked : ThreeWalks (walk limits table store x step_at limits.depth (root_link table) 1 1)
      (walk limits table store x tie_step limits.depth (root_link table) 1 1)
      (walk limits table store x lines_at limits.depth (root_link table) 1 1) =
      rw (root_of_written limits s)
      (walks_into limits table store x s.tree limits.depth none_below none_above 1 1
      (between_of_ascends s.tree valid.ascending) (written_represents limits s valid)
      (height_within limits deepest s valid) (sought_first x)) in
      record {
        search = walked.search;
        places = walked.places;
        now = walked.now_ends;
        before =
            walked.before_ends
            ∙ ap (λ (n : ℕ). ended walked.search (walked.places + n)) (sym (ap places_of walked.counting_ends));
      }

  -- What the first line saves.
  pub tie_saves : TieSaves limits
  tie_saves m sound x = of_sound limits deepest (λ m. Saved limits m x) (saved_on_written x) m sound
