-- The slots of an absent answer, on a sound table and store, show the map's true neighbours.
-- true_neighbours: the nodes that a search passes last are the nearest of the map, and their slots show them.
use mathlib.Core.Option.{Option, none, some, map}
use mathlib.Core.Path.{◌≡◌, refl}
use Prim.Native.Nat.{ℕ, zero, suc, ◌≤◌}
use native.Mathlib.Omega.{arith}
use Rattle.types.specs.declared.Limits.{Limits}
use Rattle.types.specs.Answers.{absent as absent_with}
use Rattle.labels.specs.Labels.{Label}
use Rattle.labels.specs.Neighbours.{Neighbour, none_below, none_above}
use Rattle.labels.proofs.Clashes.{clash}
use Rattle.trees.specs.Trees.{Entry, Tree, NodeOf, Side, left, right}
use Rattle.trees.specs.Searches.{Held, absent, found, Search, full_search, slot_of}
use Rattle.trees.specs.Heights.{Deepest}
use Rattle.trees.specs.Plain.{State}
use Rattle.trees.specs.Valid.{Valid}
use Rattle.trees.specs.Map.{Pair, Nearest, pair_of}
use Rattle.trees.proofs.SideViews.{nearest_on}
use Rattle.trees.proofs.NearestNodes.{nearest_node, nearest_of_search}
use Rattle.tables.specs.Words.{row_at}
use Rattle.tables.specs.Written.{Memory, written, written_table, written_store}
use Rattle.tables.specs.Steps.{ended, search_steps}
use Rattle.tables.specs.Outcomes.{Verdict, pass, refuse, of_memory, of_label, answer_by, answer_of, walk_answer}
use Rattle.tables.specs.Outcomes.{search_outcome, places_of}
use Rattle.tables.specs.MapClaims.{map_in, label_in, charge_in}
use Rattle.tables.proofs.Represents.{Represents}
use Rattle.written.proofs.Slots.{written_represents}
use Rattle.demands.specs.NextTo.{pair_at, NextTo, TrueNeighbours}
use Rattle.demands.proofs.Searches.{search_of_written}
use Rattle.demands.proofs.LabelsRead.{label_read, charge_read, of_node}
use Rattle.demands.proofs.OnSound.{of_sound, map_of_written}

-- what an absent answer says of the search behind it
record Missed (f : Search) (below above : ℕ) : Type 0 where
  missing : f.result ≡ absent
  lower : slot_of f.below ≡ below
  upper : slot_of f.above ≡ above

-- An answer by what is held that says absent has the neighbours that it was given.
missed_by : (h : Held) (b a v q below above visits places : ℕ)
    → answer_of h b a v q ≡ absent_with below above visits places → (h ≡ absent) × (b ≡ below) × (a ≡ above)
missed_by absent b a v q below above visits places says = (refl, cc, cc)
missed_by (found e) b a v q below above visits places says = clash cc

-- So has the answer of a walk that ended, by the verdict before it.
missed : (v : Verdict) (f : Search) (n below above visits places : ℕ)
    → answer_by v (walk_answer (ended f n)) ≡ absent_with below above visits places → Missed f below above
missed pass f n below above visits places says =
    let (missing, lower, upper) = missed_by f.result _ _ _ n below above visits places says in
    record { missing = missing; lower = lower; upper = upper }
missed (refuse number) f n below above visits places says = clash cc

module _ (limits : Limits) (m : Memory) where
  -- A slot shows the pair that its label, its value and its charge make.
  pair_at_lem : (k : ℕ) (pair : Pair) → 1 ≤ k → label_in limits m k ≡ pair.label → (row_at m.table k).value ≡ pair.value
      → charge_in m k ≡ pair.charge → pair_at limits m k ≡ some pair
  pair_at_lem zero pair low label value charge = absurd (omega arith)
  pair_at_lem (suc k) pair low label value charge = λ i.
      some (record { label = label i; value = value i; charge = charge i })

  -- The slot of each node of a represented tree shows its pair.
  slot_shows : (p s : Neighbour) {t : Tree} {e : Entry} → NodeOf e t → Represents limits m.table m.store p s t
      → pair_at limits m e.slot ≡ some (pair_of e)
  slot_shows p s there represented =
      of_node limits m (λ e. pair_at limits m e.slot ≡ some (pair_of e))
      (λ p s l r e own. pair_at_lem e.slot (pair_of e) own.low (label_read limits m own) (rw own.row)
      (charge_read limits m own)) p s there represented

  -- The slot of the node that a search passes last on a side shows its pair; 0 shows none.
  passed_shows : (side : Side) (x : Label) (t : Tree) → Represents limits m.table m.store none_below none_above t
      → (o : Option Entry) → nearest_on side (full_search x t) ≡ o → pair_at limits m (slot_of o) ≡ map pair_of o
  passed_shows side x t represented none passed = refl
  passed_shows side x t represented (some e) passed =
      slot_shows none_below none_above (nearest_node side x t passed) represented

module _ (limits : Limits) (deepest : Deepest limits.slots limits.depth) where
  -- On a valid state written out, the slots beside an absent label show the map's neighbours.
  next_on_written : (s : State) → Valid limits.slots limits.width s → (x : Label)
      → (below above visits places : ℕ)
      → search_outcome limits (written_table limits s) (written_store limits s) x ≡ absent_with below above visits places
      → NextTo limits (written limits s) x below above
  unfolding search_outcome
  next_on_written s valid x below above visits places says =
      let f = full_search x s.tree in
      let walk = (search_of_written limits deepest s valid x).walk in
      let so : Missed f below above =
      missed (of_memory limits (written_table limits s) (written_store limits s) (of_label limits x pass)) f
      (places_of (search_steps limits (written_table limits s) (written_store limits s) x)) below above visits places
      (rw walk at says) in
      record {
        smaller = near left so.missing below so.lower;
        larger = near right so.missing above so.upper;
      }
    where
      near : (side : Side) → (full_search x s.tree).result ≡ absent → (k : ℕ)
          → slot_of (nearest_on side (full_search x s.tree)) ≡ k
          → Nearest side x (map_in limits (written limits s)) (pair_at limits (written limits s) k)
      near side missing k is =
          rw (
            map_of_written limits deepest s valid,
            ← is,
            passed_shows limits (written limits s) side x s.tree (written_represents limits s valid) _ refl,
          )
          (nearest_of_search s.tree valid.ascending x missing side)

  -- So they do on every sound table and store.
  pub true_neighbours : TrueNeighbours limits
  true_neighbours =
      of_sound limits deepest
      (λ m. (x : Label) (below above visits places : ℕ)
      → search_outcome limits m.table m.store x ≡ absent_with below above visits places
      → NextTo limits m x below above)
      next_on_written
