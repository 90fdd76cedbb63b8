-- Labels that are alike are one name to every call, on any memory.
-- one_name: search answers the same, delete and a charge set answer and leave the same, insert answers the same.
use mathlib.Core.Bool.{Bool, true, false, ◌||◌}
use mathlib.Core.List.{List, [], ◌∷◌}
use mathlib.Core.Path.{◌≡◌, refl, ◌∙◌}
use Prim.Native.Nat.{ℕ, zero, suc}
use lib.Dec.{ltb, leb, eqb}
use lib.ListN.{length}
use Rattle.types.specs.declared.Limits.{Limits}
use Rattle.labels.specs.Labels.{Label, Alike}
use Rattle.labels.proofs.Spellings.{compare_alike, compare_from_alike}
use Rattle.trees.specs.Trees.{Entry, Tree, empty, node, size}
use Rattle.trees.specs.Charges.{charged}
use Rattle.trees.specs.Searches.{Held, absent, found, full_search}
use Rattle.trees.specs.Updates.{deleted}
use Rattle.trees.specs.Plain.{State, After, insert, delete, set_charge, wrong_charge, new_entry, insert_if_room}
use Rattle.trees.specs.Plain.{after_insert, after_delete, after_charge, after_arguments, after_length, plain_step}
use Rattle.tables.specs.Words.{row_at, entry_at, root_link}
use Rattle.tables.specs.Steps.{Step, go_left, go_right, stop, Walk, broken, step_at, is_bad, walk_by, steps, search_steps}
use Rattle.tables.specs.Written.{Memory}
use Rattle.tables.specs.Sound.{state_of}
use Rattle.tables.specs.Outcomes.{Verdict, pass, refuse, of_memory, of_label, of_table, outcome_by, settled}
use Rattle.tables.specs.Outcomes.{search_outcome, update_outcome, insert_outcome, delete_outcome, charge_outcome}
use Rattle.demands.specs.Spellings.{OneName}

-- a walk from a node, by what its sons give
walk_by_lem : (t : Step) (e : Entry) (f g h k : ℕ → ℕ → Walk) → ((p s : ℕ) → f p s ≡ h p s) → ((p s : ℕ) → g p s ≡ k p s)
    → walk_by t e f g ≡ walk_by t e h k
walk_by_lem (go_left p s examined) e f g h k left right = rw (left p s)
walk_by_lem (go_right p s examined) e f g h k left right = rw (right p s)
walk_by_lem (stop examined) e f g h k left right = refl

-- a walk that is not broken here
unless_bad : (bad : Bool) (w v : Walk) → w ≡ v
    → ◌≡◌ {A = Walk} (elim bad [ true ↦ broken | false ↦ w ]) (elim bad [ true ↦ broken | false ↦ v ])
unless_bad true w v e = refl
unless_bad false w v e = e

module _ {x y : Label} (alike : Alike x y) where
  -- the step at a node
  step_alike : (c : Label) (side d p s : ℕ) → step_at x c side d p s ≡ step_at y c side d p s
  step_alike c zero d p s = rw (compare_from_alike alike c d)
  step_alike c (suc side) d p s = rw (compare_from_alike alike c d)

  -- the full search, the tree without the label, and with its charge set
  search_alike : (t : Tree) → full_search x t ≡ full_search y t
  search_alike empty = refl
  search_alike (node l e r) = rw (compare_alike alike e.label, search_alike l, search_alike r)

  deleted_alike : (t : Tree) → deleted x t ≡ deleted y t
  deleted_alike empty = refl
  deleted_alike (node l e r) = rw (compare_alike alike e.label, deleted_alike l, deleted_alike r)

  charged_alike : (n : ℕ) (t : Tree) → charged x n t ≡ charged y n t
  charged_alike n empty = refl
  charged_alike n (node l e r) = rw (compare_alike alike e.label, charged_alike n l, charged_alike n r)

  module _ (limits : Limits) (table store : List ℕ) where
    -- the walk
    steps_alike : (left link p s : ℕ)
        → steps limits table store x left link p s ≡ steps limits table store y left link p s
    steps_alike zero zero p s = refl
    steps_alike zero (suc k) p s = refl
    steps_alike (suc left) zero p s = refl
    steps_alike (suc left) (suc k) p s =
        let e = entry_at limits table store (suc k) in
        let row = row_at table (suc k) in
        let onward = walk_by_lem (step_at y e.label row.side row.place p s) e
        (steps limits table store x left row.left) (steps limits table store x left row.right)
        (steps limits table store y left row.left) (steps limits table store y left row.right)
        (λ p s. steps_alike left row.left p s) (λ p s. steps_alike left row.right p s) in
        unless_bad (ltb limits.slots (suc k) || is_bad limits row) _ _
        (rw (step_alike e.label row.side row.place p s) onward)

    -- the search's steps
    search_steps_alike : search_steps limits table store x ≡ search_steps limits table store y
    unfolding search_steps
    search_steps_alike = steps_alike limits.depth (root_link table) 1 1

  -- a delete, by what is found
  after_delete_alike : (h : Held) (s : State) → after_delete h x s ≡ after_delete h y s
  after_delete_alike absent s = refl
  after_delete_alike (found e) s = rw (deleted_alike s.tree)

  -- a charge set, by what is found
  after_charge_alike : (h : Held) (n : ℕ) (s : State) → after_charge h x n s ≡ after_charge h y n s
  after_charge_alike absent n s = refl
  after_charge_alike (found e) n s = rw (charged_alike n s.tree)

  -- of an insert, what it replies
  reply_of_new : (v : ℕ) (t : Tree) (freed : List ℕ) (high : ℕ)
      → (new_entry x v t freed high).reply ≡ (new_entry y v t freed high).reply
  reply_of_new v t [] high = refl
  reply_of_new v t (k ∷ freed) high = refl

  reply_if_room : (full : Bool) (v : ℕ) (s : State) → (insert_if_room full x v s).reply ≡ (insert_if_room full y v s).reply
  reply_if_room true v s = refl
  reply_if_room false v s = reply_of_new v s.tree s.freed s.high

  reply_of_insert : (capacity : ℕ) (h : Held) (v : ℕ) (s : State)
      → (after_insert capacity h x v s).reply ≡ (after_insert capacity h y v s).reply
  reply_of_insert capacity absent v s = reply_if_room (leb capacity (size s.tree)) v s
  reply_of_insert capacity (found e) v s = refl

  -- the plain tree's steps, by the length of the label
  module _ (capacity width : ℕ) (s : State) where
    delete_plain : plain_step capacity width (delete x) s ≡ plain_step capacity width (delete y) s
    delete_plain = rw alike.lengths (go (eqb (length y) 0) (ltb width (length y)))
      where
        go : (none long : Bool)
            → after_length none long capacity (delete x) s ≡ after_length none long capacity (delete y) s
        go true long = refl
        go false true = refl
        go false false = rw (search_alike s.tree) (after_delete_alike (full_search y s.tree).result s)

    charge_plain : (n : ℕ) → plain_step capacity width (set_charge x n) s ≡ plain_step capacity width (set_charge y n) s
    charge_plain n = rw alike.lengths (go (eqb (length y) 0) (ltb width (length y)))
      where
        by_charge : (wrong : Bool)
            → after_arguments wrong capacity (set_charge x n) s ≡ after_arguments wrong capacity (set_charge y n) s
        by_charge true = refl
        by_charge false = rw (search_alike s.tree) (after_charge_alike (full_search y s.tree).result n s)

        go : (none long : Bool)
            → after_length none long capacity (set_charge x n) s ≡ after_length none long capacity (set_charge y n) s
        go true long = refl
        go false true = refl
        go false false = by_charge (wrong_charge (set_charge x n))

    insert_plain : (v : ℕ)
        → (plain_step capacity width (insert x v) s).reply ≡ (plain_step capacity width (insert y v) s).reply
    insert_plain v = rw alike.lengths (go (eqb (length y) 0) (ltb width (length y)))
      where
        go : (none long : Bool)
            → (after_length none long capacity (insert x v) s).reply
            ≡ (after_length none long capacity (insert y v) s).reply
        go true long = refl
        go false true = refl
        go false false = rw (search_alike s.tree) (reply_of_insert capacity (full_search y s.tree).result v s)

-- an update's answer, by its verdict, its reply and its walk
answer_by_lem : (v : Verdict) (m : Memory) (limits : Limits) (w : Walk) (a b : After) → a.reply ≡ b.reply
    → (outcome_by v m (settled limits m w a)).answer ≡ (outcome_by v m (settled limits m w b)).answer
answer_by_lem pass m limits w a b e = rw e
answer_by_lem (refuse number) m limits w a b e = refl

module _ (limits : Limits) (table store : List ℕ) (x y : Label) (alike : Alike x y) where
  insert_answers : (value : ℕ)
      → (insert_outcome limits table store x value).answer ≡ (insert_outcome limits table store y value).answer
  unfolding update_outcome insert_outcome
  insert_answers value =
      answer_by_lem (of_memory limits table store (of_label limits x (of_table limits table store pass)))
      (record { table = table; store = store }) limits (search_steps limits table store x)
      (plain_step limits.slots limits.width (insert x value) (state_of limits table store))
      (plain_step limits.slots limits.width (insert y value) (state_of limits table store))
      (insert_plain alike limits.slots limits.width (state_of limits table store) value)
      ∙ rw (search_steps_alike alike limits table store, alike.lengths)

-- Labels that are alike are one name.
pub one_name : (limits : Limits) → OneName limits
unfolding search_outcome update_outcome delete_outcome charge_outcome
one_name limits = record {
  searches = λ table store x y alike. rw (alike.lengths, search_steps_alike alike limits table store);
  charges = λ table store x y charge alike.
      rw (
        charge_plain alike limits.slots limits.width (state_of limits table store) charge,
        search_steps_alike alike limits table store,
        alike.lengths,
      );
  deletes = λ table store x y alike.
      rw (
        delete_plain alike limits.slots limits.width (state_of limits table store),
        search_steps_alike alike limits table store,
        alike.lengths,
      );
  inserts = λ table store x y value alike. insert_answers limits table store x y alike value;
}
