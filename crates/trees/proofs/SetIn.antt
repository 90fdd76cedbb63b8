-- One node set in among others: what insert does to the nodes in order, and what delete undoes.
-- inserted_sets_in: insert of a label that is not held sets the new node in at some place.
-- found_is_set_in: the nodes are those that delete leaves, with the found node set in at some place.
use mathlib.Core.List.{List, [], ◌∷◌, ◌++◌, append_assoc}
use mathlib.Core.Path.{◌≡◌, refl}
use Rattle.labels.specs.Labels.{Label, Comparison, smaller, same, larger, compare_labels}
use Rattle.labels.proofs.Clashes.{clash}
use Rattle.trees.specs.Trees.{Entry, Tree, empty, node, entries}
use Rattle.trees.specs.Searches.{absent, found, Search, search_by, full_search}
use Rattle.trees.specs.Updates.{inserted_by, inserted, deleted_by, deleted}
use Rattle.trees.proofs.Entries.{entries_of_rebalanced, entries_of_joined}

-- with is without, and one entry set in at some place
pub record SetIn (new : Entry) (without with : List Entry) : Type 0 where
  pub first : List Entry
  pub last : List Entry
  pub lacking : without ≡ first ++ last
  pub having : with ≡ first ++ (new ∷ last)

-- More nodes may follow, or stand before.
with_more_after : {new : Entry} {without with : List Entry} (more : List Entry)
    → SetIn new without with → SetIn new (without ++ more) (with ++ more)
with_more_after {new} more s = record {
  first = s.first;
  last = s.last ++ more;
  lacking = rw (s.lacking, append_assoc);
  having = rw (s.having, append_assoc);
}

with_more_before : {new : Entry} {without with : List Entry} (more : List Entry)
    → SetIn new without with → SetIn new (more ++ without) (more ++ with)
with_more_before {new} more s = record {
  first = more ++ s.first;
  last = s.last;
  lacking = rw (s.lacking, append_assoc);
  having = rw (s.having, append_assoc);
}

module _ (l : Tree) (e : Entry) (r : Tree) {new : Entry} where
  -- A node set in among those of a son is set in among those of the tree.
  set_in_left : {without with : List Entry} → SetIn new without with
      → SetIn new (without ++ (e ∷ entries r)) (with ++ (e ∷ entries r))
  set_in_left s = with_more_after (e ∷ entries r) s

  set_in_right : {without with : List Entry} → SetIn new without with
      → SetIn new (entries l ++ (e ∷ without)) (entries l ++ (e ∷ with))
  set_in_right s = with_more_before (entries l) (with_more_before (e ∷ []) s)

module _ (l : Tree) (e : Entry) (r l' r' : Tree) (on_left on_right : Search) where
  inserted_by_sets_in : (c : Comparison) {new : Entry} → (search_by c e on_left on_right).result ≡ absent
      → (on_left.result ≡ absent → SetIn new (entries l) (entries l'))
      → (on_right.result ≡ absent → SetIn new (entries r) (entries r'))
      → SetIn new (entries (node l e r)) (entries (inserted_by c l e r l' r'))
  inserted_by_sets_in (smaller i) none onL onR = rw entries_of_rebalanced (set_in_left l e r (onL none))
  inserted_by_sets_in (same i) none onL onR = clash cc
  inserted_by_sets_in (larger i) none onL onR = rw entries_of_rebalanced (set_in_right l e r (onR none))

  found_is_set_in_by : (c : Comparison) {gone : Entry} → (search_by c e on_left on_right).result ≡ found gone
      → (on_left.result ≡ found gone → SetIn gone (entries l') (entries l))
      → (on_right.result ≡ found gone → SetIn gone (entries r') (entries r))
      → SetIn gone (entries (deleted_by c l e r l' r')) (entries (node l e r))
  found_is_set_in_by (smaller i) held onL onR = rw entries_of_rebalanced (set_in_left l e r (onL held))
  found_is_set_in_by (same i) {gone} held onL onR =
      let here : e ≡ gone = cc in
      record { first = entries l; last = entries r; lacking = entries_of_joined l r; having = rw here }
  found_is_set_in_by (larger i) held onL onR = rw entries_of_rebalanced (set_in_right l e r (onR held))

-- Insert of a label that is not held sets the new node in at some place.
pub inserted_sets_in : (new : Entry) (t : Tree) → (full_search new.label t).result ≡ absent
    → SetIn new (entries t) (entries (inserted new t))
inserted_sets_in new empty none = record { first = []; last = []; lacking = refl; having = refl }
inserted_sets_in new (node l e r) none =
    inserted_by_sets_in l e r (inserted new l) (inserted new r) (full_search new.label l) (full_search new.label r)
    (compare_labels new.label e.label) none (inserted_sets_in new l) (inserted_sets_in new r)

-- The nodes are those that delete leaves, with the found node set in at some place.
pub found_is_set_in : (x : Label) (t : Tree) {e : Entry} → (full_search x t).result ≡ found e
    → SetIn e (entries (deleted x t)) (entries t)
found_is_set_in x empty held = clash cc
found_is_set_in x (node l e r) held =
    found_is_set_in_by l e r (deleted x l) (deleted x r) (full_search x l) (full_search x r)
    (compare_labels x e.label) held (found_is_set_in x l) (found_is_set_in x r)
