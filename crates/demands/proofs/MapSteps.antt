-- The plain tree's steps are those of the ordered map, for a label that fits.
-- step_past_label, step_of_fitting: a call with a label that fits is settled by the test of its charge, and past it by
-- what its search found.
-- pair_of_answer, search_answered: a search says the pair held, and is not refused.
-- insert_reply, insert_map: an insert is refused or done as the map has it, and leaves the map with the new pair.
-- delete_reply, delete_map: a delete is refused or done as the map has it, and leaves the map without the label.
use mathlib.Core.List.{List, [], ◌∷◌}
use mathlib.Core.Option.{none}
use mathlib.Core.Path.{◌≡◌, refl, sym, ap, ◌∙◌}
use mathlib.Core.Bool.{Bool, true, false}
use Prim.Native.Nat.{ℕ, suc, ◌≤◌}
use native.Mathlib.Omega.{arith}
use lib.Dec.{leb}
use lib.ListN.{length}
use borrow.Author.Tests.{ne_eqb, le-ltb, leb-true, leb-false}
use Rattle.types.specs.declared.Limits.{Limits}
use Rattle.types.specs.Answers.{refused}
use Rattle.labels.specs.Labels.{Label, Comparison, smaller, same, larger, compare_labels}
use Rattle.labels.proofs.Clashes.{clash}
use Rattle.trees.specs.Trees.{Entry, size, labels}
use Rattle.trees.specs.Charges.{unknown}
use Rattle.trees.specs.Searches.{Held, absent, found, full_search}
use Rattle.trees.specs.Plain.{State, Call, sought_by, wrong_charge, after_search, new_node, new_entry, insert_if_room}
use Rattle.trees.specs.Plain.{after_insert, after_delete, after_full_search, after_arguments, plain_step}
use Rattle.trees.specs.Map.{Pair, lookup_by, lookup, removal_by, removal, map_of}
use Rattle.trees.specs.Valid.{ascends}
use Rattle.trees.proofs.MapLaws.{pair_in, map_of_inserted, map_of_deleted}
use Rattle.tables.specs.Written.{Memory}
use Rattle.tables.specs.Steps.{Walk}
use Rattle.tables.specs.Outcomes.{reply_answer}
use Rattle.tables.specs.MapClaims.{label_in, charge_in, pair_said, Said, accepted, said, insert_said, map_after_insert}
use Rattle.tables.specs.MapClaims.{delete_said}

-- Without a label that is not held, a map is as it was.
removal_of_missing : (x : Label) (m : List Pair) → lookup x m ≡ none → removal x m ≡ m
removal_of_missing x [] missing = refl
removal_of_missing x (p ∷ more) missing =
    by_comparison (compare_labels x p.label) missing (removal_of_missing x more)
  where
    by_comparison : (c : Comparison) → lookup_by c p (lookup x more) ≡ none
        → (lookup x more ≡ none → removal x more ≡ more)
        → removal_by c p more (removal x more) ≡ p ∷ more
    by_comparison (smaller i) none_here further = refl
    by_comparison (same i) none_here further = clash cc
    by_comparison (larger i) none_here further = ap (λ (rest : List Pair). p ∷ rest) (further none_here)

-- A call with a label that fits is settled by the test of its charge, and past it
pub step_past_label : (capacity width : ℕ) (c : Call) (s : State)
    → 1 ≤ length (sought_by c) → length (sought_by c) ≤ width
    → plain_step capacity width c s ≡ after_arguments (wrong_charge c) capacity c s
step_past_label capacity width c s long short =
    rw (ne_eqb (length (sought_by c)) 0 (omega arith), le-ltb width (length (sought_by c)) short)

-- by what its search found.
pub step_of_fitting : (capacity width : ℕ) (c : Call) (s : State)
    → 1 ≤ length (sought_by c) → length (sought_by c) ≤ width → wrong_charge c ≡ false
    → plain_step capacity width c s ≡ after_full_search capacity c (full_search (sought_by c) s.tree) s
step_of_fitting capacity width c s long short right =
    step_past_label capacity width c s long short ∙ ap (λ (wrong : Bool). after_arguments wrong capacity c s) right

module _ (s : State) (w : Walk) where
  -- A search says the pair held, where the slot of the node found shows the node's label and its charge.
  pub pair_of_answer : (limits : Limits) (m : Memory) (h : Held) (below above : ℕ)
      → ((e : Entry) → h ≡ found e → label_in limits m e.slot ≡ e.label)
      → ((e : Entry) → h ≡ found e → charge_in m e.slot ≡ e.charge)
      → pair_said limits m (reply_answer (after_search h below above s).reply w) ≡ pair_in h
  pair_of_answer limits m absent below above shows has = refl
  pair_of_answer limits m (found e) below above shows has = rw (shows e refl, has e refl)

  -- A search is not refused.
  pub search_answered : (h : Held) (below above number : ℕ)
      → reply_answer (after_search h below above s).reply w ≡ refused number → ⊥
  search_answered absent below above number no_answer = clash cc
  search_answered (found e) below above number no_answer = clash cc

  module _ (capacity : ℕ) (x : Label) (v : ℕ) where
    -- what an insert says by what its search found
    abbrev said_by : Held → Said
    said_by h = said (reply_answer (after_insert capacity h x v s).reply w)

    -- A new entry is accepted.
    accepted_new : (freed : List ℕ) → said (reply_answer (new_entry x v s.tree freed s.high).reply w) ≡ accepted
    accepted_new [] = refl
    accepted_new (k ∷ freed) = refl

    -- An insert is refused by 7 where the label is held, else by 9 where the tree is full, else done.
    pub insert_reply : (h : Held) → insert_said (pair_in h) (size s.tree) capacity (said_by h)
    insert_reply (found e) = refl
    insert_reply absent = by_room (leb capacity (size s.tree)) refl
      where
        by_room : (full : Bool) → leb capacity (size s.tree) ≡ full
            → insert_said none (size s.tree) capacity (said (reply_answer (insert_if_room full x v s).reply w))
        by_room true full =
            let above = leb-true capacity (size s.tree) full in
            (λ filled. refl, λ vacant. absurd (omega arith))
        by_room false room =
            let below = leb-false capacity (size s.tree) room in
            (λ filled. absurd (omega arith), λ vacant. accepted_new s.freed)

    -- An insert that is done leaves the map with the new pair; a refused one leaves the map.
    pub insert_map : ascends (labels s.tree) ≡ true → (h : Held)
        → map_of (after_insert capacity h x v s).state.tree
        ≡ map_after_insert (said_by h) (record { label = x; value = v; charge = unknown }) (map_of s.tree)
    insert_map ascending (found e) = refl
    insert_map ascending absent = by_room (leb capacity (size s.tree))
      where
        by_free : (freed : List ℕ) → map_of (new_entry x v s.tree freed s.high).state.tree
            ≡ map_after_insert (said (reply_answer (new_entry x v s.tree freed s.high).reply w))
            (record { label = x; value = v; charge = unknown }) (map_of s.tree)
        by_free [] = map_of_inserted s.tree ascending (new_node x v (suc s.high))
        by_free (k ∷ freed) = map_of_inserted s.tree ascending (new_node x v k)

        by_room : (full : Bool) → map_of (insert_if_room full x v s).state.tree
            ≡ map_after_insert (said (reply_answer (insert_if_room full x v s).reply w))
            (record { label = x; value = v; charge = unknown }) (map_of s.tree)
        by_room true = refl
        by_room false = by_free s.freed

  module _ (x : Label) where
    -- A delete is done where the label is held, else refused by 8.
    pub delete_reply : (h : Held) → delete_said (pair_in h) (said (reply_answer (after_delete h x s).reply w))
    delete_reply (found e) = refl
    delete_reply absent = refl

    -- A delete leaves the map without the label.
    pub delete_map : ascends (labels s.tree) ≡ true → (h : Held) → pair_in h ≡ lookup x (map_of s.tree)
        → map_of (after_delete h x s).state.tree ≡ removal x (map_of s.tree)
    delete_map ascending (found e) held = map_of_deleted s.tree ascending x
    delete_map ascending absent missing = sym (removal_of_missing x (map_of s.tree) (sym missing))
