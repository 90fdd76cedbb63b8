-- Each slot up to the high mark is in the tree or freed, once.
-- `slots_once`: no slot stands in a tree twice whose labels ascend.
-- `used_lengths`, `freed_lengths`, `unused_length`: the length is at least 1 in used slots, 0 in freed and unused ones.
-- `exactly_allotted`: as many slots as the high mark, used or freed, are exactly those up to the high mark.
use mathlib.Core.List.{List, [], ◌∷◌, ◌++◌, map, map-append}
use mathlib.Core.Path.{◌≡◌, refl}
use mathlib.Core.Bool.{true}
use Prim.Native.Nat.{ℕ, zero, suc, ◌+◌, ◌-◌, ◌*◌, ◌≤◌, ◌<◌}
use native.Mathlib.Omega.{arith}
use native.Mathlib.Decide.{dec_le}
use lib.Dec.{eqb}
use lib.ListN.{length, get_or, drop, length-append}
use lib.Seq.{get_or-drop}
use borrow.Author.Tests.{eqb-true}
use Rattle.types.specs.declared.Limits.{Limits}
use Rattle.types.specs.declared.Row.{Row}
use Rattle.labels.specs.Labels.{Label}
use Rattle.labels.specs.Neighbours.{Neighbour, none_below, held, none_above}
use Rattle.labels.proofs.Order.{below_irreflexive, none_below_none_above}
use Rattle.labels.proofs.Difference.{Before, below_is_before, before_trans}
use Rattle.trees.specs.Trees.{Tree, empty, node, labels, slots, size}
use Rattle.trees.specs.Valid.{occurrences}
use Rattle.trees.proofs.Views.{both_true}
use Rattle.trees.proofs.Counts.{occurrences_append, Exactly}
use Rattle.trees.proofs.Linked.{Linked, linked_step}
use Rattle.trees.proofs.Sorted.{Between, linked_of_between}
use Rattle.trees.proofs.SlotCounts.{length_of_slots}
use Rattle.tables.specs.Words.{slot_start, row_at, entry_at}
use Rattle.tables.specs.Sound.{all_zero, used_slots, zero_besides_left, freed_slots}
use Rattle.decides.proofs.OnceEach.{All, all_none, all_more, all_append, all_occurring, all_of_occurring}
use Rattle.decides.proofs.OnceEach.{first_or_after, once_more, InRange, exactly_of_distinct}
use Rattle.tables.proofs.Reading.{Stands, stands_none, stands_node, Follows}
use Rattle.tables.proofs.Clauses.{used_of_test, freed_of_test}
use Rattle.decides.proofs.FreeChains.{follows_once}

module _ (f : ℕ → Label) where
  -- What occurs in a list is above what the labels of the list are linked from.
  occurring_above : {p s : Neighbour} (list : List ℕ) → Linked p (map f list) s → (k : ℕ) → 1 ≤ occurrences k list
      → Before p (held (f k))
  occurring_above [] linked k occurs = absurd (omega arith)
  occurring_above {p = p} (j ∷ list) (linked_step before rest) k occurs =
      first_or_after k j list (λ first. rw first before)
      (λ after. before_trans before (occurring_above {p = held (f j)} list rest k after)) occurs

  -- No number stands twice in a list whose labels ascend.
  ascending_once : {p s : Neighbour} (list : List ℕ) → Linked p (map f list) s → (k : ℕ) → occurrences k list ≤ 1
  ascending_once [] linked k = omega arith
  ascending_once {p = p} (j ∷ list) (linked_step before rest) k =
      once_more k j list
      (λ first again. below_irreflexive (rw first at (occurring_above list rest k again)))
      (ascending_once {p = held (f j)} list rest k)

-- Every element of an all_zero list is 0, and so is what is read past its end.
zero_at : (list : List ℕ) → all_zero list ≡ true → (i : ℕ) → get_or list i 0 ≡ 0
zero_at [] zeros i = refl
zero_at (n ∷ list) zeros zero = eqb-true n 0 ((both_true _ _).0 zeros).0
zero_at (n ∷ list) zeros (suc i) = zero_at list ((both_true (eqb n 0) _).0 zeros).1 i

-- A row that is zero besides word 0 has the length 0.
length_of_freed : (row : Row) → zero_besides_left row ≡ true → row.len ≡ 0
length_of_freed row zeros =
    zero_at (row.right ∷ row.place ∷ row.side ∷ row.balance ∷ row.len ∷ row.value ∷ row.charge ∷ []) zeros 4

module _ (limits : Limits) (table store : List ℕ) where
  -- The slots of a tree that stands at a link are at least 1.
  slots_positive : {link : ℕ} {t : Tree} → Stands limits table store t link → All (λ k. 1 ≤ k) (slots t)
  slots_positive stands_none = all_none
  slots_positive (stands_node low up l r) =
      rw map-append (all_append (slots_positive l) (all_more low (slots_positive r)))

  -- Its labels are those of its slots.
  labels_of_slots : {link : ℕ} {t : Tree} → Stands limits table store t link
      → labels t ≡ map (λ k. (entry_at limits table store k).label) (slots t)
  labels_of_slots stands_none = refl
  labels_of_slots (stands_node low up l r) = simp map-append (cc (labels_of_slots l, labels_of_slots r))

  -- No slot stands in a tree twice whose labels ascend.
  pub slots_once : {link : ℕ} {t : Tree} → Stands limits table store t link → Between none_below none_above t
      → (k : ℕ) → occurrences k (slots t) ≤ 1
  slots_once {t = t} stands between k =
      ascending_once (λ j. (entry_at limits table store j).label) (slots t)
      (rw (labels_of_slots stands) at (linked_of_between t (below_is_before none_below_none_above) between)) k

  -- A used slot has a length of at least 1.
  pub used_lengths : (t : Tree) → used_slots limits table store t ≡ true → All (λ k. 1 ≤ (row_at table k).len) (slots t)
  used_lengths empty used = all_none
  used_lengths (node l e r) used =
      let (own, sons) = (both_true _ _).0 used in
      let (on_left_lem, on_right_lem) = (both_true _ _).0 sons in
      rw map-append
      (all_append (used_lengths l on_left_lem) (all_more (used_of_test own).some (used_lengths r on_right_lem)))

  -- A freed slot has the length 0.
  pub freed_lengths : (freed : List ℕ) → freed_slots limits table store freed ≡ true
      → All (λ k. (row_at table k).len ≡ 0) freed
  freed_lengths [] free = all_none
  freed_lengths (k ∷ freed) free =
      let first = freed_of_test limits table store k freed free in
      all_more (length_of_freed (row_at table k) first.words) (freed_lengths freed first.others)

  -- A slot above the high mark has the length 0.
  pub unused_length : (high : ℕ) → all_zero (drop (4 + 8 * high) table) ≡ true → (k : ℕ) → high < k
      → (row_at table k).len ≡ 0
  unfolding row_at
  unused_length high zeros k above =
      let beyond = 8 * (k - 1 - high) + 5 in
      let place : (4 + 8 * high) + beyond ≡ slot_start k + 5 = omega arith in
      rw (← place, ← get_or-drop (4 + 8 * high) table beyond 0) (zero_at (drop (4 + 8 * high) table) zeros beyond)

  module _ {link : ℕ} {t : Tree} (stands : Stands limits table store t link)
      (between : Between none_below none_above t) (used : used_slots limits table store t ≡ true) where
    -- No slot is in the tree twice, freed twice, or both.
    used_or_freed : {first : ℕ} {freed : List ℕ} → Follows limits table freed first
        → freed_slots limits table store freed ≡ true → (k : ℕ) → occurrences k (slots t ++ freed) ≤ 1
    used_or_freed {freed = freed} follows free k =
        go (dec_le 1 (occurrences k (slots t))) (dec_le 1 (occurrences k freed))
      where
        both : occurrences k (slots t ++ freed) ≡ occurrences k (slots t) + occurrences k freed
        both = occurrences_append k (slots t) freed

        go : Dec (1 ≤ occurrences k (slots t)) → Dec (1 ≤ occurrences k freed) → occurrences k (slots t ++ freed) ≤ 1
        go (yes in_tree) (yes in_chain) =
            absurd (omega (
              arith,
              all_occurring (used_lengths t used) k in_tree,
              all_occurring (freed_lengths freed free) k in_chain,
            ))
        go (yes in_tree) (no out) = omega (arith, both, slots_once stands between k)
        go (no out) in_chain = omega (arith, both, follows_once follows k)

    -- A slot of the tree is one of those up to the high mark.
    used_in_range : (high : ℕ) → all_zero (drop (4 + 8 * high) table) ≡ true → All (InRange high) (slots t)
    used_in_range high zeros =
        all_of_occurring (slots t) (λ k occurs.
        record { low = all_occurring (slots_positive stands) k occurs; high = go k occurs (dec_le k high) })
      where
        go : (k : ℕ) → 1 ≤ occurrences k (slots t) → Dec (k ≤ high) → k ≤ high
        go k occurs (yes inside) = inside
        go k occurs (no above) =
            let none : (row_at table k).len ≡ 0 = unused_length high zeros k (omega arith) in
            absurd (omega (arith, all_occurring (used_lengths t used) k occurs))

    -- As many slots as the high mark, used or freed, are exactly those up to the high mark.
    pub exactly_allotted : {first : ℕ} {freed : List ℕ} → Follows limits table freed first
        → freed_slots limits table store freed ≡ true → (high : ℕ) → all_zero (drop (4 + 8 * high) table) ≡ true
        → All (InRange high) freed → size t + length freed ≡ high → Exactly high (slots t ++ freed)
    exactly_allotted {freed = freed} follows free high zeros ranged counted =
        exactly_of_distinct (slots t ++ freed) (used_or_freed follows free)
        (omega (arith, length-append (slots t) freed, length_of_slots t)) (all_append (used_in_range high zeros) ranged)
