-- The slots of the tree and the freed ones: insert and delete move one slot between them.
-- exactly_when_reused, exactly_when_raised, exactly_when_freed: the slots in the tree and freed stay exactly 1 to high.
use mathlib.Core.List.{List, ◌∷◌, ◌++◌}
use mathlib.Core.Path.{◌≡◌, sym, ap, ◌∙◌}
use Prim.Native.Nat.{ℕ, suc, ◌+◌, ◌≤◌}
use native.Mathlib.Omega.{arith}
use native.Mathlib.Decide.{dec_le}
use lib.Dec.{eqb}
use lib.ListN.{length, length-append}
use borrow.Author.Tests.{eq-eqb, ne_eqb}
use Rattle.labels.specs.Labels.{Label}
use Rattle.trees.specs.Trees.{Entry, Tree, slots}
use Rattle.trees.specs.Searches.{absent, found, full_search}
use Rattle.trees.specs.Updates.{inserted, deleted}
use Rattle.trees.specs.Valid.{one_if, occurrences}
use Rattle.trees.proofs.SetIn.{SetIn, inserted_sets_in, found_is_set_in}
use Rattle.trees.proofs.Counts.{occurrences_append, Exactly, outside_never_occurs}
use Rattle.trees.proofs.SlotCounts.{slots_of, slot_set_in, length_set_in, length_of_slots_of}

-- A list with the length and the counts of another is exactly 1 to high where the other is.
exactly_by_counts : {high : ℕ} {one other : List ℕ} → length other ≡ length one
    → ((k : ℕ) → occurrences k other ≡ occurrences k one) → Exactly high one → Exactly high other
exactly_by_counts lengths counts exact = record {
  counted = lengths ∙ exact.counted;
  once = λ k low up. counts k ∙ exact.once k low up;
}

-- One more number at the top, anywhere in the list, makes it exactly 1 to high + 1.
exactly_raised : {high : ℕ} (a b : List ℕ) → Exactly high (a ++ b) → Exactly (suc high) (a ++ (suc high ∷ b))
exactly_raised {high} a b exact = record {
  counted = omega (arith, exact.counted, length-append a b, length-append a (suc high ∷ b));
  once = λ k low up. go k low up (dec_le k high);
}
  where
    gains : (k : ℕ) → occurrences k (a ++ (suc high ∷ b)) ≡ one_if (eqb k (suc high)) + occurrences k (a ++ b)
    gains k = omega (arith, occurrences_append k a (suc high ∷ b), occurrences_append k a b)

    go : (k : ℕ) → 1 ≤ k → k ≤ suc high → Dec (k ≤ high) → occurrences k (a ++ (suc high ∷ b)) ≡ 1
    go k low up (yes old) =
        omega (arith, gains k, ap one_if (ne_eqb k (suc high) (λ equal. omega arith)), exact.once k low old)
    go k low up (no new) =
        let none : occurrences k (a ++ b) ≡ 0 = outside_never_occurs exact k (λ i from to equal. omega arith) in
        omega (arith, gains k, ap one_if (eq-eqb k (suc high) (omega arith)))

module _ {e : Entry} {without with : List Entry} (s : SetIn e without with) (freed : List ℕ) where
  -- A slot counts the same in the tree as among the freed.
  counts_of_moved : (k : ℕ)
      → occurrences k (slots_of with ++ freed) ≡ occurrences k (slots_of without ++ (e.slot ∷ freed))
  counts_of_moved k =
      omega (
        arith,
        slot_set_in s k,
        occurrences_append k (slots_of with) freed,
        occurrences_append k (slots_of without) (e.slot ∷ freed),
      )

  length_of_moved : length (slots_of with ++ freed) ≡ length (slots_of without ++ (e.slot ∷ freed))
  length_of_moved =
      omega (
        arith,
        length_set_in s,
        length_of_slots_of with,
        length_of_slots_of without,
        length-append (slots_of with) freed,
        length-append (slots_of without) (e.slot ∷ freed),
      )

  -- So a slot may move between the tree and the freed.
  exactly_into_tree : {high : ℕ} → Exactly high (slots_of without ++ (e.slot ∷ freed))
      → Exactly high (slots_of with ++ freed)
  exactly_into_tree exact = exactly_by_counts length_of_moved counts_of_moved exact

  exactly_out_of_tree : {high : ℕ} → Exactly high (slots_of with ++ freed)
      → Exactly high (slots_of without ++ (e.slot ∷ freed))
  exactly_out_of_tree exact = exactly_by_counts (sym length_of_moved) (λ k. sym (counts_of_moved k)) exact

module _ (new : Entry) (t : Tree) (none : (full_search new.label t).result ≡ absent) (freed : List ℕ) {high : ℕ} where
  -- The slot freed last goes into the tree.
  pub exactly_when_reused : Exactly high (slots t ++ (new.slot ∷ freed))
      → Exactly high (slots (inserted new t) ++ freed)
  exactly_when_reused exact = exactly_into_tree (inserted_sets_in new t none) freed exact

  -- The slot above the high mark goes into the tree.
  pub exactly_when_raised : new.slot ≡ suc high → Exactly high (slots t ++ freed)
      → Exactly (suc high) (slots (inserted new t) ++ freed)
  exactly_when_raised top exact =
      exactly_into_tree (inserted_sets_in new t none) freed (rw top (exactly_raised (slots t) freed exact))

-- The slot of the node taken out is freed.
pub exactly_when_freed : (x : Label) (t : Tree) {e : Entry} → (full_search x t).result ≡ found e
    → (freed : List ℕ) {high : ℕ} → Exactly high (slots t ++ freed)
    → Exactly high (slots (deleted x t) ++ (e.slot ∷ freed))
exactly_when_freed x t held freed exact = exactly_out_of_tree (found_is_set_in x t held) freed exact
