-- Each row of a sound table is the row that the tree and the chain read from it write.
-- tree_row_read: a slot's row is what the tree writes, where the rows of the other slots are what is written otherwise.
-- chain_row_read: so it is for the chain.
-- zero_row_above: the rows above the high mark are all zero.
use mathlib.Core.List.{List, [], ◌∷◌}
use mathlib.Core.Path.{◌≡◌, refl, sym, ap, ◌∙◌}
use mathlib.Core.Bool.{Bool, true, false, cond}
use Prim.Native.Nat.{ℕ, ◌+◌, ◌-◌, ◌*◌, ◌<◌}
use native.Mathlib.Omega.{arith}
use lib.Dec.{eqb}
use lib.ListN.{get_or, drop}
use lib.Seq.{get_or-drop}
use borrow.Author.Tests.{eqb-true}
use Rattle.types.specs.declared.Limits.{Limits}
use Rattle.types.specs.declared.Row.{Row}
use Rattle.labels.specs.Neighbours.{Neighbour, held}
use Rattle.trees.specs.Trees.{Tree, empty, node, slots}
use Rattle.trees.specs.Valid.{one_if, occurrences}
use Rattle.trees.proofs.SlotCounts.{occurrences_of_node}
use Rattle.tables.specs.Words.{slot_start, row_at}
use Rattle.tables.specs.Written.{first_of, node_row, free_row, tree_row, chain_row}
use Rattle.tables.specs.Sound.{all_zero, zero_besides_left, freed_slots}
use Rattle.tables.proofs.Represents.{Represents}
use Rattle.tables.proofs.Clauses.{FreedSlot, freed_of_test}
use Rattle.tables.proofs.Reading.{Follows, follows_none, follows_slot, link_of_following}
use Rattle.sounds.proofs.Zeros.{zero_at}

module _ (limits : Limits) (table store : List ℕ) (k : ℕ) where
  -- A slot's row is what the tree writes, where the rows of the other slots are what is written otherwise.
  pub tree_row_read : (p s : Neighbour) (t : Tree) (otherwise : Row) → Represents limits table store p s t
      → (occurrences k (slots t) ≡ 0 → otherwise ≡ row_at table k) → tree_row p s t k otherwise ≡ row_at table k
  tree_row_read p s empty otherwise stands elsewhere = elsewhere refl
  tree_row_read p s (node l e r) otherwise stands elsewhere =
      by_test (eqb k e.slot) refl (tree_row_read x s r otherwise stands.2) (tree_row_read p x l in_r stands.1)
    where
      x : Neighbour
      x = held e.label

      in_r : Row
      in_r = tree_row x s r k otherwise

      by_test : (b : Bool) → eqb k e.slot ≡ b
          → ((occurrences k (slots r) ≡ 0 → otherwise ≡ row_at table k) → in_r ≡ row_at table k)
          → ((occurrences k (slots l) ≡ 0 → in_r ≡ row_at table k) → tree_row p x l k in_r ≡ row_at table k)
          → cond b (node_row p l e r s) (tree_row p x l k in_r) ≡ row_at table k
      by_test true here of_r of_l = rw (eqb-true k e.slot here) (sym stands.0.row)
      by_test false apart of_r of_l =
          of_l (λ none_l. of_r (λ none_r. elsewhere (occurrences_of_node k l e r ∙ omega (arith, ap one_if apart))))

-- A row of zeros besides its left link is a free row.
free_row_lem : (row : Row) (next : ℕ) → row.left ≡ next → zero_besides_left row ≡ true → free_row next ≡ row
free_row_lem row next left zeros =
    let others = row.right ∷ row.place ∷ row.side ∷ row.balance ∷ row.len ∷ row.value ∷ row.charge ∷ [] in
    let at = zero_at others zeros in
    sym (λ i. record {
      left = left i;
      right = at 0 i;
      place = at 1 i;
      side = at 2 i;
      balance = at 3 i;
      len = at 4 i;
      value = at 5 i;
      charge = at 6 i;
    })

module _ (limits : Limits) (table store : List ℕ) (k : ℕ) where
  -- A slot's row is what the chain writes, where the rows of the other slots are free rows with no next.
  pub chain_row_read : {list : List ℕ} {link : ℕ} → Follows limits table list link
      → freed_slots limits table store list ≡ true
      → (occurrences k list ≡ 0 → free_row 0 ≡ row_at table k) → chain_row list k ≡ row_at table k
  chain_row_read follows_none free elsewhere = elsewhere refl
  chain_row_read (follows_slot {k = j} {more} low up follows) free elsewhere =
      by_test (eqb k j) refl (chain_row_read follows freed.others)
    where
      freed : FreedSlot limits table store j more
      freed = freed_of_test limits table store j more free

      by_test : (b : Bool) → eqb k j ≡ b
          → ((occurrences k more ≡ 0 → free_row 0 ≡ row_at table k) → chain_row more k ≡ row_at table k)
          → cond b (free_row (first_of more)) (chain_row more k) ≡ row_at table k
      by_test true here further =
          rw (eqb-true k j here) (free_row_lem (row_at table j) (first_of more) (link_of_following follows) freed.words)
      by_test false apart further = further (λ none. elsewhere (omega (arith, ap one_if apart)))

-- The row of a slot above the high mark is all zero.
pub zero_row_above : (table : List ℕ) (high k : ℕ) → high < k → all_zero (drop (4 + 8 * high) table) ≡ true
    → free_row 0 ≡ row_at table k
unfolding row_at
zero_row_above table high k above zeros =
    sym (λ i. record {
      left = first i;
      right = at 1 i;
      place = at 2 i;
      side = at 3 i;
      balance = at 4 i;
      len = at 5 i;
      value = at 6 i;
      charge = at 7 i;
    })
  where
    at : (j : ℕ) → get_or table (slot_start k + j) 0 ≡ 0
    at j =
        let place : 4 + 8 * high + (8 * (k - 1 - high) + j) ≡ slot_start k + j = omega arith in
        ap (λ (n : ℕ). get_or table n 0) (sym place)
        ∙ sym (get_or-drop (4 + 8 * high) table (8 * (k - 1 - high) + j) 0)
        ∙ zero_at (drop (4 + 8 * high) table) zeros (8 * (k - 1 - high) + j)

    first : get_or table (slot_start k) 0 ≡ 0
    first = let same : slot_start k + 0 ≡ slot_start k = omega arith in rw same at (at 0)
