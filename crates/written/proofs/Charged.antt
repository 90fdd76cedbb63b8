-- A charge set in the words leaves the plain tree's next state written out.
-- link_of_charged: the root's slot stays. label_of_charged: so does every slot's label.
-- row_besides, row_of_found: so does the row of every slot but the found node's, which has the charge.
-- charge_written: word 7 of the found node's slot stored is the plain tree's next state written out.
use mathlib.Core.List.{List, [], ◌++◌}
use mathlib.Core.Logic.{◌≢◌}
use mathlib.Core.Path.{◌≡◌, refl, sym, ap, ◌∙◌}
use Prim.Native.Nat.{ℕ, ◌+◌, ◌≤◌, ◌<◌}
use native.Mathlib.Decide.{ℕ_discrete}
use native.Mathlib.Omega.{arith}
use lib.Dec.{eqb}
use lib.ListN.{get_or}
use borrow.Author.Tests.{eq-eqb, ne_eqb}
use Rattle.types.specs.declared.Limits.{Limits}
use Rattle.types.specs.declared.Row.{Row}
use Rattle.labels.specs.Labels.{Label, Comparison, smaller, same, larger, compare_labels}
use Rattle.labels.specs.Neighbours.{Neighbour, none_below, held, none_above}
use Rattle.labels.proofs.Clashes.{clash}
use Rattle.trees.specs.Trees.{Entry, Tree, empty, node, slots}
use Rattle.trees.specs.Charges.{charged_by, charged}
use Rattle.trees.specs.Searches.{found, search_by, full_search}
use Rattle.trees.specs.Plain.{State}
use Rattle.trees.specs.Valid.{Valid, one_if, occurrences}
use Rattle.trees.proofs.Charged.{size_of_charged, height_of_charged}
use Rattle.trees.proofs.Counts.{Exactly, occurrences_append, occurs_inside, occurs_at_most_once}
use Rattle.trees.proofs.SlotCounts.{occurrences_of_node, slot_of_found}
use Rattle.trees.proofs.ValidSteps.{exactly_of_valid}
use Rattle.tables.specs.Words.{row_at, put_charge}
use Rattle.tables.specs.Written.{Memory, link_of, node_row, tree_row, chain_row, slot_row, tree_label, parts_from}
use Rattle.tables.specs.Written.{written_table, written_store, written}
use Rattle.tables.proofs.ChargeWord.{recharged, length_put_charge, header_past_charge, row_put_charge, row_past_charge}
use Rattle.written.proofs.Rows.{length_of_written_table, root_of_written, count_of_written, free_of_written}
use Rattle.written.proofs.Rows.{mark_of_written, row_of_written, tables_extend}
use Rattle.written.proofs.Places.{other_slot, row_elsewhere}

module _ (x : Label) (n : ℕ) where
  -- The root's slot stays.
  link_of_charged : (t : Tree) → link_of (charged x n t) ≡ link_of t
  link_of_charged empty = refl
  link_of_charged (node l e r) = go (compare_labels x e.label)
    where
      go : (c : Comparison) → link_of (charged_by c n l e r (charged x n l) (charged x n r)) ≡ e.slot
      go (smaller i) = refl
      go (same i) = refl
      go (larger i) = refl

  -- So does every slot's label.
  label_of_charged : (t : Tree) (k : ℕ) (otherwise : Label)
      → tree_label (charged x n t) k otherwise ≡ tree_label t k otherwise
  label_of_charged empty k otherwise = refl
  label_of_charged (node l e r) k otherwise =
      go (compare_labels x e.label) (label_of_charged l k (tree_label r k otherwise)) (label_of_charged r k otherwise)
    where
      go : (c : Comparison)
          → tree_label (charged x n l) k (tree_label r k otherwise) ≡ tree_label l k (tree_label r k otherwise)
          → tree_label (charged x n r) k otherwise ≡ tree_label r k otherwise
          → tree_label (charged_by c n l e r (charged x n l) (charged x n r)) k otherwise
          ≡ tree_label (node l e r) k otherwise
      go (smaller i) on_left_lem on_right_lem = rw on_left_lem
      go (same i) on_left_lem on_right_lem = refl
      go (larger i) on_left_lem on_right_lem = rw on_right_lem

  -- So does a node's row where the charge is set in a son.
  row_over : (p : Neighbour) (l : Tree) (e : Entry) (r : Tree) (s : Neighbour)
      → (node_row p (charged x n l) e r s ≡ node_row p l e r s) × (node_row p l e (charged x n r) s ≡ node_row p l e r s)
  row_over p l e r s =
      (rw (link_of_charged l, height_of_charged x n l), rw (link_of_charged r, height_of_charged x n r))

  module _ (k : ℕ) where
    -- The row of a slot other than the found node's stays.
    row_besides : (p s : Neighbour) (t : Tree) (otherwise : Row) {e : Entry} → (full_search x t).result ≡ found e
        → k ≢ e.slot → tree_row p s (charged x n t) k otherwise ≡ tree_row p s t k otherwise
    row_besides p s empty otherwise there apart = refl
    row_besides p s (node l d r) otherwise {e} there apart =
        go (compare_labels x d.label) there
        (λ finds. row_besides p y l in_r finds apart) (λ finds. row_besides y s r otherwise finds apart)
      where
        y : Neighbour
        y = held d.label

        in_r : Row
        in_r = tree_row y s r k otherwise

        go : (c : Comparison) → (search_by c d (full_search x l) (full_search x r)).result ≡ found e
            → ((full_search x l).result ≡ found e → tree_row p y (charged x n l) k in_r ≡ tree_row p y l k in_r)
            → ((full_search x r).result ≡ found e → tree_row y s (charged x n r) k otherwise ≡ in_r)
            → tree_row p s (charged_by c n l d r (charged x n l) (charged x n r)) k otherwise
            ≡ tree_row p s (node l d r) k otherwise
        go (smaller i) finds of_l of_r = rw ((row_over p l d r s).0, of_l finds)
        go (same i) finds of_l of_r =
            let here : d ≡ e = cc in
            rw (ne_eqb k d.slot (λ equal. apart (equal ∙ ap (λ (f : Entry). f.slot) here)))
        go (larger i) finds of_l of_r = rw ((row_over p l d r s).1, of_r finds)

    -- The found node's row has the charge, where its slot is in no other node.
    row_of_found : (p s : Neighbour) (t : Tree) (otherwise : Row) {e : Entry} → (full_search x t).result ≡ found e
        → e.slot ≡ k → occurrences k (slots t) ≤ 1
        → tree_row p s (charged x n t) k otherwise ≡ recharged n (tree_row p s t k otherwise)
    row_of_found p s empty otherwise there slot once = clash cc
    row_of_found p s (node l d r) otherwise {e} there slot once =
        go (compare_labels x d.label) there
        (λ finds. row_of_found p y l in_r finds slot (omega (arith, counts)))
        (λ finds. row_of_found y s r otherwise finds slot (omega (arith, counts)))
      where
        y : Neighbour
        y = held d.label

        in_r : Row
        in_r = tree_row y s r k otherwise

        counts : occurrences k (slots (node l d r))
            ≡ occurrences k (slots l) + (one_if (eqb k d.slot) + occurrences k (slots r))
        counts = occurrences_of_node k l d r

        go : (c : Comparison) → (search_by c d (full_search x l) (full_search x r)).result ≡ found e
            → ((full_search x l).result ≡ found e
            → tree_row p y (charged x n l) k in_r ≡ recharged n (tree_row p y l k in_r))
            → ((full_search x r).result ≡ found e → tree_row y s (charged x n r) k otherwise ≡ recharged n in_r)
            → tree_row p s (charged_by c n l d r (charged x n l) (charged x n r)) k otherwise
            ≡ recharged n (tree_row p s (node l d r) k otherwise)
        go (smaller i) finds of_l of_r =
            let below : 1 ≤ occurrences k (slots l) = rw slot at (slot_of_found x l finds) in
            rw (other_slot k d.slot (omega (arith, once, counts))) (of_l finds)
        go (same i) finds of_l of_r =
            let here : d ≡ e = cc in
            rw (eq-eqb k d.slot (sym (ap (λ (f : Entry). f.slot) here ∙ slot)))
        go (larger i) finds of_l of_r =
            let below : 1 ≤ occurrences k (slots r) = rw slot at (slot_of_found x r finds) in
            let none : occurrences k (slots l) ≡ 0 = omega (arith, once, counts) in
            rw (
              other_slot k d.slot (omega (arith, once, counts)),
              row_elsewhere k p y l (tree_row y s (charged x n r) k otherwise) none,
              row_elsewhere k p y l in_r none,
            )
            (of_r finds)

-- the plain tree's next state: the charge of a label is set
abbrev pub after_charged : State → Label → ℕ → State
after_charged s x n = record { tree = charged x n s.tree; freed = s.freed; high = s.high }

module _ (limits : Limits) (s : State) (x : Label) (n : ℕ) (e : Entry)
    (valid : Valid limits.slots limits.width s) (there : (full_search x s.tree).result ≡ found e) where
  abbrev table : List ℕ
  table = written_table limits s

  abbrev after : List ℕ
  after = put_charge table e.slot n

  counts : (k : ℕ) → occurrences k (slots s.tree ++ s.freed)
      ≡ occurrences k (slots s.tree) + occurrences k s.freed
  counts k = occurrences_append k (slots s.tree) s.freed

  exact : Exactly s.high (slots s.tree ++ s.freed)
  exact = exactly_of_valid limits.slots limits.width s valid

  -- The found node's slot is one of 1 to the high mark,
  inside : (1 ≤ e.slot) × (e.slot ≤ s.high)
  inside = occurs_inside exact e.slot (omega (arith, counts e.slot, slot_of_found x s.tree there))

  -- and in no other node.
  once : occurrences e.slot (slots s.tree) ≤ 1
  once = omega (arith, counts e.slot, occurs_at_most_once exact e.slot)

  -- The rows are those of the next state.
  row_after : (k : ℕ) → 1 ≤ k → k ≤ limits.slots → Dec (k ≡ e.slot) → row_at after k ≡ slot_row (after_charged s x n) k
  row_after k low up (yes equal) =
      rw equal
      (row_put_charge table e.slot n inside.0
      (omega (arith, inside.1, valid.within, length_of_written_table limits s))
      ∙ ap (recharged n) (row_of_written limits s e.slot inside.0 (omega (arith, inside.1, valid.within)))
      ∙ sym (row_of_found x n e.slot none_below none_above s.tree (chain_row s.freed e.slot) there refl
      once))
  row_after k low up (no apart) =
      row_past_charge table e.slot k n inside.0 low apart ∙ row_of_written limits s k low up
      ∙ sym (row_besides x n k none_below none_above s.tree (chain_row s.freed k) there apart)

  -- So are the words.
  words : after ≡ written_table limits (after_charged s x n)
  words =
      tables_extend limits after (written_table limits (after_charged s x n))
      (length_put_charge table e.slot n ∙ length_of_written_table limits s)
      (length_of_written_table limits (after_charged s x n))
      (header 0 (omega arith) ∙ root_of_written limits s ∙ sym (link_of_charged x n s.tree)
      ∙ sym (root_of_written limits (after_charged s x n)))
      (header 1 (omega arith) ∙ count_of_written limits s ∙ sym (size_of_charged x n s.tree)
      ∙ sym (count_of_written limits (after_charged s x n)))
      (header 2 (omega arith) ∙ free_of_written limits s ∙ sym (free_of_written limits (after_charged s x n)))
      (header 3 (omega arith) ∙ mark_of_written limits s ∙ sym (mark_of_written limits (after_charged s x n)))
      (λ k low up. row_after k low up (ℕ_discrete k e.slot)
      ∙ sym (row_of_written limits (after_charged s x n) k low up))
    where
      header : (i : ℕ) → i < 4 → get_or after i 0 ≡ get_or table i 0
      header i small = header_past_charge table e.slot n i small

  -- The bytes stay.
  bytes : written_store limits s ≡ written_store limits (after_charged s x n)
  unfolding written_store
  bytes = λ i. parts_from limits.width (λ k. sym (label_of_charged x n s.tree k []) i) 1 limits.slots

  -- Word 7 of the found node's slot stored is the plain tree's next state written out.
  pub charge_written : ◌≡◌ {A = Memory}
      (record { table = put_charge (written_table limits s) e.slot n; store = written_store limits s })
      (written limits (after_charged s x n))
  charge_written = λ i. record { table = words i; store = bytes i }
