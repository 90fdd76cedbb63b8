-- A tree in the rows made ready for a node to be taken out.
-- left_of: the left subtree of the node found. RepBy: the tree at a node, by the comparison with its label.
-- Ready: the tree as it stands then, and the fields of the next node.
-- ready_to_delete_lem: `renewed_around` at the node found makes the tree ready.
use mathlib.Core.List.{List}
use mathlib.Core.Path.{◌≡◌}
use Prim.Native.Nat.{ℕ}
use native.Mathlib.Omega.{arith}
use Rattle.types.specs.declared.Limits.{Limits}
use Rattle.labels.specs.Labels.{Label, Comparison, smaller, same, larger, compare_labels}
use Rattle.labels.specs.Neighbours.{Neighbour, held}
use Rattle.labels.proofs.Clashes.{clash}
use Rattle.trees.specs.Trees.{Entry, Tree, empty, node, slots, left, right}
use Rattle.trees.specs.Searches.{found, search_by, full_search}
use Rattle.trees.proofs.Counts.{occurrences_append}
use Rattle.trees.proofs.Heights.{Kept}
use Rattle.trees.proofs.SlotCounts.{occurrences_of_node}
use Rattle.rotations.proofs.Rep.{Stands, Rep}
use Rattle.rotations.proofs.Along.{towards, low_to, high_to, RepHole, RepWithout, right_of}
use Rattle.rotations.proofs.Frames.{own_slot}
use Rattle.rotations.proofs.Orders.{low_by, high_by}
use Rattle.rotations.proofs.Stays.{stands_framed}
use Rattle.renewals.specs.Renewals.{Renewed, renewed_around}
use Rattle.rewritten.proofs.Subtrees.{Subtree, Window, left_son, right_son}
use Rattle.rewritten.proofs.Renewing.{Renews, renews_wider}
use Rattle.rewritten.proofs.Beside.{node_stays, other_stays, renews_son}
use Rattle.rewritten.proofs.Around.{FieldsFor, around_node}

-- the left subtree of the node found for x
abbrev pub left_of : Label → Tree → Tree
left_of x empty = empty
left_of x (node l e r) = towards (compare_labels x e.label) (left_of x l) l (left_of x r)

-- a tree as Stood says, with the next node between p and q for one with the sons l and r
pub record Readied (touched table : List ℕ) (Stood : Type 0) (p : Neighbour) (l r : Tree) (q : Neighbour)
    (o : Renewed) : Type 0 where
  pub renews : Renews touched table o.table
  pub rep : Stood
  pub next : FieldsFor p l r q o.next

-- the tree as it stands where the node found for x is to be taken out
abbrev pub Ready : Label → Neighbour → Neighbour → Tree → List ℕ → Renewed → Type 0
Ready x p q t table o =
    Readied (slots t) table (RepWithout o.table p q x t) (low_to p x t) (left_of x t) (right_of x t) (high_to q x t) o

-- a node from whose tree one is to be taken out, by the comparison with its label
abbrev pub RepBy : Comparison → List ℕ → Neighbour → Neighbour → Label → Tree → Entry → Tree → Type 0
RepBy c table p q x l e r =
    towards c (Stands table p l e r q × RepWithout table p (held e.label) x l × Rep table (held e.label) q r)
    (Stands table p l e r q × RepHole table p q l r)
    (Stands table p l e r q × Rep table p (held e.label) l × RepWithout table (held e.label) q x r)

module _ (limits : Limits) (table store : List ℕ) (x : Label) (gone : Entry) (below above : ℕ) where
  abbrev after : Renewed
  after = renewed_around limits table store gone.slot below above

  -- the claim of a tree in its window
  abbrev Readies : Tree → Neighbour → Neighbour → Type 0
  Readies t p q =
      (full_search x t).result ≡ found gone → Window limits table store below above (low_to p x t) (high_to q x t)
      → Ready x p q t table after

  -- At a node: by the comparison with its label, the node found is in one son or the node itself.
  ready_at_node : (l : Tree) (e : Entry) (r : Tree) (p q : Neighbour) (c : Comparison) → Kept (node l e r)
      → Subtree limits table store limits.depth p q (node l e r)
      → (search_by c e (full_search x l) (full_search x r)).result ≡ found gone
      → Window limits table store below above (low_by c p (held e.label) x l r) (high_by c (held e.label) q x l r)
      → Readies l p (held e.label) → Readies r (held e.label) q
      → Readied (slots (node l e r)) table (RepBy c after.table p q x l e r) (low_by c p (held e.label) x l r)
      (towards c (left_of x l) l (left_of x r)) (towards c (right_of x l) r (right_of x r))
      (high_by c (held e.label) q x l r) after
  ready_at_node l e r p q (smaller i) kept whole there window on_left on_right =
      let done = on_left there window in
      let renews = done.renews in
      record {
        renews = renews_son left l e r whole.once renews;
        rep = (
          node_stays left l e r whole.once renews whole.rep.0,
          done.rep,
          other_stays left l e r whole.once renews (held e.label) q whole.rep.2,
        );
        next = done.next;
      }
  ready_at_node l e r p q (same i) kept whole there window on_left on_right =
      let here : e.slot ≡ gone.slot = cc in
      let done = rw here at (around_node limits store p q below above l e r table kept whole window) in
      record {
        renews = renews_wider
            (λ k. omega (arith, occurrences_of_node k l e r, occurrences_append k (slots l) (slots r))) done.renews;
        rep = (
          stands_framed done.renews.frame (omega (
            arith,
            whole.once e.slot,
            occurrences_of_node e.slot l e r,
            own_slot e.slot,
            occurrences_append e.slot (slots l) (slots r),
          )) whole.rep.0,
          done.hole,
        );
        next = done.next;
      }
  ready_at_node l e r p q (larger i) kept whole there window on_left on_right =
      let done = on_right there window in
      let renews = done.renews in
      record {
        renews = renews_son right r e l whole.once renews;
        rep = (
          node_stays right r e l whole.once renews whole.rep.0,
          other_stays right r e l whole.once renews p (held e.label) whole.rep.1,
          done.rep,
        );
        next = done.next;
      }

  -- `renewed_around` at the node found makes the tree ready.
  pub ready_to_delete_lem : (t : Tree) (p q : Neighbour) → Kept t → Subtree limits table store limits.depth p q t
      → Readies t p q
  ready_to_delete_lem empty p q kept whole there window = clash cc
  ready_to_delete_lem (node l e r) p q kept whole there window =
      ready_at_node l e r p q (compare_labels x e.label) kept whole there window
      (ready_to_delete_lem l p (held e.label) kept.near_kept (left_son limits table store l e r whole))
      (ready_to_delete_lem r (held e.label) q kept.far_kept (right_son limits table store l e r whole))
