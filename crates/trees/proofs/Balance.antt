-- Insert and delete keep the height rule, and change the height by at most one.
-- grown_inserted: after an insert the tree keeps the height rule, and is as high as before or one higher.
-- balanced_inserted, height_of_inserted: the same of balanced trees.
-- shrunk_without_least: a tree without its smallest node keeps the height rule, and is as high as before or one lower.
-- shrunk_joined: so does what takes the place of a node that is taken out.
-- shrunk_deleted: so does the tree after a delete.
-- balanced_deleted, height_of_deleted: the same of balanced trees.
use Prim.Native.Nat.{suc, ◌≤◌}
use native.Mathlib.Omega.{arith}
use Rattle.labels.specs.Labels.{Label, Comparison, smaller, same, larger, compare_labels}
use Rattle.trees.specs.Trees.{Entry, Tree, empty, node, Side, left, right, other, from, on}
use Rattle.trees.specs.Heights.{height, Balanced}
use Rattle.trees.specs.Turns.{rebalanced}
use Rattle.trees.specs.Updates.{inserted_by, inserted, Least, without_least, joined, deleted_by, deleted}
use Rattle.trees.proofs.Heights.{Kept, kept_of_balanced, balanced_of_kept}
use Rattle.trees.proofs.Sides.{height_from, sons_from}
use Rattle.trees.proofs.Rotations.{settled_on}

-- u, in place of t, keeps the height rule and is as high or one higher
pub record Grown (t u : Tree) : Type 0 where
  pub kept : Kept u
  pub low : height t ≤ height u
  pub high : height u ≤ suc (height t)

-- u, in place of t, keeps the height rule and is as high or one lower
pub record Shrunk (t u : Tree) : Type 0 where
  pub kept : Kept u
  pub low : height t ≤ suc (height u)
  pub high : height u ≤ height t

-- A node of a tree that keeps the height rule; its son near, on the side s, becomes near'.
module _ (s : Side) (near : Tree) (e : Entry) (far near' : Tree) (kept : Kept (from s near e far)) where
  -- Where the son has grown, the node rebalanced has grown.
  grown_node : Grown near near' → Grown (from s near e far) (rebalanced (on s near' far) e (on (other s) near' far))
  grown_node grown =
      let sons = sons_from s near e far kept in
      let before = height_from s near e far in
      let after = settled_on s near' e far grown.kept sons.far_kept (omega arith) (omega arith) in
      record { kept = after.kept; low = omega arith; high = omega arith }

  -- Where the son has shrunk, the node rebalanced has shrunk, whatever entry it takes.
  shrunk_node : (d : Entry) → Shrunk near near'
      → Shrunk (from s near e far) (rebalanced (on s near' far) d (on (other s) near' far))
  shrunk_node d shrunk =
      let sons = sons_from s near e far kept in
      let before = height_from s near e far in
      let after = settled_on s near' d far shrunk.kept sons.far_kept (omega arith) (omega arith) in
      record { kept = after.kept; low = omega arith; high = omega arith }

-- By the comparison with the node's label, one son or none takes the new entry.
grown_by : (c : Comparison) (l : Tree) (e : Entry) (r l' r' : Tree) → Kept (node l e r) → Grown l l' → Grown r r'
    → Grown (node l e r) (inserted_by c l e r l' r')
grown_by (smaller i) l e r l' r' kept of_l of_r = grown_node left l e r l' kept of_l
grown_by (same i) l e r l' r' kept of_l of_r = record { kept = kept; low = omega arith; high = omega arith }
grown_by (larger i) l e r l' r' kept of_l of_r = grown_node right r e l r' kept of_r

-- An insert keeps the height rule, and leaves the height or adds one.
pub grown_inserted : (new : Entry) (t : Tree) → Kept t → Grown t (inserted new t)
grown_inserted new empty kept = record {
  kept = record { near_fits = omega arith; far_fits = omega arith; near_kept = tt; far_kept = tt };
  low = omega arith;
  high = omega arith;
}
grown_inserted new (node l e r) kept =
    grown_by (compare_labels new.label e.label) l e r (inserted new l) (inserted new r) kept
    (grown_inserted new l kept.near_kept) (grown_inserted new r kept.far_kept)

-- A balanced tree is balanced after an insert.
pub balanced_inserted : (new : Entry) (t : Tree) → Balanced t → Balanced (inserted new t)
balanced_inserted new t h = balanced_of_kept (inserted new t) (grown_inserted new t (kept_of_balanced t h)).kept

-- After an insert a balanced tree is as high as before or one higher.
pub height_of_inserted : (new : Entry) (t : Tree) → Balanced t
    → (height t ≤ height (inserted new t)) × (height (inserted new t) ≤ suc (height t))
height_of_inserted new t h = let grown = grown_inserted new t (kept_of_balanced t h) in (grown.low, grown.high)

-- A tree without its smallest node keeps the height rule, and is as high or one lower.
pub shrunk_without_least : (l : Tree) (e : Entry) (r : Tree) → Kept (node l e r)
    → Shrunk (node l e r) (without_least l e r).rest
shrunk_without_least empty e r kept = record { kept = kept.far_kept; low = omega arith; high = omega arith }
shrunk_without_least (node a d b) e r kept =
    shrunk_node left (node a d b) e r (without_least a d b).rest kept e (shrunk_without_least a d b kept.near_kept)

-- What takes the place of a node with these sons keeps the height rule, and is as high or one lower.
pub shrunk_joined : (l : Tree) (e : Entry) (r : Tree) → Kept (node l e r) → Shrunk (node l e r) (joined l r)
shrunk_joined l e empty kept = record { kept = kept.near_kept; low = omega arith; high = omega arith }
shrunk_joined empty e (node b d c) kept = record { kept = kept.far_kept; low = omega arith; high = omega arith }
shrunk_joined (node a y a') e (node b d c) kept =
    let moved : Least = without_least b d c in
    shrunk_node right (node b d c) e (node a y a') moved.rest kept moved.least
    (shrunk_without_least b d c kept.far_kept)

-- By the comparison with the node's label, one son loses the label or the node is taken out.
shrunk_by : (c : Comparison) (l : Tree) (e : Entry) (r l' r' : Tree) → Kept (node l e r) → Shrunk l l' → Shrunk r r'
    → Shrunk (node l e r) (deleted_by c l e r l' r')
shrunk_by (smaller i) l e r l' r' kept of_l of_r = shrunk_node left l e r l' kept e of_l
shrunk_by (same i) l e r l' r' kept of_l of_r = shrunk_joined l e r kept
shrunk_by (larger i) l e r l' r' kept of_l of_r = shrunk_node right r e l r' kept e of_r

-- A delete keeps the height rule, and leaves the height or takes one.
pub shrunk_deleted : (x : Label) (t : Tree) → Kept t → Shrunk t (deleted x t)
shrunk_deleted x empty kept = record { kept = tt; low = omega arith; high = omega arith }
shrunk_deleted x (node l e r) kept =
    shrunk_by (compare_labels x e.label) l e r (deleted x l) (deleted x r) kept
    (shrunk_deleted x l kept.near_kept) (shrunk_deleted x r kept.far_kept)

-- A balanced tree is balanced after a delete.
pub balanced_deleted : (x : Label) (t : Tree) → Balanced t → Balanced (deleted x t)
balanced_deleted x t h = balanced_of_kept (deleted x t) (shrunk_deleted x t (kept_of_balanced t h)).kept

-- After a delete a balanced tree is as high as before or one lower.
pub height_of_deleted : (x : Label) (t : Tree) → Balanced t
    → (height t ≤ suc (height (deleted x t))) × (height (deleted x t) ≤ height t)
height_of_deleted x t h = let shrunk = shrunk_deleted x t (kept_of_balanced t h) in (shrunk.low, shrunk.high)
