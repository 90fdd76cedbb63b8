-- A tree that the walk finds sound keeps the parts of the paper's sentence that speak of its nodes.
-- `fine_of_node`, `node_of_fine`: a node is fine exactly where its own slot and both subtrees are.
-- `fine_of_check`: the walk's tests pass only on a fine tree, and find its height and size.
-- `check_of_fine`: on a fine tree they pass.
use mathlib.Core.List.{List}
use mathlib.Core.Path.{◌≡◌, refl, sym}
use mathlib.Core.Bool.{Bool, true, false}
use Prim.Native.Nat.{ℕ, suc, ◌≤◌}
use native.Mathlib.Omega.{arith}
use borrow.Author.Tests.{leb-true, le-leb, eqb-true, eq-eqb}
use Rattle.std.specs.Prelude.{Option}
use Rattle.types.specs.declared.Limits.{Limits}
use Rattle.labels.specs.Neighbours.{Neighbour, held}
use Rattle.trees.specs.Trees.{Entry, Tree, node, size}
use Rattle.trees.specs.Heights.{height, is_balanced}
use Rattle.trees.proofs.Views.{both_true}
use Rattle.trees.proofs.Sorted.{Between}
use Rattle.tables.specs.Words.{row_at, entry_at}
use Rattle.tables.specs.Prefix.{balance_of}
use Rattle.tables.specs.Sound.{used_slots, true_balances, true_prefixes}
use Rattle.nodechecks.specs.Nodes.{node_fine}
use Rattle.nodechecks.proofs.NodeTests.{NodeFine, node_passed}
use Rattle.heights.specs.declared.Subtree.{Subtree}
use Rattle.trees.proofs.Passing.{and_true}
use Rattle.tables.proofs.Reading.{Stands, stands_none, stands_node}
use Rattle.decides.proofs.TreeWalks.{sound_as, found_once, kept_if, check_nodes}
use Rattle.decides.proofs.SonTests.{node_passes, unsound_not_sound, over_sound, sound_over}

-- the parts of the sentence on sound tables that speak of the nodes of a tree between p and s
pub record Fine (limits : Limits) (table store : List ℕ) (p s : Neighbour) (t : Tree) : Type 0 where
  pub used : used_slots limits table store t ≡ true
  pub between : Between p s t
  pub balanced : is_balanced t ≡ true
  pub balances : true_balances table t ≡ true
  pub prefixes : true_prefixes table p s t ≡ true

-- the same parts, of a node's own slot and of its two subtrees
pub record FineNode (limits : Limits) (table store : List ℕ) (p s : Neighbour) (l : Tree) (e : Entry) (r : Tree)
    : Type 0 where
  pub own : NodeFine limits table store e.slot e.label p s
  pub left_fits : height l ≤ suc (height r)
  pub right_fits : height r ≤ suc (height l)
  pub leans : (row_at table e.slot).balance ≡ balance_of (height l) (height r)
  pub on_left_lem : Fine limits table store p (held e.label) l
  pub on_right_lem : Fine limits table store (held e.label) s r

module _ {limits : Limits} {table store : List ℕ} {p s : Neighbour} {l : Tree} {e : Entry} {r : Tree} where
  -- A node is fine where its own slot and both subtrees are.
  pub fine_of_node : FineNode limits table store p s l e r → Fine limits table store p s (node l e r)
  fine_of_node parts =
      let own = parts.own in
      let a = parts.on_left_lem in
      let b = parts.on_right_lem in
      record {
        used = and_true own.used (and_true a.used b.used);
        between = record { above = own.above; below = own.below; on_left_lem = a.between; on_right_lem = b.between };
        balanced =
            and_true (le-leb _ _ parts.left_fits)
            (and_true (le-leb _ _ parts.right_fits) (and_true a.balanced b.balanced));
        balances = and_true (eq-eqb _ _ parts.leans) (and_true a.balances b.balances);
        prefixes = and_true own.place (and_true own.side (and_true a.prefixes b.prefixes));
      }

  -- Where a node is fine, its own slot and both subtrees are.
  pub node_of_fine : Fine limits table store p s (node l e r) → FineNode limits table store p s l e r
  node_of_fine fine =
      let (used, used_sons) = (both_true _ _).0 fine.used in
      let (used_left, used_right) = (both_true _ _).0 used_sons in
      let (left_fits, after_left) = (both_true _ _).0 fine.balanced in
      let (right_fits, balanced_sons) = (both_true _ _).0 after_left in
      let (balanced_left, balanced_right) = (both_true _ _).0 balanced_sons in
      let (leans, balances_sons) = (both_true _ _).0 fine.balances in
      let (balances_left, balances_right) = (both_true _ _).0 balances_sons in
      let (place, after_place) = (both_true _ _).0 fine.prefixes in
      let (side, prefixes_sons) = (both_true _ _).0 after_place in
      let (prefixes_left, prefixes_right) = (both_true _ _).0 prefixes_sons in
      let window = fine.between in
      record {
        own = record { used = used; above = window.above; below = window.below; place = place; side = side };
        left_fits = leb-true _ _ left_fits;
        right_fits = leb-true _ _ right_fits;
        leans = eqb-true _ _ leans;
        on_left_lem = record {
          used = used_left;
          between = window.on_left_lem;
          balanced = balanced_left;
          balances = balances_left;
          prefixes = prefixes_left;
        };
        on_right_lem = record {
          used = used_right;
          between = window.on_right_lem;
          balanced = balanced_right;
          balances = balances_right;
          prefixes = prefixes_right;
        };
      }

-- what the walk found of a tree: it is fine, and of that height and size
pub record Found (limits : Limits) (table store : List ℕ) (p s : Neighbour) (t : Tree) (h c : ℕ) : Type 0 where
  pub fine : Fine limits table store p s t
  pub high : h ≡ height t
  pub many : c ≡ size t

-- A result that is sound was kept.
kept_sound : (b : Bool) (x : Option Subtree) {h c : ℕ} → kept_if b x ≡ sound_as h c → (b ≡ true) × (x ≡ sound_as h c)
kept_sound true x found = (refl, found)
kept_sound false x found = unsound_not_sound found

module _ (limits : Limits) (table store : List ℕ) where
  -- The walk's tests pass only on a fine tree, and find its height and size.
  pub fine_of_check : {link : ℕ} {t : Tree} → Stands limits table store t link → (p s : Neighbour) {h c : ℕ}
      → check_nodes limits table store p s t ≡ sound_as h c → Found limits table store p s t h c
  fine_of_check stands_none p s {h} {c} found = record {
    fine = record { used = refl; between = tt; balanced = refl; balances = refl; prefixes = refl };
    high = sym (found_once 0 0 h c found).0;
    many = sym (found_once 0 0 h c found).1;
  }
  fine_of_check (stands_node {k} {l} {r} low up at_left at_right) p s found =
      let x = (entry_at limits table store k).label in
      let kept = kept_sound (node_fine limits table store k p s) _ found in
      let sons = over_sound (row_at table k).balance _ _ kept.1 in
      let a = fine_of_check at_left p (held x) sons.on_left_lem in
      let b = fine_of_check at_right (held x) s sons.on_right_lem in
      let leans : (row_at table k).balance ≡ balance_of (height l) (height r) = cc in
      record {
        fine = fine_of_node (record {
          own = node_passed limits table store k p s kept.0;
          left_fits = omega arith;
          right_fits = omega arith;
          leans = leans;
          on_left_lem = a.fine;
          on_right_lem = b.fine;
        });
        high = omega arith;
        many = omega arith;
      }

  -- On a fine tree the walk's tests pass.
  pub check_of_fine : {link : ℕ} {t : Tree} → Stands limits table store t link → (p s : Neighbour)
      → Fine limits table store p s t → check_nodes limits table store p s t ≡ sound_as (height t) (size t)
  check_of_fine stands_none p s fine = refl
  check_of_fine (stands_node {k} {l} {r} low up at_left at_right) p s fine =
      let x = (entry_at limits table store k).label in
      let parts = node_of_fine fine in
      rw (
        node_passes limits table store k p s parts.own,
        check_of_fine at_left p (held x) parts.on_left_lem,
        check_of_fine at_right (held x) s parts.on_right_lem,
      )
      (sound_over (row_at table k).balance (height l) (size l) (height r) (size r) parts.left_fits
      parts.right_fits parts.leans)
