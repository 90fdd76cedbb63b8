-- What the tests of one node and of its sons say, where the walk goes on over them.
-- `node_passes`: a node that is used, in order, and has its true place and side passes its test.
-- `unsound_not_sound`: an unsound subtree is not sound.
-- `over_sound`, `sound_over`: a node is found sound exactly over sound sons, in the height rule, its balance true.
use mathlib.Core.List.{List}
use mathlib.Core.Path.{◌≡◌, refl}
use mathlib.Core.Bool.{Bool, true, false, ◌&&◌, cond}
use Prim.Native.Nat.{ℕ, suc, ◌+◌, ◌≤◌, max}
use native.Mathlib.Omega.{arith}
use native.Mathlib.Numerals.{add-one}
use lib.Dec.{eqb, leb}
use borrow.Author.Tests.{leb-true, le-leb, eqb-true, eq-eqb}
use Rattle.std.specs.Prelude.{Option, Some, None}
use Rattle.types.specs.declared.Limits.{Limits}
use Rattle.labels.specs.Neighbours.{Neighbour}
use Rattle.trees.proofs.Views.{both_true}
use Rattle.trees.proofs.Passing.{and_true, false_not_true}
use Rattle.tables.specs.Words.{entry_at}
use Rattle.tables.specs.Prefix.{balance_of}
use Rattle.gaps.proofs.OrderTests.{test_of_before}
use Rattle.nodechecks.specs.Nodes.{node_fine}
use Rattle.nodechecks.proofs.NodeTests.{NodeFine}
use Rattle.heights.specs.Over.{over}
use Rattle.heights.specs.declared.Subtree.{Subtree}
use Rattle.decides.proofs.TreeWalks.{sound_as, found_once}

-- A node that is fine passes its test.
pub node_passes : (limits : Limits) (table store : List ℕ) (k : ℕ) (p s : Neighbour)
    → NodeFine limits table store k (entry_at limits table store k).label p s
    → node_fine limits table store k p s ≡ true
unfolding node_fine
node_passes limits table store k p s fine =
    and_true fine.used
    (and_true (test_of_before p _ fine.above)
    (and_true (test_of_before _ s fine.below) (and_true fine.place fine.side)))

-- An unsound subtree is not sound.
pub unsound_not_sound : {A : Type 0} {h c : ℕ} → None ≡ sound_as h c → A
unsound_not_sound is = false_not_true cc

-- a node over two sons is sound, h high with c nodes
pub record SoundOver (balance : ℕ) (x y : Option Subtree) (h c : ℕ) : Type 0 where
  pub left_height : ℕ
  pub left_count : ℕ
  pub right_height : ℕ
  pub right_count : ℕ
  pub on_left_lem : x ≡ sound_as left_height left_count
  pub on_right_lem : y ≡ sound_as right_height right_count
  pub left_fits : left_height ≤ suc right_height
  pub right_fits : right_height ≤ suc left_height
  pub balanced : balance ≡ balance_of left_height right_height
  pub height : h ≡ suc (max left_height right_height)
  pub count : c ≡ suc (left_count + right_count)

-- A node that is found sound over its sons is so.
pub over_sound : (balance : ℕ) (x y : Option Subtree) {h c : ℕ} → over balance x y ≡ sound_as h c
    → SoundOver balance x y h c
unfolding over
over_sound balance None y found = unsound_not_sound found
over_sound balance (Some l) None found = unsound_not_sound found
over_sound balance (Some l) (Some r) {h} {c} found =
    go (leb l.height (r.height + 1) && (leb r.height (l.height + 1) && eqb balance (balance_of l.height r.height)))
    refl found
  where
    go : (t : Bool)
        → (leb l.height (r.height + 1)
        && (leb r.height (l.height + 1) && eqb balance (balance_of l.height r.height))) ≡ t
        → cond t (sound_as (max l.height r.height + 1) (l.count + r.count + 1)) None ≡ sound_as h c
        → SoundOver balance (Some l) (Some r) h c
    go true passed found =
        let of_left = (both_true _ _).0 passed in
        let of_right = (both_true _ _).0 of_left.1 in
        let once = found_once (max l.height r.height + 1) (l.count + r.count + 1) h c found in
        record {
          left_height = l.height;
          left_count = l.count;
          right_height = r.height;
          right_count = r.count;
          on_left_lem = refl;
          on_right_lem = refl;
          left_fits = omega (arith, leb-true l.height (r.height + 1) of_left.0);
          right_fits = omega (arith, leb-true r.height (l.height + 1) of_right.0);
          balanced = eqb-true balance (balance_of l.height r.height) of_right.1;
          height = omega (arith, once.0);
          count = omega (arith, once.1);
        }
    go false failed found = unsound_not_sound found

-- A node within the height rule, with its true balance, is found sound over its sons.
pub sound_over : (balance a m b n : ℕ) → a ≤ suc b → b ≤ suc a → balance ≡ balance_of a b
    → over balance (sound_as a m) (sound_as b n) ≡ sound_as (suc (max a b)) (suc (m + n))
unfolding over
sound_over balance a m b n left_fits right_fits balanced =
    rw (le-leb a (b + 1) (omega arith), le-leb b (a + 1) (omega arith), eq-eqb balance (balance_of a b) balanced)
    (simp add-one)
