-- The walk over the tree is a test of the tree that is read.
-- `check_nodes`: the same tests, made on a plain tree.  `check_reading`: on what was read.
-- `walk_of_reading`: the walk finds what these tests find of the tree at the link.
use mathlib.Core.List.{List}
use mathlib.Core.Path.{◌≡◌, refl, ap}
use mathlib.Core.Bool.{Bool, true, false}
use Prim.Native.Nat.{ℕ, zero, suc}
use lib.Dec.{ltb}
use Rattle.std.specs.Prelude.{Option, Some, None}
use Rattle.types.specs.declared.Limits.{Limits}
use Rattle.labels.specs.Neighbours.{Neighbour, held}
use Rattle.trees.specs.Trees.{Entry, Tree, empty, node}
use Rattle.tables.specs.Words.{row_at}
use Rattle.tables.specs.Sound.{Reading, unreadable, reads, read_node, read_tree}
use Rattle.gaps.specs.Windows.{below_in, above_in}
use Rattle.nodechecks.specs.Nodes.{node_fine}
use Rattle.heights.specs.declared.Subtree.{Subtree}
use Rattle.heights.specs.Over.{over}
use Rattle.checks.specs.Check.{check_tree}

-- a subtree that is found sound, h high with c nodes
abbrev pub sound_as : (h c : ℕ) → Option Subtree
sound_as h c = Some (record { height = h; count = c })

-- it has one height and one number of nodes
pub found_once : (h c i d : ℕ) → sound_as h c ≡ sound_as i d → (h ≡ i) × (c ≡ d)
found_once h c i d e =
    let same : ◌≡◌ {A = Subtree} (record { height = h; count = c }) (record { height = i; count = d }) = cc in
    (ap (λ (s : Subtree). s.height) same, ap (λ (s : Subtree). s.count) same)

-- a node's result, where the node itself is fine
abbrev pub kept_if : Bool → Option Subtree → Option Subtree
kept_if true x = x
kept_if false x = None

-- the tests of the walk on a plain tree between the neighbours p and s
abbrev pub check_nodes : Limits → (table store : List ℕ) → (p s : Neighbour) → Tree → Option Subtree
check_nodes limits table store p s empty = sound_as 0 0
check_nodes limits table store p s (node l e r) =
    kept_if (node_fine limits table store e.slot p s)
    (over (row_at table e.slot).balance
    (check_nodes limits table store p (held e.label) l)
    (check_nodes limits table store (held e.label) s r))

-- the same tests on what was read
abbrev pub check_reading : Limits → (table store : List ℕ) → (p s : Neighbour) → Reading → Option Subtree
check_reading limits table store p s unreadable = None
check_reading limits table store p s (reads t) = check_nodes limits table store p s t

-- A node over an unsound subtree is unsound.
over_unsound : (balance : ℕ) (x : Option Subtree) → over balance x None ≡ None
unfolding over
over_unsound balance None = refl
over_unsound balance (Some s) = refl

-- An unsound result stays so, whatever the node itself is.
kept_unsound : (b : Bool) → kept_if b None ≡ None
kept_unsound true = refl
kept_unsound false = refl

-- the walk finds of the subtree at a link what the tests find of the tree read there
abbrev pub WalkReads : Limits → (table store : List ℕ) → (remaining link below above : ℕ) → Type 0
WalkReads limits table store remaining link below above =
    check_tree limits table store remaining link below above
    ≡ check_reading limits table store (below_in limits table store below) (above_in limits table store above)
    (read_tree limits table store remaining link)

module _ (limits : Limits) (table store : List ℕ) where
  -- What is found of a node that is read, from what is found of its sons.
  node_of_readings : (p s : Neighbour) (e : Entry) (x y : Reading)
      → check_reading limits table store p s (read_node x e y)
      ≡ kept_if (node_fine limits table store e.slot p s)
      (over (row_at table e.slot).balance
      (check_reading limits table store p (held e.label) x)
      (check_reading limits table store (held e.label) s y))
  unfolding over
  node_of_readings p s e unreadable y = rw kept_unsound
  node_of_readings p s e (reads l) unreadable = rw (over_unsound, kept_unsound)
  node_of_readings p s e (reads l) (reads r) = refl

  -- The walk at a node, from the walks at its sons.
  walk_of_node : (remaining k below above : ℕ)
      → WalkReads limits table store remaining (row_at table (suc k)).left below (suc k)
      → WalkReads limits table store remaining (row_at table (suc k)).right (suc k) above
      → WalkReads limits table store (suc remaining) (suc k) below above
  unfolding check_tree
  walk_of_node remaining k below above on_left_lem on_right_lem = go (ltb limits.slots (suc k)) refl
    where
      p : Neighbour
      p = below_in limits table store below

      s : Neighbour
      s = above_in limits table store above

      fine : (b : Bool) → ltb limits.slots (suc k) ≡ false → node_fine limits table store (suc k) p s ≡ b
          → WalkReads limits table store (suc remaining) (suc k) below above
      fine true e f = rw (e, f, read_tree, check_tree, on_left_lem, on_right_lem, node_of_readings, f)
      fine false e f = rw (e, f, read_tree, check_tree, node_of_readings, f)

      go : (b : Bool) → ltb limits.slots (suc k) ≡ b
          → WalkReads limits table store (suc remaining) (suc k) below above
      go true e = rw (e, read_tree, check_tree)
      go false e = fine (node_fine limits table store (suc k) p s) e refl

  -- The walk finds of the subtree at a link what the tests find of the tree read there.
  pub walk_of_reading : (remaining link below above : ℕ) → WalkReads limits table store remaining link below above
  unfolding check_tree
  walk_of_reading zero zero below above = refl
  walk_of_reading zero (suc k) below above = refl
  walk_of_reading (suc remaining) zero below above = refl
  walk_of_reading (suc remaining) (suc k) below above =
      walk_of_node remaining k below above (walk_of_reading remaining (row_at table (suc k)).left below (suc k))
      (walk_of_reading remaining (row_at table (suc k)).right (suc k) above)
