-- What is read from the links of a table, as a relation between a link and what stands at it.
-- Stands: a tree stands at a link, each node in a slot of the table; Follows: a chain of slots goes on from a link.
-- tree_read, chain_read: what is read stands at its link.
-- link_of_standing, link_of_following: the link is the one of what stands there.
-- stands_when_read, follows_when_read: a tree that is read stands at its link, and a chain goes on from it.
-- read_when_follows: a chain that goes on from a link, and is not too long, is read there.
use mathlib.Core.List.{List, [], ◌∷◌}
use mathlib.Core.Path.{◌≡◌, refl}
use mathlib.Core.Bool.{Bool, true, false}
use Prim.Native.Nat.{ℕ, zero, suc, ◌≤◌}
use native.Mathlib.Omega.{arith}
use lib.ListN.{length}
use borrow.Author.Tests.{le-ltb}
use Rattle.labels.proofs.Numbers.{Ltb, lt_yes, lt_no, ltb_view}
use Rattle.labels.proofs.Clashes.{clash}
use Rattle.types.specs.declared.Limits.{Limits}
use Rattle.trees.specs.Trees.{Tree, empty, node}
use Rattle.tables.specs.Words.{row_at, entry_at}
use Rattle.tables.specs.Written.{link_of, first_of}
use Rattle.tables.specs.Sound.{Reading, unreadable, reads, read_node, read_tree}
use Rattle.tables.specs.Written.{link_of, first_of}
use Rattle.tables.specs.Sound.{Chain, endless, chain, linked_to, read_chain}

-- a tree stands at a link: nothing at link 0, at the link k a node with the entry of slot k and the sons at its links
pub data Stands (limits : Limits) (table store : List ℕ) : Tree → ℕ → Type 0 where
  stands_none : Stands limits table store empty 0
  stands_node : {k : ℕ} {l r : Tree} → 1 ≤ k → k ≤ limits.slots
      → Stands limits table store l (row_at table k).left → Stands limits table store r (row_at table k).right
      → Stands limits table store (node l (entry_at limits table store k) r) k

-- a chain of slots goes on from a link, each slot's left link to the next
pub data Follows (limits : Limits) (table : List ℕ) : List ℕ → ℕ → Type 0 where
  follows_none : Follows limits table [] 0
  follows_slot : {k : ℕ} {more : List ℕ} → 1 ≤ k → k ≤ limits.slots
      → Follows limits table more (row_at table k).left → Follows limits table (k ∷ more) k

-- what reading the tree at a link gave, and what it says
pub data TreeRead (limits : Limits) (table store : List ℕ) (link : ℕ) : Reading → Type 0 where
  no_tree : TreeRead limits table store link unreadable
  a_tree : {t : Tree} → Stands limits table store t link → TreeRead limits table store link (reads t)

-- what reading the chain at a link gave, and what it says
pub data ChainRead (limits : Limits) (table : List ℕ) (link : ℕ) : Chain → Type 0 where
  no_chain : ChainRead limits table link endless
  a_chain : {list : List ℕ} → Follows limits table list link → ChainRead limits table link (chain list)

module _ (limits : Limits) (table store : List ℕ) where
  node_read : (k : ℕ) {b : Bool} {x y : Reading} → Ltb limits.slots (suc k) b
      → TreeRead limits table store (row_at table (suc k)).left x
      → TreeRead limits table store (row_at table (suc k)).right y
      → TreeRead limits table store (suc k)
      (elim b [ true ↦ unreadable | false ↦ read_node x (entry_at limits table store (suc k)) y ])
  node_read k (lt_yes beyond) x y = no_tree
  node_read k (lt_no within) no_tree y = no_tree
  node_read k (lt_no within) (a_tree l) no_tree = no_tree
  node_read k (lt_no within) (a_tree l) (a_tree r) = a_tree (stands_node {k = suc k} (omega arith) within l r)

  -- The tree read at a link stands there.
  pub tree_read : (left link : ℕ) → TreeRead limits table store link (read_tree limits table store left link)
  tree_read zero zero = a_tree stands_none
  tree_read zero (suc k) = no_tree
  tree_read (suc left) zero = a_tree stands_none
  tree_read (suc left) (suc k) =
      node_read k (ltb_view limits.slots (suc k)) (tree_read left (row_at table (suc k)).left)
      (tree_read left (row_at table (suc k)).right)

module _ (limits : Limits) (table : List ℕ) where
  slot_read : (k : ℕ) {b : Bool} {x : Chain} → Ltb limits.slots (suc k) b
      → ChainRead limits table (row_at table (suc k)).left x
      → ChainRead limits table (suc k) (elim b [ true ↦ endless | false ↦ linked_to (suc k) x ])
  slot_read k (lt_yes beyond) x = no_chain
  slot_read k (lt_no within) no_chain = no_chain
  slot_read k (lt_no within) (a_chain more) = a_chain (follows_slot {k = suc k} (omega arith) within more)

  -- The chain read at a link goes on from there.
  pub chain_read : (left link : ℕ) → ChainRead limits table link (read_chain limits table left link)
  chain_read zero zero = a_chain follows_none
  chain_read zero (suc k) = no_chain
  chain_read (suc left) zero = a_chain follows_none
  chain_read (suc left) (suc k) =
      slot_read k (ltb_view limits.slots (suc k)) (chain_read left (row_at table (suc k)).left)

-- A tree that is read at a link stands there.
pub stands_when_read : {limits : Limits} {table store : List ℕ} {link : ℕ} {x : Reading} {t : Tree}
    → TreeRead limits table store link x → x ≡ reads t → Stands limits table store t link
stands_when_read no_tree is = clash cc
stands_when_read {t = t} (a_tree {t = u} stands) is = let same : u ≡ t = cc in rw (← same) stands

-- A chain that is read at a link goes on from there.
pub follows_when_read : {limits : Limits} {table : List ℕ} {link : ℕ} {x : Chain} {list : List ℕ}
    → ChainRead limits table link x → x ≡ chain list → Follows limits table list link
follows_when_read no_chain is = clash cc
follows_when_read {list = list} (a_chain {list = one} follows) is = let same : one ≡ list = cc in rw (← same) follows

-- A chain that goes on from a link, and is not too long, is read there.
pub read_when_follows : {limits : Limits} {table list : List ℕ} {link : ℕ} → Follows limits table list link
    → (left : ℕ) → length list ≤ left → read_chain limits table left link ≡ chain list
read_when_follows follows_none zero fits = refl
read_when_follows follows_none (suc left) fits = refl
read_when_follows (follows_slot {k} low up more) zero fits = absurd (omega arith)
read_when_follows (follows_slot {k = zero} low up more) (suc left) fits = absurd (omega arith)
read_when_follows {limits} (follows_slot {k = suc k} low up more) (suc left) fits =
    rw (le-ltb limits.slots (suc k) up, read_chain, read_when_follows more left (omega arith))

-- A tree's link is the link that it stands at.
pub link_of_standing : {limits : Limits} {table store : List ℕ} {t : Tree} {link : ℕ}
    → Stands limits table store t link → link ≡ link_of t
link_of_standing stands_none = refl
link_of_standing (stands_node low up l r) = refl

-- A chain's first slot is the link that it goes on from.
pub link_of_following : {limits : Limits} {table list : List ℕ} {link : ℕ}
    → Follows limits table list link → link ≡ first_of list
link_of_following follows_none = refl
link_of_following (follows_slot low up more) = refl
