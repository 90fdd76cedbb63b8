-- The labels of a tree's nodes, in the store and as neighbours.
-- LabelStored, LabelsStored: the label of a node, and of each node of a tree, stands in its slot's part of the store.
-- Named: a node's slot holds its label. named_standing, named_least: so does that of a node that stands, and of the
-- smallest node of a tree. below_named, above_named: such a node is the neighbour in its slot.
use mathlib.Core.List.{List}
use mathlib.Core.Path.{◌≡◌, refl, ap, ◌∙◌}
use Prim.Native.Nat.{ℕ, zero, suc, ◌≤◌}
use native.Mathlib.Omega.{arith}
use lib.ListN.{length}
use Rattle.types.specs.declared.Limits.{Limits}
use Rattle.labels.specs.Neighbours.{Neighbour, held}
use Rattle.trees.specs.Trees.{Entry, Tree, empty, node}
use Rattle.trees.specs.Updates.{without_least}
use Rattle.tables.specs.Words.{row_at, label_at, entry_at}
use Rattle.gaps.specs.Windows.{below_in, above_in}
use Rattle.rotations.proofs.Rep.{Stands, Rep}

-- a node's label stands in its slot's part of the store
abbrev pub LabelStored : Limits → List ℕ → Entry → Type 0
LabelStored limits store e = label_at limits store e.slot (length e.label) ≡ e.label

-- so does the label of each node of a tree
abbrev pub LabelsStored : Limits → List ℕ → Tree → Type 0
LabelsStored limits store empty = Unit {0}
LabelsStored limits store (node l e r) =
    LabelStored limits store e × LabelsStored limits store l × LabelsStored limits store r

module _ (limits : Limits) (table store : List ℕ) where
  -- a node's slot holds its label
  pub record Named (e : Entry) : Type 0 where
    pub low : 1 ≤ e.slot
    pub label : (entry_at limits table store e.slot).label ≡ e.label

  -- The slot in which a node stands holds its label.
  pub named_standing : {p q : Neighbour} {l : Tree} {e : Entry} {r : Tree} → Stands table p l e r q
      → LabelStored limits store e → Named e
  named_standing {e = e} stands label =
      let len : (row_at table e.slot).len ≡ length e.label = λ i. (stands.row i).len in
      record { low = stands.has.low; label = rw len label }

  -- So does the slot of the smallest node.
  pub named_least : (l : Tree) (e : Entry) (r : Tree) (p q : Neighbour) → Rep table p q (node l e r)
      → LabelsStored limits store (node l e r) → Named (without_least l e r).least
  named_least empty e r p q rep stored = named_standing rep.0 stored.0
  named_least (node a d b) e r p q rep stored = named_least a d b p (held e.label) rep.1 stored.1

  -- A node is the neighbour below in its slot.
  pub below_named : {e : Entry} → Named e → below_in limits table store e.slot ≡ held e.label
  below_named {e} named = below_in_lem e.slot named.low ∙ ap held named.label
    where
      below_in_lem : (k : ℕ) → 1 ≤ k → below_in limits table store k ≡ held (entry_at limits table store k).label
      below_in_lem zero low = absurd (omega arith)
      below_in_lem (suc k) low = refl

  -- A node is the neighbour above in its slot.
  pub above_named : {e : Entry} → Named e → above_in limits table store e.slot ≡ held e.label
  above_named {e} named = above_in_lem e.slot named.low ∙ ap held named.label
    where
      above_in_lem : (k : ℕ) → 1 ≤ k → above_in limits table store k ≡ held (entry_at limits table store k).label
      above_in_lem zero low = absurd (omega arith)
      above_in_lem (suc k) low = refl
