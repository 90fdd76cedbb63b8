-- What stays beside a son whose nodes are renewed, and beside a node that is renewed alone.
-- son_stays: a son stays where the node alone is renewed.
-- node_stays, other_stays: the node and its other son stay where one son's nodes are renewed.
-- renews_son: that touches slots of the node's tree.
use mathlib.Core.List.{List, [], ◌∷◌}
use Prim.Native.Nat.{ℕ}
use native.Mathlib.Omega.{arith}
use Rattle.labels.specs.Neighbours.{Neighbour}
use Rattle.trees.specs.Trees.{Entry, Tree, slots, Side, from}
use Rattle.rotations.proofs.Rep.{Stands, Rep, Once}
use Rattle.rotations.proofs.Frames.{own_slot}
use Rattle.rotations.proofs.Nodes.{occurrences_from}
use Rattle.rotations.proofs.Stays.{stands_framed, rep_apart}
use Rattle.rewritten.proofs.Renewing.{Renews, renews_wider}

module _ (s : Side) (near : Tree) (e : Entry) (far : Tree) (once : Once (slots (from s near e far)))
    {before after : List ℕ} where
  -- A son stays where the node alone is renewed.
  pub son_stays : Renews (e.slot ∷ []) before after → (p q : Neighbour) → Rep before p q near → Rep after p q near
  son_stays renews p q =
      rep_apart renews.frame p q near (λ k. omega (arith, once k, occurrences_from s k near e far))

  module _ (renews : Renews (slots near) before after) where
    -- The node stays where a son's nodes are renewed.
    pub node_stays : {p q : Neighbour} {l r : Tree} → Stands before p l e r q → Stands after p l e r q
    node_stays =
        stands_framed renews.frame
        (omega (arith, once e.slot, occurrences_from s e.slot near e far, own_slot e.slot))

    -- So does its other son.
    pub other_stays : (p q : Neighbour) → Rep before p q far → Rep after p q far
    other_stays p q = rep_apart renews.frame p q far (λ k. omega (arith, once k, occurrences_from s k near e far))

    -- That touches slots of the node's tree.
    pub renews_son : Renews (slots (from s near e far)) before after
    renews_son = renews_wider (λ k. omega (arith, occurrences_from s k near e far)) renews
