-- The two spines beside a node that is to be taken out, renewed.
-- right_spine: the subtree to the left of the node stands in a window that ends at the node that comes next.
-- left_spine: in the subtree to its right every node but the smallest has the smallest as its neighbour below.
-- least_from_lem: the smallest node's slot is found.
use mathlib.Core.List.{List, []}
use mathlib.Core.Path.{◌≡◌, refl, sym, subst⁻¹, ◌∙◌}
use mathlib.Core.Bool.{Bool, true, false, cond}
use Prim.Native.Nat.{ℕ, zero, suc, ◌≤◌}
use native.Mathlib.Omega.{arith}
use lib.Dec.{eqb}
use borrow.Author.Tests.{eq-eqb, ne_eqb}
use Rattle.types.specs.declared.Limits.{Limits}
use Rattle.labels.specs.Neighbours.{Neighbour, held}
use Rattle.trees.specs.Trees.{Entry, Tree, empty, node, slots, left, right}
use Rattle.trees.specs.Heights.{height}
use Rattle.trees.specs.Updates.{without_least}
use Rattle.trees.specs.Valid.{occurrences}
use Rattle.trees.proofs.SlotCounts.{occurrences_of_node}
use Rattle.tables.specs.Words.{row_at}
use Rattle.tables.specs.Written.{link_of}
use Rattle.sides.specs.Rows.{flipped, row_on}
use Rattle.rotations.proofs.Rep.{Rep, Once}
use Rattle.rotations.proofs.Along.{RepLeast}
use Rattle.rotations.proofs.Frames.{own_slot, other_slot}
use Rattle.rotations.proofs.Pops.{occurrences_of_rest}
use Rattle.renewals.specs.Renewals.{renewed, renewed_spine, least_from}
use Rattle.rewritten.proofs.Naming.{named_standing, below_named, above_named}
use Rattle.rewritten.proofs.Subtrees.{Subtree, Window, left_son, right_son}
use Rattle.rewritten.proofs.Renewing.{Renews, renews_none, renews_both, below_renewed, above_renewed}
use Rattle.rewritten.proofs.Beside.{son_stays, node_stays, other_stays}
use Rattle.rewritten.proofs.Renewing.{root_within, renews_one, renewed_stands}

-- ---- a step along a spine

module _ (limits : Limits) (flip : Bool) (table store : List ℕ) where
  -- A spine at no node is empty.
  spine_none : (count outer least : ℕ) → renewed_spine limits flip count table store 0 outer least ≡ table
  unfolding renewed_spine
  spine_none zero outer least = refl
  spine_none (suc count) outer least = refl

  -- A spine ends at the next node.
  spine_end : (count outer least : ℕ) → renewed_spine limits flip count table store least outer least ≡ table
  unfolding renewed_spine
  spine_end zero outer least = refl
  spine_end (suc count) outer least = rw (eq-eqb least least refl) (either (eqb least 0))
    where
      either : (b : Bool) → cond b table table ≡ table
      either true = refl
      either false = refl

  -- At another node its fields are renewed, and the spine goes on.
  spine_step : (count slot outer least next : ℕ) → (slot ≡ 0 → ⊥) → (slot ≡ least → ⊥)
      → (row_on flip table slot).right ≡ next
      → renewed_spine limits flip (suc count) table store slot outer least
      ≡ renewed_spine limits flip count
      (renewed limits table store slot (cond flip least outer) (cond flip outer least)) store next slot least
  unfolding renewed_spine
  spine_step count slot outer least next some apart link = rw (ne_eqb slot 0 some, ne_eqb slot least apart, link)

module _ (limits : Limits) (store : List ℕ) where
  -- The right spine of a subtree renewed: its window ends at the neighbour in the slot least.
  pub right_spine : (t : Tree) (p q q' : Neighbour) (table : List ℕ) (count outer least : ℕ)
      → Subtree limits table store count p q t → Window limits table store outer least p q'
      → occurrences least (slots t) ≡ 0
      → let after = renewed_spine limits false count table store (link_of t) outer least in
      Rep after p q' t × Renews (slots t) table after
  unfolding flipped
  right_spine empty p q q' table count outer least whole window apart =
      rw (spine_none limits false table store count outer least) (tt, renews_none [] table)
  right_spine (node l e r) p q q' table zero outer least whole window apart = absurd (omega (arith, whole.fits))
  right_spine (node l e r) p q q' table (suc count) outer least whole window apart =
      let here = held e.label in
      let rep = whole.rep in
      let once = whole.once in
      let son = right_son limits table store l e r whole in
      let step = renewed limits table store e.slot outer least in
      let one = renews_one limits table store e.slot outer least rep.0.has in
      let stands = renewed_stands limits table store outer least rep.0 whole.stored.0 window.lower
      window.upper in
      let deeper = right_spine r here q q' step count e.slot least (record {
        fits = omega (arith, whole.fits);
        rep = son_stays right r e l once one here q rep.2;
        once = son.once;
        stored = son.stored;
      }) (record {
        lower = below_named limits step store (named_standing limits step store stands whole.stored.0);
        upper = above_renewed limits store one least ∙ window.upper;
      }) (omega (arith, occurrences_of_node least l e r)) in
      subst⁻¹ (λ (after : List ℕ). Rep after p q' (node l e r) × Renews (slots (node l e r)) table after)
      (spine_step limits false table store count e.slot outer least (link_of r)
      (λ none. omega (arith, rep.0.has.low))
      (λ same. other_slot least e.slot (omega (arith, occurrences_of_node least l e r)) (sym same))
      (λ i. (rep.0.row i).right)) (
        (
          node_stays right r e l once deeper.1 stands,
          other_stays right r e l once deeper.1 p here (son_stays left l e r once one p here rep.1),
          deeper.0,
        ),
        renews_both (root_within l e r) (λ k. omega (arith, occurrences_of_node k l e r)) one deeper.1,
      )

  -- The left spine of a subtree renewed: every node but the smallest has the smallest as its neighbour below.
  pub left_spine : (l : Tree) (e : Entry) (r : Tree) (p q : Neighbour) (table : List ℕ) (count outer : ℕ)
      → let least = (without_least l e r).least in Subtree limits table store count p q (node l e r)
      → Window limits table store least.slot outer (held least.label) q
      → let after = renewed_spine limits true count table store e.slot outer least.slot in
      RepLeast after (held least.label) q (node l e r) × Renews (slots (node l e r)) table after
  unfolding flipped
  left_spine empty e r p q table count outer whole window =
      let row = whole.rep.0.row in
      rw (spine_end limits true table store count outer e.slot) (
        (
          whole.rep.0.has,
          λ i. (row i).left,
          λ i. (row i).right,
          λ i. (row i).len,
          λ i. (row i).value,
          λ i. (row i).charge,
          whole.rep.2,
        ),
        renews_none (slots (node empty e r)) table,
      )
  left_spine (node a d b) e r p q table zero outer whole window = absurd (omega (arith, whole.fits))
  left_spine (node a d b) e r p q table (suc count) outer whole window =
      let least = (without_least a d b).least in
      let here = held e.label in
      let rep = whole.rep in
      let once = whole.once in
      let son = left_son limits table store (node a d b) e r whole in
      let step = renewed limits table store e.slot least.slot outer in
      let one = renews_one limits table store e.slot least.slot outer rep.0.has in
      let stands = renewed_stands limits table store least.slot outer rep.0 whole.stored.0 window.lower
      window.upper in
      let deeper = left_spine a d b p here step count e.slot (record {
        fits = omega (arith, whole.fits);
        rep = son_stays left (node a d b) e r once one p here rep.1;
        once = son.once;
        stored = son.stored;
      }) (record {
        lower = below_renewed limits store one least.slot ∙ window.lower;
        upper = above_named limits step store (named_standing limits step store stands whole.stored.0);
      }) in
      subst⁻¹ (λ (after : List ℕ). RepLeast after (held least.label) q (node (node a d b) e r)
      × Renews (slots (node (node a d b) e r)) table after)
      (spine_step limits true table store count e.slot outer least.slot d.slot
      (λ none. omega (arith, rep.0.has.low)) (apart once) (λ i. (rep.0.row i).left)) (
        (
          node_stays left (node a d b) e r once deeper.1 stands,
          deeper.0,
          other_stays left (node a d b) e r once deeper.1 here q
              (son_stays right r e (node a d b) once one here q rep.2),
        ),
        renews_both (root_within (node a d b) e r) (λ k. omega (arith, occurrences_of_node k (node a d b) e r)) one
            deeper.1,
      )
    where
      apart : Once (slots (node (node a d b) e r)) → e.slot ≡ (without_least a d b).least.slot → ⊥
      apart once =
          other_slot e.slot (without_least a d b).least.slot
          (omega (
            arith,
            once e.slot,
            occurrences_of_node e.slot (node a d b) e r,
            own_slot e.slot,
            occurrences_of_rest e.slot a d b,
          ))

-- The smallest node's slot is found.
pub least_from_lem : (l : Tree) (e : Entry) (r : Tree) (p q : Neighbour) (table : List ℕ) (count : ℕ)
    → height (node l e r) ≤ count → Rep table p q (node l e r)
    → least_from count table e.slot ≡ (without_least l e r).least.slot
unfolding least_from
least_from_lem l e r p q table zero fits rep = absurd (omega arith)
least_from_lem empty e r p q table (suc count) fits rep =
    let none : (row_at table e.slot).left ≡ 0 = λ i. (rep.0.row i).left in rw none
least_from_lem (node a d b) e r p q table (suc count) fits rep =
    let link : (row_at table e.slot).left ≡ d.slot = λ i. (rep.0.row i).left in
    rw (link, ne_eqb d.slot 0 (λ none. omega (arith, rep.1.0.has.low)))
    (least_from_lem a d b p (held e.label) table count (omega arith) rep.1)
