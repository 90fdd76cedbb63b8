-- The row of a new leaf, from the numbers and the slots where its search ended.
-- `leaf_fields_lem`: its place and its side are those within its window.
-- `leaf_row_lem`: so its row is the one that it stands in.
use mathlib.Core.List.{List}
use mathlib.Core.Path.{◌≡◌, refl, sym, ◌∙◌}
use mathlib.Core.Bool.{cond, ◌&&◌}
use Prim.Native.Nat.{ℕ, zero, suc, max}
use native.Mathlib.Omega.{arith}
use lib.Dec.{eqb}
use lib.ListN.{length}
use borrow.Author.Tests.{ne_eqb}
use Rattle.types.specs.declared.Limits.{Limits}
use Rattle.labels.specs.Labels.{Label}
use Rattle.labels.specs.Neighbours.{Neighbour, none_below, none_above}
use Rattle.trees.specs.Trees.{empty}
use Rattle.trees.specs.Plain.{new_node}
use Rattle.tables.specs.Prefix.{side_by, side_within}
use Rattle.gaps.specs.Windows.{below_in, above_in}
use Rattle.steps.proofs.Window.{Sought}
use Rattle.steps.proofs.Leaf.{place_of_leaf, side_of_leaf}
use Rattle.rotations.proofs.Rep.{bare_within, bare_row}
use Rattle.traces.specs.declared.Trace.{Trace}
use Rattle.insertions.specs.Insertions.{leaf_fields, leaf_row}
use Rattle.rewritten.proofs.InRows.{Inner, place_of_inner}

module _ (limits : Limits) (table store : List ℕ) (x : Label) (P S : ℕ) where
  -- the neighbours in two slots
  abbrev low : ℕ → Neighbour
  low below = below_in limits table store below

  abbrev high : ℕ → Neighbour
  high above = above_in limits table store above

  abbrev Seeks : ℕ → ℕ → Type 0
  Seeks below above = Sought (low below) x (high above) P S

  -- With a neighbour, the leaf's place is the larger of P and S.
  place_by_numbers : (below above : ℕ) → Seeks below above → Inner (low below) (high above)
      → max P S ≡ bare_within (low below) x (high above)
  place_by_numbers below above sought inner =
      sym (place_of_leaf sought) ∙ place_of_inner (low below) x (high above) inner

  -- Its place is the one in its window, 0 at the root.
  place_by_slots : (below above : ℕ) → Seeks below above
      → cond (eqb below 0 && eqb above 0) 0 (max P S) ≡ bare_within (low below) x (high above)
  place_by_slots zero zero sought = refl
  place_by_slots zero (suc j) sought =
      rw (ne_eqb (suc j) 0 (omega arith)) (place_by_numbers zero (suc j) sought refl)
  place_by_slots (suc k) above sought =
      rw (ne_eqb (suc k) 0 (omega arith)) (place_by_numbers (suc k) above sought refl)

  -- Its side is the one in its window.
  side_by_slots : (below above : ℕ) → Seeks below above
      → cond (eqb above 0) 0 (cond (eqb below 0) 1 (side_by P S)) ≡ side_within (low below) x (high above)
  side_by_slots below zero sought = sym (side_of_leaf (low below) none_above sought)
  side_by_slots zero (suc j) sought =
      rw (ne_eqb (suc j) 0 (omega arith)) (sym (side_of_leaf none_below (high (suc j)) sought))
  side_by_slots (suc k) (suc j) sought =
      rw (ne_eqb (suc j) 0 (omega arith), ne_eqb (suc k) 0 (omega arith))
      (sym (side_of_leaf (low (suc k)) (high (suc j)) sought))

-- The leaf's fields are those in its window.
pub leaf_fields_lem : (limits : Limits) (table store : List ℕ) (x : Label) (trace : Trace) (low high : Neighbour)
    → below_in limits table store trace.below ≡ low → above_in limits table store trace.above ≡ high
    → Sought low x high trace.p trace.s
    → leaf_fields trace ≡ record { place = bare_within low x high; side = side_within low x high }
unfolding leaf_fields
leaf_fields_lem limits table store x trace low high below above sought =
    let seeks : Seeks limits table store x trace.p trace.s trace.below trace.above =
    rw (below, above) sought in
    rw (← below, ← above) (λ i. record {
      place = place_by_slots limits table store x trace.p trace.s trace.below trace.above seeks i;
      side = side_by_slots limits table store x trace.p trace.s trace.below trace.above seeks i;
    })

-- The leaf's row is the one that it stands in.
pub leaf_row_lem : (limits : Limits) (table store : List ℕ) (x : Label) (value slot : ℕ) (trace : Trace)
    (low high : Neighbour)
    → below_in limits table store trace.below ≡ low → above_in limits table store trace.above ≡ high
    → Sought low x high trace.p trace.s
    → leaf_row (leaf_fields trace) (length x) value ≡ bare_row low empty (new_node x value slot) empty high
leaf_row_lem limits table store x value slot trace low high below above sought =
    rw (leaf_fields_lem limits table store x trace low high below above sought)
