-- A double rotation in a table's words is a double rotation of the tree.
-- `twice_refines`: it represents the turned tree, and touches only its slots.
use mathlib.Core.Path.{◌≡◌, refl, sym, ◌∙◌}
use mathlib.Core.List.{List}
use mathlib.Core.Bool.{Bool}
use Prim.Native.Nat.{ℕ, suc, ◌+◌, max}
use native.Mathlib.Omega.{arith}
use lib.Dec.{eqb}
use Rattle.types.specs.declared.Row.{Row}
use Rattle.labels.specs.Neighbours.{Neighbour}
use Rattle.trees.specs.Trees.{Entry, Tree, slots, Side, other, from}
use Rattle.trees.specs.Heights.{height}
use Rattle.trees.specs.Valid.{one_if, occurrences}
use Rattle.trees.proofs.Sides.{height_from}
use Rattle.tables.specs.Written.{link_of}
use Rattle.words.specs.Rows.{HasRow}
use Rattle.sides.specs.Rows.{put_on}
use Rattle.turns.specs.Turns.{outcome}
use Rattle.rotations.proofs.Rep.{Rep, Once, Refines, flip_on, low_on, high_on, RepOn}
use Rattle.rotations.proofs.Flips.{Leans}
use Rattle.rotations.proofs.Frames.{own_slot, other_slot, frame_wider, has_framed, rep_framed}
use Rattle.rotations.proofs.Nodes.{Standing, rep_from, occurrences_from, link_from}
use Rattle.rotations.proofs.Prefix.{row_of}
use Rattle.rotations.proofs.Stores.{ThreeStored, three_stored}
use Rattle.rotations.proofs.Windows.{rep_outwards, rep_inwards, rep_parted_near, rep_parted_far, row_bare}

-- the rows of y, e and w after the rotation, with these balances
abbrev pub outer_row : Side → Neighbour → Neighbour → Tree → Entry → Tree → Entry → ℕ → Row
outer_row s p q outer y i w out = row_of (low_on s p w.label) (link_of outer) (link_of i) out y (high_on s w.label q)

abbrev pub inner_row : Side → Neighbour → Neighbour → Entry → Tree → Entry → Tree → ℕ → Row
inner_row s p q w j e short down =
    row_of (low_on (other s) p w.label) (link_of j) (link_of short) down e (high_on (other s) w.label q)

abbrev pub top_row : Neighbour → Neighbour → Entry → Entry → Entry → ℕ → Row
top_row p q y w e top = row_of p y.slot e.slot top w q

-- e over its son y on the side s; y has the subtree outer and the inner son w over i and j; e has the other son short
module _ (s : Side) (table : List ℕ) (p q : Neighbour) (outer : Tree) (y : Entry) (i : Tree) (w : Entry) (j : Tree)
    (e : Entry) (short : Tree) (once : Once (slots (from s (from s outer y (from s i w j)) e short)))
    (e_has : HasRow table e.slot) (y_has : HasRow table y.slot)
    (outer_rep : RepOn s table (low_on s p e.label) y.label (high_on s e.label q) outer)
    (middle : Standing s table (low_on (other s) (low_on s p e.label) y.label)
    (high_on (other s) y.label (high_on s e.label q)) i w j)
    (short_rep : RepOn (other s) table p e.label q short) where
  -- How often a slot stands in the tree.
  counts : (k : ℕ) → occurrences k (slots (from s (from s outer y (from s i w j)) e short))
      ≡ occurrences k (slots outer) + one_if (eqb k y.slot)
      + (occurrences k (slots i) + one_if (eqb k w.slot) + occurrences k (slots j))
      + (one_if (eqb k e.slot) + occurrences k (slots short))
  counts k =
      omega (
        arith,
        occurrences_from s k (from s outer y (from s i w j)) e short,
        occurrences_from s k outer y (from s i w j),
        occurrences_from s k i w j,
      )

  module _ {after : List ℕ} {out top down : ℕ} (stored : ThreeStored (flip_on s) table after
      y.slot (outer_row s p q outer y i w out) e.slot (inner_row s p q w j e short down)
      w.slot (top_row p q y w e top)) where
    -- The son stands below the node that rose.
    outer_sunk : Leans (height outer) (height i) out
        → Rep after (low_on s p w.label) (high_on s w.label q) (from s outer y i)
    outer_sunk lean =
        let p' = low_on s p w.label in
        let q' = high_on s w.label q in
        rep_from after p' q' outer y i s (record {
          has = has_framed stored.frame y_has;
          row = stored.first_row ∙ row_bare p' q' outer y i refl refl lean;
          near_rep = rep_framed stored.frame _ _ outer (λ k occurs. omega (arith, once k, counts k))
              (rep_inwards table p q w.label y.label outer s
              (rep_outwards table p q e.label y.label outer s outer_rep));
          far_rep = rep_framed stored.frame _ _ i (λ k occurs. omega (arith, once k, counts k))
              (rep_parted_near table p q e.label y.label w.label i s middle.near_rep);
        })

    -- The node stands below the one that rose.
    inner_sunk : Leans (height j) (height short) down
        → Rep after (low_on (other s) p w.label) (high_on (other s) w.label q) (from s j e short)
    inner_sunk lean =
        let p' = low_on (other s) p w.label in
        let q' = high_on (other s) w.label q in
        rep_from after p' q' j e short s (record {
          has = has_framed stored.frame e_has;
          row = stored.second_row ∙ row_bare p' q' j e short refl refl lean;
          near_rep = rep_framed stored.frame _ _ j (λ k occurs. omega (arith, once k, counts k))
              (rep_parted_far table p q e.label y.label w.label j s middle.far_rep);
          far_rep = rep_framed stored.frame _ _ short (λ k occurs. omega (arith, once k, counts k))
              (rep_inwards table p q w.label e.label short (other s) short_rep);
        })

    -- The node that rose stands above both, and only slots of the tree are touched.
    risen : (tall : Bool) → Leans (height outer) (height i) out
        → Leans (suc (max (height outer) (height i))) (suc (max (height j) (height short))) top
        → Leans (height j) (height short) down
        → Refines table p q (from s (from s outer y i) w (from s j e short)) tall
        (slots (from s (from s outer y (from s i w j)) e short)) (outcome after w.slot tall)
    risen tall out_lean top_lean down_lean =
        let near = from s outer y i in
        let far = from s j e short in
        let lean : Leans (height near) (height far) top =
        rw (height_from s outer y i, height_from s j e short) top_lean in
        record {
          link = sym (link_from s near w far);
          height = refl;
          rep = rep_from after p q near w far s (record {
            has = has_framed stored.frame middle.has;
            row =
                stored.third_row
                ∙ row_bare p q near w far (sym (link_from s outer y i)) (sym (link_from s j e short)) lean;
            near_rep = outer_sunk out_lean;
            far_rep = inner_sunk down_lean;
          });
          frame = frame_wider (λ k out. omega (arith, counts k)) stored.frame;
        }

  -- A double rotation represents the turned tree, and touches only its slots.
  pub twice_refines : (out top down : ℕ) (tall : Bool) → Leans (height outer) (height i) out
      → Leans (suc (max (height outer) (height i))) (suc (max (height j) (height short))) top
      → Leans (height j) (height short) down
      → Refines table p q (from s (from s outer y i) w (from s j e short)) tall
      (slots (from s (from s outer y (from s i w j)) e short))
      (outcome (put_on (flip_on s) (put_on (flip_on s) (put_on (flip_on s) table
      y.slot (outer_row s p q outer y i w out)) e.slot (inner_row s p q w j e short down))
      w.slot (top_row p q y w e top)) w.slot tall)
  twice_refines out top down =
      risen (three_stored (flip_on s) table y.slot (outer_row s p q outer y i w out)
      e.slot (inner_row s p q w j e short down) y_has e_has
      (other_slot y.slot e.slot (omega (arith, once y.slot, counts y.slot, own_slot y.slot)))
      w.slot (top_row p q y w e top) middle.has
      (other_slot y.slot w.slot (omega (arith, once y.slot, counts y.slot, own_slot y.slot)))
      (other_slot e.slot w.slot (omega (arith, once e.slot, counts e.slot, own_slot e.slot))))
