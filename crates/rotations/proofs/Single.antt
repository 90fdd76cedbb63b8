-- One rotation in a table's words is one rotation of the tree.
-- `once_refines`: it represents the turned tree, and touches only its slots.
use mathlib.Core.Path.{◌≡◌, refl, sym, ◌∙◌}
use mathlib.Core.Logic.{◌≢◌}
use mathlib.Core.List.{List}
use mathlib.Core.Bool.{Bool}
use Prim.Native.Nat.{ℕ, suc, ◌+◌, max}
use native.Mathlib.Omega.{arith}
use lib.Dec.{eqb}
use Rattle.types.specs.declared.Row.{Row}
use Rattle.labels.specs.Neighbours.{Neighbour}
use Rattle.trees.specs.Trees.{Entry, Tree, slots, Side, other, from}
use Rattle.trees.specs.Heights.{height}
use Rattle.trees.specs.Valid.{one_if, occurrences}
use Rattle.trees.proofs.Sides.{height_from}
use Rattle.tables.specs.Written.{link_of}
use Rattle.words.specs.Rows.{HasRow}
use Rattle.sides.specs.Rows.{put_on}
use Rattle.turns.specs.Turns.{outcome}
use Rattle.rotations.proofs.Rep.{Rep, Once, Refines, flip_on, low_on, high_on, RepOn}
use Rattle.rotations.proofs.Flips.{Leans}
use Rattle.rotations.proofs.Frames.{own_slot, other_slot, frame_wider, has_framed, rep_framed}
use Rattle.rotations.proofs.Nodes.{Standing, rep_from, occurrences_from, link_from}
use Rattle.rotations.proofs.Prefix.{row_of}
use Rattle.rotations.proofs.Stores.{TwoStored, two_stored}
use Rattle.rotations.proofs.Windows.{rep_outwards, rep_inwards, rep_crossed, row_bare}

-- the rows of e and of its son y on the side s after the rotation, with these balances
abbrev pub lowered_row : Side → Neighbour → Neighbour → Entry → Tree → Entry → Tree → ℕ → Row
lowered_row s p q y inner e short down =
    row_of (low_on (other s) p y.label) (link_of inner) (link_of short) down e (high_on (other s) y.label q)

abbrev pub raised_row : Neighbour → Neighbour → Tree → Entry → Entry → ℕ → Row
raised_row p q outer y e up = row_of p (link_of outer) e.slot up y q

-- e over its son y on the side s, with the subtrees outer and inner of y and the other son short
module _ (s : Side) (table : List ℕ) (p q : Neighbour) (outer : Tree) (y : Entry) (inner : Tree) (e : Entry)
    (short : Tree) (once : Once (slots (from s (from s outer y inner) e short))) (has : HasRow table e.slot)
    (son : Standing s table (low_on s p e.label) (high_on s e.label q) outer y inner)
    (far_rep : RepOn (other s) table p e.label q short) where
  -- How often a slot stands in the tree.
  counts : (k : ℕ) → occurrences k (slots (from s (from s outer y inner) e short))
      ≡ occurrences k (slots outer) + (one_if (eqb k y.slot) + occurrences k (slots inner))
      + (one_if (eqb k e.slot) + occurrences k (slots short))
  counts k = omega (arith, occurrences_from s k (from s outer y inner) e short, occurrences_from s k outer y inner)

  apart : e.slot ≢ y.slot
  apart = other_slot e.slot y.slot (omega (arith, once e.slot, counts e.slot, own_slot e.slot))

  module _ {after : List ℕ} {down up : ℕ} (stored : TwoStored (flip_on s) table after
      e.slot (lowered_row s p q y inner e short down) y.slot (raised_row p q outer y e up))
      (down_lean : Leans (height inner) (height short) down) where
    -- The node that sank stands in the table.
    sunk : Rep after (low_on (other s) p y.label) (high_on (other s) y.label q) (from s inner e short)
    sunk =
        let p' = low_on (other s) p y.label in
        let q' = high_on (other s) y.label q in
        rep_from after p' q' inner e short s (record {
          has = has_framed stored.frame has;
          row = stored.first_row ∙ row_bare p' q' inner e short refl refl down_lean;
          near_rep = rep_framed stored.frame _ _ inner (λ k occurs. omega (arith, once k, counts k))
              (rep_crossed table p q e.label y.label inner s son.far_rep);
          far_rep = rep_framed stored.frame _ _ short (λ k occurs. omega (arith, once k, counts k))
              (rep_inwards table p q y.label e.label short (other s) far_rep);
        })

    -- The node that rose stands above it, and only slots of the tree are touched.
    risen : (tall : Bool) → Leans (height outer) (suc (max (height inner) (height short))) up
        → Refines table p q (from s outer y (from s inner e short)) tall
        (slots (from s (from s outer y inner) e short)) (outcome after y.slot tall)
    risen tall up_lean =
        let low = from s inner e short in
        let lean : Leans (height outer) (height low) up = rw (height_from s inner e short) up_lean in
        record {
          link = sym (link_from s outer y low);
          height = refl;
          rep = rep_from after p q outer y low s (record {
            has = has_framed stored.frame son.has;
            row = stored.second_row ∙ row_bare p q outer y low refl (sym (link_from s inner e short)) lean;
            near_rep = rep_framed stored.frame _ _ outer (λ k occurs. omega (arith, once k, counts k))
                (rep_outwards table p q e.label y.label outer s son.near_rep);
            far_rep = sunk;
          });
          frame = frame_wider (λ k out. omega (arith, counts k)) stored.frame;
        }

  -- One rotation represents the turned tree, and touches only its slots.
  pub once_refines : (down up : ℕ) (tall : Bool) → Leans (height inner) (height short) down
      → Leans (height outer) (suc (max (height inner) (height short))) up
      → Refines table p q (from s outer y (from s inner e short)) tall (slots (from s (from s outer y inner) e short))
      (outcome (put_on (flip_on s) (put_on (flip_on s) table e.slot (lowered_row s p q y inner e short down))
      y.slot (raised_row p q outer y e up)) y.slot tall)
  once_refines down up tall down_lean up_lean =
      risen (two_stored (flip_on s) table e.slot (lowered_row s p q y inner e short down)
      y.slot (raised_row p q outer y e up) has son.has apart) down_lean tall up_lean
