-- A node whose near son is taller by two is turned in the words as in the tree.
-- `Stale`: a node whose row has the balance from before its near son rose by one against the far one.
-- `Leaned`: what `lean` has to leave. `refines_as`, `taller_as`: an outcome by equal words, of an equal tree.
-- `turn_refines`: where the near son is taller by two, `turn` is the turn of the tree.
use mathlib.Core.Path.{◌≡◌, ap, ◌∙◌}
use mathlib.Core.List.{List}
use mathlib.Core.Bool.{Bool, false, cond}
use Prim.Native.Nat.{ℕ, suc, ◌≤◌, ◌<◌, max}
use native.Mathlib.Omega.{arith}
use lib.Dec.{eqb, ltb}
use borrow.Author.Tests.{le-ltb}
use Rattle.types.specs.declared.Row.{Row}
use Rattle.labels.specs.Neighbours.{Neighbour}
use Rattle.trees.specs.Trees.{Entry, Tree, slots, Side, other, from}
use Rattle.trees.specs.Heights.{height}
use Rattle.trees.proofs.Heights.{Kept}
use Rattle.trees.proofs.Sides.{height_from, sons_from}
use Rattle.trees.proofs.Sorted.{Between}
use Rattle.tables.specs.Prefix.{balance_of}
use Rattle.tables.specs.Written.{link_of}
use Rattle.words.specs.Rows.{HasRow}
use Rattle.sides.specs.Rows.{row_on}
use Rattle.sides.specs.Doubles.{double_turn}
use Rattle.turns.specs.Turns.{Turned, turn_once, turn_twice, turn}
use Rattle.rotations.proofs.Rep.{Once, Refines, flip_on, low_on, high_on, RepOn, top_on}
use Rattle.rotations.proofs.Flips.{Leans, to_near, even, to_far, leans, balance_is}
use Rattle.rotations.proofs.Nodes.{Standing, from_rep, rising_from, link_from, Seen, none, some, seen}
use Rattle.rotations.proofs.Prefix.{row_of, turns_row}
use Rattle.rotations.proofs.Windows.{rising_inner, rising_twice, turns_inner}
use Rattle.rotations.proofs.Computed.{once_is, twice_is, turn_is}
use Rattle.rotations.proofs.Single.{once_refines}
use Rattle.rotations.proofs.Double.{twice_refines}
use Rattle.rotations.proofs.Tops.{top_once, top_twice_lem, once_balances, twice_balances}

-- a node whose near son has become taller by one against the far one; its row has the balance from before
pub record Stale (s : Side) (table : List ℕ) (p q : Neighbour) (near : Tree) (e : Entry) (far : Tree) : Type 0 where
  pub order : Between p q (from s near e far)
  pub once : Once (slots (from s near e far))
  pub has : HasRow table e.slot
  pub row : row_on (flip_on s) table e.slot
      ≡ row_of p (link_of near) (link_of far) (balance_of (height near) (suc (height far))) e q
  pub near_rep : RepOn s table p e.label q near
  pub far_rep : RepOn (other s) table p e.label q far
  pub near_kept : Kept near
  pub not_lower : height far ≤ height near
  pub by_two : height near ≤ suc (suc (height far))

-- the outcome of `lean`: the tree is taller than before the near son rose, or as tall
abbrev pub Leaned : Side → List ℕ → Neighbour → Neighbour → Tree → Entry → Tree → Turned → Type 0
Leaned s table p q near e far o =
    Refines table p q (top_on s near e far) (ltb (max (height near) (suc (height far))) (height (top_on s near e far)))
    (slots (from s near e far)) o

-- An outcome by equal words, of an equal tree, as tall.
pub refines_as : {before touched : List ℕ} {p q : Neighbour} {t u : Tree} {tall tall' : Bool} {o o' : Turned}
    → o' ≡ o → u ≡ t → tall' ≡ tall → Refines before p q t tall touched o → Refines before p q u tall' touched o'
refines_as words tree height refines = rw (words, tree, height) refines

-- The test of two heights, by the numbers that they are equal to.
pub taller_as : {m n : ℕ} {tall : Bool} (k l : ℕ) → m ≡ k → n ≡ l → ltb k l ≡ tall → ltb m n ≡ tall
taller_as k l p q tall = rw (p, q) tall

module _ (s : Side) (table : List ℕ) (p q : Neighbour) (outer : Tree) (y : Entry) (e : Entry) (short : Tree)
    (parent : row_on (flip_on s) table e.slot ≡ row_of p y.slot (link_of short) 0 e q) where
  -- A node whose near son is even or leans outwards.
  turns_once : (inner : Tree) {b : ℕ} → Stale s table p q (from s outer y inner) e short
      → height (from s outer y inner) ≡ suc (suc (height short))
      → Standing s table (low_on s p e.label) (high_on s e.label q) outer y inner
      → Leans (height outer) (height inner) b → height inner ≤ height outer
      → Leaned s table p q (from s outer y inner) e short (turn_once (flip_on s) table e.slot)
  turns_once inner {b} stale tall son lean outwards =
      let of_near = height_from s outer y inner in
      let of_low = height_from s inner e short in
      let of_top = height_from s outer y (from s inner e short) in
      let sons = sons_from s outer y inner stale.near_kept in
      let balances = once_balances (height outer) (height inner) (height short) lean outwards
      (omega arith) (omega arith) in
      let top = top_once s outer y inner e short (omega arith) outwards in
      let rising = rising_from s p q outer y inner e short stale.order in
      refines_as
      (once_is (flip_on s) table e.slot parent (son.row ∙ ap (son_row inner) (balance_is lean))
      (turns_row s p q e y rising y.slot (link_of short) 0 (link_of outer) (link_of inner) b))
      top
      (taller_as (suc (suc (height short))) (suc (max (height outer) (suc (max (height inner) (height short)))))
      (omega arith) (ap height top ∙ omega arith) balances.2)
      (once_refines s table p q outer y inner e short stale.once stale.has son stale.far_rep
      (cond (eqb b 1) 0 1) (cond (eqb b 1) 2 1) (eqb b 1) balances.0 balances.1)
    where
      son_row : Tree → ℕ → Row
      son_row inner b = row_of (low_on s p e.label) (link_of outer) (link_of inner) b y (high_on s e.label q)

  -- A node whose near son leans inwards.
  turns_twice : {inner : Tree} → Seen s inner → Stale s table p q (from s outer y inner) e short
      → height (from s outer y inner) ≡ suc (suc (height short))
      → Standing s table (low_on s p e.label) (high_on s e.label q) outer y inner
      → height outer < height inner
      → Leaned s table p q (from s outer y inner) e short (turn_twice (flip_on s) table e.slot)
  turns_twice none stale tall son inwards = absurd (omega arith)
  turns_twice (some i w j) stale tall son inwards =
      let of_near = height_from s outer y (from s i w j) in
      let of_inner = height_from s i w j in
      let of_y = height_from s outer y i in
      let of_e = height_from s j e short in
      let of_top = height_from s (from s outer y i) w (from s j e short) in
      let sons = sons_from s outer y (from s i w j) stale.near_kept in
      let parted = sons_from s i w j sons.far_kept in
      let b = balance_of (height i) (height j) in
      let balances = twice_balances (height outer) (height i) (height j) (height short) (leans (height i) (height j))
      parted.near_fits parted.far_fits (omega arith) (omega arith) in
      let top = top_twice_lem s outer y i w j e short (omega arith) inwards in
      let middle = from_rep table (low_on (other s) (low_on s p e.label) y.label)
      (high_on (other s) y.label (high_on s e.label q)) i w j s son.far_rep in
      let inner_rising = rising_inner p q outer y i w j e short s stale.order in
      let rising = rising_twice p q outer y i w j e short s stale.order in
      refines_as
      (twice_is (flip_on s) table e.slot parent (son.row ∙ ap son_row (link_from s i w j)) middle.row
      (turns_inner s p q e y w inner_rising (link_of outer) w.slot son_balance (link_of i) (link_of j) b)
      (turns_row s p q e w rising y.slot (link_of short) 0 (link_of i) (link_of j) b))
      top
      (taller_as (suc (suc (height short))) (suc (suc (height short)))
      (omega arith) (ap height top ∙ omega arith)
      (le-ltb (suc (suc (height short))) (suc (suc (height short))) (omega arith)))
      (twice_refines s table p q outer y i w j e short stale.once stale.has son.has son.near_rep middle
      stale.far_rep (double_turn b).lower (double_turn b).middle (double_turn b).upper false
      balances.0 balances.1 balances.2)
    where
      son_balance : ℕ
      son_balance = balance_of (height outer) (height (from s i w j))

      son_row : ℕ → Row
      son_row link = row_of (low_on s p e.label) (link_of outer) link son_balance y (high_on s e.label q)

  -- The turn that the balance of the near son asks for.
  turns_by : (inner : Tree) {b : ℕ} → Stale s table p q (from s outer y inner) e short
      → height (from s outer y inner) ≡ suc (suc (height short))
      → Standing s table (low_on s p e.label) (high_on s e.label q) outer y inner
      → Leans (height outer) (height inner) b
      → Leaned s table p q (from s outer y inner) e short
      (cond (eqb b 2) (turn_twice (flip_on s) table e.slot) (turn_once (flip_on s) table e.slot))
  turns_by inner stale tall son (to_near h) = turns_once inner stale tall son (to_near h) (omega arith)
  turns_by inner stale tall son (even h) = turns_once inner stale tall son (even h) (omega arith)
  turns_by inner stale tall son (to_far h) = turns_twice (seen s inner) stale tall son h

-- A node whose near son is taller by two is turned in the words as in the tree.
pub turn_refines : (s : Side) (table : List ℕ) (p q : Neighbour) {near : Tree} (e : Entry) (far : Tree) → Seen s near
    → Stale s table p q near e far → height near ≡ suc (suc (height far))
    → row_on (flip_on s) table e.slot ≡ row_of p (link_of near) (link_of far) 0 e q
    → Leaned s table p q near e far (turn (flip_on s) table e.slot)
turn_refines s table p q e far none stale tall row = absurd (omega arith)
turn_refines s table p q e far (some outer y inner) stale tall row =
    let son = from_rep table (low_on s p e.label) (high_on s e.label q) outer y inner s stale.near_rep in
    let parent = row ∙ ap (λ link. row_of p link (link_of far) 0 e q) (link_from s outer y inner) in
    rw (turn_is (flip_on s) table e.slot parent son.row)
    (turns_by s table p q outer y e far parent inner stale tall son (leans (height outer) (height inner)))
