-- What `rebalanced` makes of a node, seen from a side, and the balances that a rotation leaves.
-- `top_level`, `top_once`, `top_twice_lem`: the node stays, is rotated once, or twice.
-- `once_balances`, `twice_balances`: the balances after a rotation, from the balance of the son or of the middle node.
use mathlib.Core.Path.{◌≡◌}
use mathlib.Core.Bool.{cond}
use Prim.Native.Nat.{ℕ, suc, ◌≤◌, ◌<◌, max}
use native.Mathlib.Omega.{arith}
use lib.Dec.{eqb, ltb}
use borrow.Author.Tests.{lt-ltb, le-ltb}
use Rattle.trees.specs.Trees.{Entry, Tree, node, Side, left, right, from}
use Rattle.trees.specs.Heights.{height}
use Rattle.sides.specs.Doubles.{double_turn}
use Rattle.rotations.proofs.Rep.{top_on}
use Rattle.rotations.proofs.Flips.{Leans, to_near, even, to_far}

-- A node whose sons' heights differ by at most one stays.
pub top_level : (s : Side) (near : Tree) (e : Entry) (far : Tree) → height near ≤ suc (height far)
    → height far ≤ suc (height near) → top_on s near e far ≡ from s near e far
top_level left near e far h g =
    simp (le-ltb (suc (height far)) (height near) h, le-ltb (suc (height near)) (height far) g)
top_level right near e far h g =
    simp (le-ltb (suc (height near)) (height far) g, le-ltb (suc (height far)) (height near) h)

-- A node whose near son is too tall, and even or leans outwards, is rotated once.
pub top_once : (s : Side) (outer : Tree) (y : Entry) (inner : Tree) (e : Entry) (short : Tree)
    → suc (height short) < height (from s outer y inner) → height inner ≤ height outer
    → top_on s (from s outer y inner) e short ≡ from s outer y (from s inner e short)
top_once left outer y inner e short h g =
    simp (lt-ltb (suc (height short)) (height (node outer y inner)) h, le-ltb (height outer) (height inner) g)
top_once right outer y inner e short h g =
    simp (
      le-ltb (suc (height (node inner y outer))) (height short) (omega arith),
      lt-ltb (suc (height short)) (height (node inner y outer)) h,
      le-ltb (height outer) (height inner) g,
    )

-- A node whose near son is too tall, and leans inwards, is rotated twice.
pub top_twice_lem : (s : Side) (outer : Tree) (y : Entry) (i : Tree) (w : Entry) (j : Tree) (e : Entry) (short : Tree)
    → suc (height short) < height (from s outer y (from s i w j)) → height outer < height (from s i w j)
    → top_on s (from s outer y (from s i w j)) e short ≡ from s (from s outer y i) w (from s j e short)
top_twice_lem left outer y i w j e short h g =
    simp (
      lt-ltb (suc (height short)) (height (node outer y (node i w j))) h,
      lt-ltb (height outer) (height (node i w j)) g,
    )
top_twice_lem right outer y i w j e short h g =
    simp (
      le-ltb (suc (height (node (node j w i) y outer))) (height short) (omega arith),
      lt-ltb (suc (height short)) (height (node (node j w i) y outer)) h,
      lt-ltb (height outer) (height (node j w i)) g,
    )

-- The balances after one rotation, of the node that sank and of the one that rose; and whether the tree stays as tall.
pub once_balances : (outer inner short : ℕ) {b : ℕ} → Leans outer inner b → inner ≤ outer → outer ≤ suc inner
    → max outer inner ≡ suc short
    → Leans inner short (cond (eqb b 1) 0 1) × Leans outer (suc (max inner short)) (cond (eqb b 1) 2 1)
    × (ltb (suc (suc short)) (suc (max outer (suc (max inner short)))) ≡ eqb b 1)
once_balances outer inner short (to_near h) lean fits tall =
    let top = suc (max outer (suc (max inner short))) in
    (even (omega arith), even (omega arith), le-ltb (suc (suc short)) top (omega arith))
once_balances outer inner short (even h) lean fits tall =
    let top = suc (max outer (suc (max inner short))) in
    (to_near (omega arith), to_far (omega arith), lt-ltb (suc (suc short)) top (omega arith))
once_balances outer inner short (to_far h) lean fits tall = absurd (omega arith)

-- The balances after a double rotation, from the old balance of the middle node: of the lower node over a and b, of the
-- middle one, and of the upper one over c and d.
pub twice_balances : (a b c d : ℕ) {middle : ℕ} → Leans b c middle → b ≤ suc c → c ≤ suc b → a ≡ d → max b c ≡ d
    → Leans a b (double_turn middle).lower × Leans (suc (max a b)) (suc (max c d)) (double_turn middle).middle
    × Leans c d (double_turn middle).upper
twice_balances a b c d (to_near h) fits fits' level tall =
    (even (omega arith), even (omega arith), to_far (omega arith))
twice_balances a b c d (even h) fits fits' level tall =
    (even (omega arith), even (omega arith), even (omega arith))
twice_balances a b c d (to_far h) fits fits' level tall =
    (to_near (omega arith), even (omega arith), even (omega arith))
