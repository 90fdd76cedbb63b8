-- The cases of a double rotation are the balances that the new heights give.
-- `double_turn_balances`: the claim, for either lean. The four subtrees below the three nodes lie in label order, and
-- have the same heights either way: the outer two are as tall as the taller of the inner two.
-- `not_mirrored_fails`: with no balance mirrored the cases are false for the other lean.
use mathlib.Core.Path.{◌≡◌, refl, sym, ap}
use mathlib.Core.List.{[]}
use Prim.Native.Nat.{ℕ, zero, suc, ◌≤◌, max}
use native.Mathlib.Omega.{arith}
use borrow.Author.Tests.{lt-ltb}
use Rattle.trees.specs.Trees.{Entry, Tree, empty, node, left, right}
use Rattle.trees.specs.Heights.{height}
use Rattle.trees.proofs.Heights.{KeptSons, kept_of_balanced}
use Rattle.tables.specs.Prefix.{balance_of}
use Rattle.sides.specs.declared.Balances.{Balances}
use Rattle.sides.specs.Doubles.{balances, double_turn, GiveBalances, DoubleTurnBalances, NotMirrored}
use Rattle.rotations.proofs.Flips.{leans, balance_is}
use Rattle.rotations.proofs.Tops.{twice_balances}

-- The balances of three nodes over four subtrees, by their heights: the inner two may be sons of one node.
balances_over : (a : ℕ) (i j : Tree) (d : ℕ) → KeptSons i j → a ≡ d → max (height i) (height j) ≡ d
    → balances (balance_of a (height i)) (balance_of (suc (max a (height i))) (suc (max (height j) d)))
    (balance_of (height j) d)
    ≡ double_turn (balance_of (height i) (height j))
balances_over a i j d inner level tall =
    let now = twice_balances a (height i) (height j) d (leans (height i) (height j)) inner.near_fits
    inner.far_fits level tall in
    simp (balance_is now.0, balance_is now.1, balance_is now.2)

-- Each case, for either lean.
each_case : GiveBalances double_turn
each_case left l y empty e short met = absurd (omega (arith, met.other_way))
each_case left l y (node i w j) e short met =
    let sons = kept_of_balanced (node l y (node i w j)) met.balanced in
    simp (lt-ltb (height l) (height (node i w j)) met.other_way)
    (balances_over (height l) i j (height short) sons.far_kept
    (omega (arith, met.by_two, met.other_way, sons.far_fits))
    (omega (arith, met.by_two, met.other_way, sons.far_fits)))
each_case right empty y r e short met = absurd (omega (arith, met.other_way))
each_case right (node i w j) y r e short met =
    let sons = kept_of_balanced (node (node i w j) y r) met.balanced in
    simp (lt-ltb (height r) (height (node i w j)) met.other_way)
    (balances_over (height short) i j (height r) sons.near_kept
    (omega (arith, met.by_two, met.other_way, sons.near_fits))
    (omega (arith, met.by_two, met.other_way, sons.near_fits)))

-- An entry, and a tree of one node.
abbrev some_entry : Entry
some_entry = record { label = []; value = 0; slot = 0; charge = 0 }

abbrev leaf : Tree
leaf = node empty some_entry empty

-- For each balance of the middle node there is a double rotation, so no other cases give the balances.
only_these : (cases : ℕ → Balances) → GiveBalances cases → (middle : ℕ) → middle ≤ 2 → cases middle ≡ double_turn middle
only_these cases give zero low = sym (give left leaf some_entry (node leaf some_entry empty) some_entry leaf
    (record { balanced = refl; by_two = refl; other_way = omega arith }))
only_these cases give (suc zero) low = sym (give left empty some_entry leaf some_entry empty
    (record { balanced = refl; by_two = refl; other_way = omega arith }))
only_these cases give (suc (suc zero)) low = sym (give left leaf some_entry (node empty some_entry leaf) some_entry leaf
    (record { balanced = refl; by_two = refl; other_way = omega arith }))
only_these cases give (suc (suc (suc middle))) low = absurd (omega arith)

-- The claim.
pub double_turn_balances : DoubleTurnBalances
double_turn_balances = record { each = each_case; only = only_these }

-- Without the mirror the cases are false for the other lean.
pub not_mirrored_fails : NotMirrored → ⊥
not_mirrored_fails wrong =
    absurd (omega (
      arith,
      ap (λ b. b.lower) (wrong right (node leaf some_entry empty) some_entry leaf some_entry leaf
          (record { balanced = refl; by_two = refl; other_way = omega arith })),
    ))
