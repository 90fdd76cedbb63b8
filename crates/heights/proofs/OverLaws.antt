-- A node over its sons: the balance word, the height rule, and sizes that can be counted.
-- `balance_beyond`, `balance_untrue`, `balance_true`: a node over two sound sons.
-- `small_over`, `sons_fit`: sizes of a node and of its sons.
use Prim.Native.Nat.{ℕ, suc, ◌+◌, ◌≤◌, ◌<◌, max, Ordering}
use mathlib.Core.Path.{◌≡◌, refl}
use mathlib.Core.Bool.{Bool, true, false, ◌&&◌, cond}
use native.Mathlib.Omega.{arith}
use native.Mathlib.Nat.{pow-le-pow_right}
use lib.Dec.{eqb, leb}
use borrow.Author.Tests.{le-leb, eq-eqb}
use Rattle.std.specs.Prelude.{Option, Some, None}
use Rattle.labels.proofs.Numbers.{Ordered, is_lt, is_eq, is_gt, ordered}
use Rattle.labels.proofs.Numbers.{Leb, le_yes, le_no, leb_view, Eqb, eq_yes, eq_no, eqb_view}
use Rattle.tables.specs.Prefix.{balance_by, balance_of}
use Rattle.heights.specs.Over.{over}
use Rattle.heights.specs.Fits.{Small, SonsFit}
use Rattle.heights.specs.declared.Subtree.{Subtree}

-- ---- two sound sons

module _ (balance h k : ℕ) where
  -- the true balance of heights that keep the rule is one more than what the right one has over the left one
  leans : h ≤ k + 1 → k ≤ h + 1 → balance ≡ balance_of h k → (balance ≤ 2) × (h + balance ≡ k + 1)
  leans p q = go (ordered h k)
    where
      go : {o : Ordering} → Ordered h k o → balance ≡ balance_by o → (balance ≤ 2) × (h + balance ≡ k + 1)
      go (is_lt less) e = (omega arith, omega arith)
      go (is_eq equal) e = (omega arith, omega arith)
      go (is_gt more) e = (omega arith, omega arith)

  -- and the other way round
  lean_true : balance ≤ 2 → h + balance ≡ k + 1 → balance ≡ balance_of h k
  lean_true low e = go (ordered h k)
    where
      go : {o : Ordering} → Ordered h k o → balance ≡ balance_by o
      go (is_lt less) = omega arith
      go (is_eq equal) = omega arith
      go (is_gt more) = omega arith

module _ (balance : ℕ) (l r : Subtree) where
  -- it is not so
  untrue : (balance ≤ 2 → l.height + balance ≡ r.height + 1 → ⊥) → None ≡ over balance (Some l) (Some r)
  unfolding over
  untrue n = go (leb_view l.height (r.height + 1)) (leb_view r.height (l.height + 1))
      (eqb_view balance (balance_of l.height r.height))
    where
      node : Subtree
      node = record { height = max l.height r.height + 1; count = l.count + r.count + 1 }

      go : {a b t : Bool} → Leb l.height (r.height + 1) a → Leb r.height (l.height + 1) b
          → Eqb balance (balance_of l.height r.height) t → None ≡ cond (a && (b && t)) (Some node) None
      go (le_yes p) (le_yes q) (eq_yes e) = let lean = leans balance l.height r.height p q e in absurd (n lean.0 lean.1)
      go (le_yes p) (le_yes q) (eq_no e) = refl
      go (le_yes p) (le_no q) t = refl
      go (le_no p) b t = refl

  -- the word is no balance
  pub balance_beyond : 2 < balance → None ≡ over balance (Some l) (Some r)
  balance_beyond beyond = untrue (λ low e. omega arith)

  -- it is not the true one, or the height rule is broken
  pub balance_untrue : (l.height + balance ≡ r.height + 1 → ⊥) → None ≡ over balance (Some l) (Some r)
  balance_untrue n = untrue (λ low e. n e)

  -- the height rule and the balance hold
  pub balance_true : (m : ℕ) → balance ≤ 2 → l.height + balance ≡ r.height + 1 → m ≡ max l.height r.height
      → Some (record { height = m + 1; count = l.count + r.count + 1 }) ≡ over balance (Some l) (Some r)
  unfolding over
  balance_true m low e g =
      let left : l.height ≤ r.height + 1 = omega arith in
      let right : r.height ≤ l.height + 1 = omega arith in
      let true_one = lean_true balance l.height r.height low e in
      rw (le-leb _ _ left, le-leb _ _ right, eq-eqb balance (balance_of l.height r.height) true_one, g)

-- ---- sizes

-- what is small is small at more
small_more : (n m : ℕ) (s : Option Subtree) → n ≤ m → Small n s → Small m s
small_more n m None p q = tt
small_more n m (Some s) p q = (omega arith, omega (arith, pow-le-pow_right {n = 2} (omega arith) p))

-- a node over two small sons is small at one more
pub small_over : (n balance : ℕ) (a b : Option Subtree) → Small n a → Small n b → Small (suc n) (over balance a b)
unfolding over
small_over n balance None b p q = tt
small_over n balance (Some l) None p q = tt
small_over n balance (Some l) (Some r) p q =
    go (leb l.height (r.height + 1) && (leb r.height (l.height + 1) && eqb balance (balance_of l.height r.height)))
  where
    node : Subtree
    node = record { height = max l.height r.height + 1; count = l.count + r.count + 1 }

    go : (t : Bool) → Small (suc n) (cond t (Some node) None)
    go true = (omega arith, omega arith)
    go false = tt

-- two sons that are small at 63 or less can be counted together
pub sons_fit : (n : ℕ) (l r : Subtree) → n ≤ 63 → Small n (Some l) → Small n (Some r) → SonsFit l r
sons_fit n l r p q s =
    let left : Small 63 (Some l) = small_more n 63 (Some l) p q in
    let right : Small 63 (Some r) = small_more n 63 (Some r) p s in
    record { left_low = left.0; left_counted = left.1; right_low = right.0; right_counted = right.1 }
