-- The place and side of a label, by its gaps with two neighbours.
-- `Named`, `named_by`: a side of 0 names the neighbour below, one of 1 the one above.
-- `side_below`, `side_above`, `side_known`: the difference places, by the side.
-- `broken`, `right`: place and side are by no two gaps, or by these.
-- `parts_there`, `parts_elsewhere`: a gap, from the test whether it parts at a place.  `parted_once`: it has one.
use Prim.Native.Nat.{ℕ, ◌≤◌, ◌<◌}
use mathlib.Core.Path.{◌≡◌, refl, sym, ap, ◌∙◌}
use mathlib.Core.Bool.{Bool, true, false, ◌&&◌, cond, true≢false}
use native.Mathlib.Omega.{arith}
use lib.Dec.{eqb}
use borrow.Author.Tests.{eq-eqb, eqb-true}
use Rattle.std.specs.Prelude.{None}
use Rattle.labels.proofs.Numbers.{Leb, le_yes, le_no, leb_view, Eqb, eq_yes, eq_no, eqb_view}
use Rattle.tables.specs.Prefix.{place_by, side_by}
use Rattle.gaps.specs.Gapped.{Gap, wrong, parted, parts_at, gaps_of, both_when, fields_fit, fields_fine, both}

-- the neighbour that a side names: the one below, or upward the one above
pub data Named : (side : ℕ) → (upward : Bool) → Type 0 where
  names_below : Named 0 false
  names_above : Named 1 true

-- a side of 0 or 1 names one, by the test whether it is 1
pub named_by : (side : ℕ) (upward : Bool) → side ≤ 1 → upward ≡ eqb side 1 → Named side upward
named_by side upward known named = rw named (go (eqb_view side 1))
  where
    go : {found : Bool} → Eqb side 1 found → Named side found
    go (eq_yes above) = rw above names_above
    go (eq_no other) = let below : side ≡ 0 = omega arith in rw below names_below

-- the side, by the two difference places
pub side_below : (p q : ℕ) → ◌≡◌ {A = ℕ} 0 (side_by p q) → q ≤ p
side_below p q = go (leb_view q p)
  where
    go : {found : Bool} → Leb q p found → ◌≡◌ {A = ℕ} 0 (cond found 0 1) → q ≤ p
    go (le_yes most) e = most
    go (le_no more) e = absurd (omega arith)

pub side_above : (p q : ℕ) → ◌≡◌ {A = ℕ} 1 (side_by p q) → p < q
side_above p q = go (leb_view q p)
  where
    go : {found : Bool} → Leb q p found → ◌≡◌ {A = ℕ} 1 (cond found 0 1) → p < q
    go (le_yes most) e = absurd (omega arith)
    go (le_no more) e = more

pub side_known : (p q side : ℕ) → 1 < side → side ≡ side_by p q → ⊥
side_known p q side beyond = go (leb_view q p)
  where
    go : {found : Bool} → Leb q p found → side ≡ cond found 0 1 → ⊥
    go (le_yes most) e = omega arith
    go (le_no more) e = omega arith

module _ (at side : ℕ) where
  -- both are by the difference places
  fine : (p q : ℕ) → at ≡ place_by p q → side ≡ side_by p q → both p q ≡ fields_fine at side (both p q)
  unfolding fields_fine fields_fit
  fine p q e f = rw (eq-eqb at (place_by p q) e, eq-eqb side (side_by p q) f)

  -- they are not
  not_fine : (p q : ℕ) → (at ≡ place_by p q → side ≡ side_by p q → ⊥) → None ≡ fields_fine at side (both p q)
  unfolding fields_fine fields_fit
  not_fine p q n = go (eqb_view at (place_by p q)) (eqb_view side (side_by p q))
    where
      go : {a b : Bool} → Eqb at (place_by p q) a → Eqb side (side_by p q) b → None ≡ both_when (a && b) p q
      go (eq_yes e) (eq_yes f) = absurd (n e f)
      go (eq_yes e) (eq_no f) = refl
      go (eq_no e) b = refl

  -- of two gaps: they are not, whatever these are
  pub broken : (low high : Gap)
      → ((p q : ℕ) → parted p ≡ low → parted q ≡ high → at ≡ place_by p q → side ≡ side_by p q → ⊥)
      → None ≡ fields_fine at side (gaps_of low high)
  unfolding fields_fine
  broken wrong high n = refl
  broken (parted p) wrong n = refl
  broken (parted p) (parted q) n = not_fine p q (n p q refl refl)

  -- they are by these
  pub right : (p q : ℕ) (low high : Gap) → parted p ≡ low → parted q ≡ high → at ≡ place_by p q → side ≡ side_by p q
      → both p q ≡ fields_fine at side (gaps_of low high)
  right p q low high e f g h = rw (← e, ← f) (fine p q g h)

-- a gap that parts at a place is that place
pub parts_there : (at : ℕ) (g : Gap) (t : Bool) → t ≡ parts_at at g → t ≡ true → parted at ≡ g
parts_there at wrong t e is = absurd (true≢false (sym is ∙ e))
parts_there at (parted i) t e is = ap parted (eqb-true at i (sym e ∙ is))

-- one that does not is no such place
pub parts_elsewhere : (at i : ℕ) (g : Gap) (t : Bool) → t ≡ parts_at at g → t ≡ false → parted i ≡ g → at ≡ i → ⊥
parts_elsewhere at i g t e is found there =
    true≢false (sym (eq-eqb at i there) ∙ ap (parts_at at) found ∙ sym e ∙ is)

-- it parts at one place
pub parted_once : (i j : ℕ) (g : Gap) → parted i ≡ g → parted j ≡ g → i ≡ j
parted_once i j g e f = let same : parted i ≡ parted j = e ∙ sym f in cc
