-- A label whose side names no neighbour.
-- `side_alone`: its tests say how its place and side are by its gaps.
-- `no_place`, `no_side`: these are by no gaps where the place is 0, or the side beyond 1.
use Prim.Native.Nat.{ℕ, ◌≤◌, ◌<◌}
use mathlib.Core.Path.{◌≡◌, refl, sym, ◌∙◌}
use mathlib.Core.List.{List}
use mathlib.Core.Bool.{Bool, true, false, ◌&&◌, not}
use native.Mathlib.Omega.{arith}
use lib.Dec.{eqb}
use Rattle.std.specs.Prelude.{Option, None}
use Rattle.types.specs.declared.Limits.{Limits}
use Rattle.labels.specs.Labels.{Label}
use Rattle.labels.proofs.Numbers.{Eqb, eq_yes, eq_no, eqb_view}
use Rattle.gaps.specs.Windows.{toward}
use Rattle.gaps.specs.Gapped.{Gap, parted, gap_of, gap_in, gaps_in, both_when, fields_fine, alone}
use Rattle.gaps.specs.declared.Gaps.{Gaps}
use Rattle.gaps.proofs.GapLaws.{gap_positive}
use Rattle.gaps.proofs.FieldLaws.{Named, names_below, names_above, named_by, side_below, side_above, side_known}
use Rattle.gaps.proofs.FieldLaws.{broken, right, parted_once}

-- the gap with no neighbour
no_neighbour : (limits : Limits) (table store : List ℕ) (upward : Bool) (x : Label)
    → parted 0 ≡ gap_in limits table store upward 0 x
unfolding gap_of
no_neighbour limits table store false x = refl
no_neighbour limits table store true x = refl

module _ (limits : Limits) (table store : List ℕ) (below above : ℕ) (x : Label) (at : ℕ) where
  -- its gaps with both neighbours
  abbrev low : Gap
  low = gap_in limits table store false below x

  abbrev high : Gap
  high = gap_in limits table store true above x

  -- what is to be found
  abbrev fields : (side : ℕ) → Option Gaps
  fields side = fields_fine at side (gaps_in limits table store below x above)

  -- a place of 0, and a side beyond 1
  pub no_place : (side : ℕ) → at ≡ 0 → None ≡ fields side
  no_place side none = broken at side low high (λ p q e f g h. omega (arith, none, g))

  pub no_side : (side : ℕ) → 1 < side → None ≡ fields side
  no_side side beyond = broken at side low high (λ p q e f g h. side_known p q side beyond h)

  -- a missing neighbour's gap is at place 0
  none_parted : (upward : Bool) (k q : ℕ) → k ≡ 0 → parted q ≡ gap_in limits table store upward k x → q ≡ 0
  none_parted upward k q none e =
      parted_once q 0 (gap_in limits table store upward k x) e (rw none (no_neighbour limits table store upward x))

  -- none above, though the side names it
  alone_above : above ≡ 0 → None ≡ fields 1
  alone_above none =
      broken at 1 low high (λ p q e f g h. omega (arith, none_parted true above q none f, side_above p q h))

  -- none below, though the side names it, and one above
  alone_below : below ≡ 0 → 1 ≤ above → None ≡ fields 0
  alone_below none some =
      broken at 0 low high (λ p q e f g h. omega (
        arith,
        none_parted false below p none e,
        side_below p q h,
        gap_positive limits table store true above x some q f,
      ))

  -- none at all: the root's place is 1
  alone_both : below ≡ 0 → above ≡ 0 → both_when (eqb at 1) 0 0 ≡ fields 0
  alone_both none also = go (eqb_view at 1)
    where
      go : {found : Bool} → Eqb at 1 found → both_when found 0 0 ≡ fields 0
      go (eq_yes first) =
          right at 0 0 0 low high (rw none (no_neighbour limits table store false x))
          (rw also (no_neighbour limits table store true x)) (omega arith) refl
      go (eq_no other) =
          broken at 0 low high (λ p q e f g h. other (omega (
            arith,
            g,
            none_parted false below p none e,
            none_parted true above q also f,
          )))

  -- the side names no neighbour
  pub side_alone : (side : ℕ) (upward : Bool) → side ≤ 1 → upward ≡ eqb side 1 → (near : ℕ) (r : Option Gaps)
      → near ≡ toward upward below above → near ≡ 0 → r ≡ alone at upward above → r ≡ fields side
  side_alone side upward known named near r e none is =
      is ∙ go (named_by side upward known named) (eqb_view above 0) (sym e ∙ none)
    where
      go : {side : ℕ} {u found : Bool} → Named side u → Eqb above 0 found → toward u below above ≡ 0
          → both_when (not u && (found && eqb at 1)) 0 0 ≡ fields side
      go names_above found no_above = alone_above no_above
      go names_below (eq_yes also) no_below = alone_both no_below also
      go names_below (eq_no some) no_below = alone_below no_below (omega arith)
