-- The place and side of a label in a window, by the neighbour that the side names.
-- `not_there`: the label does not part from it at the place.
-- `with_upper`, `with_lower`: it does, and it is the one above, or below.
-- `may_tie`: where it is the one below, the one above may be compared where the window parts.
use Prim.Native.Nat.{ℕ, zero, suc, ◌≤◌, max}
use mathlib.Core.Path.{◌≡◌, refl, sym, ◌∙◌}
use mathlib.Core.List.{List}
use mathlib.Core.Bool.{Bool, true, false, ◌&&◌, ◌||◌}
use native.Mathlib.Omega.{arith}
use lib.Dec.{eqb}
use borrow.Author.Tests.{lt-leb, le-leb, eqb-true, eqb-false}
use Rattle.std.specs.Prelude.{Option, None}
use Rattle.types.specs.declared.Limits.{Limits}
use Rattle.labels.specs.Labels.{Label}
use Rattle.labels.specs.Neighbours.{Neighbour, none_below, held, none_above, difference}
use Rattle.labels.proofs.Order.{Below}
use Rattle.labels.proofs.Numbers.{Ltb, lt_yes, lt_no, ltb_view, Eqb, eq_yes, eq_no, eqb_view}
use Rattle.gaps.specs.Windows.{toward, below_in, above_in, MayStart, MayTie, Between}
use Rattle.gaps.specs.Gapped.{Gap, parted, parts_at, gap_in, gaps_in, both_when, fields_fine, by_upper, by_lower, both}
use Rattle.gaps.specs.declared.Gaps.{Gaps}
use Rattle.gaps.proofs.OrderTests.{before_of_test}
use Rattle.gaps.proofs.GapLaws.{gap_positive}
use Rattle.gaps.proofs.SideLaws.{gap_ascends, late_right, open_starts, outer_place}
use Rattle.gaps.proofs.FieldLaws.{Named, names_below, names_above, named_by, side_below, side_above}
use Rattle.gaps.proofs.FieldLaws.{broken, right, parts_there, parts_elsewhere, parted_once}

-- a window that parts at a place has a neighbour above
parts_some : (limits : Limits) (table store : List ℕ) (a : Neighbour) (k : ℕ)
    → 1 ≤ difference a (above_in limits table store k) → 1 ≤ k
parts_some limits table store none_below zero some = some
parts_some limits table store (held y) zero some = some
parts_some limits table store none_above zero some = some
parts_some limits table store a (suc k) some = omega arith

module _ (limits : Limits) (table store : List ℕ) (below above : ℕ) where
  -- both neighbours
  abbrev smaller : Neighbour
  smaller = below_in limits table store below

  abbrev larger : Neighbour
  larger = above_in limits table store above

  module _ (apart : ℕ) (fits : Between limits table store below above apart) where
    -- they ascend, and part at the window's place
    window : Below smaller larger apart
    window = rw fits.parts (before_of_test smaller larger fits.order)

  module _ (x : Label) (at : ℕ) where
    -- the gaps of a label with them
    abbrev low : Gap
    low = gap_in limits table store false below x

    abbrev high : Gap
    high = gap_in limits table store true above x

    -- what is to be found
    abbrev fields : (side : ℕ) → Option Gaps
    fields side = fields_fine at side (gaps_in limits table store below x above)

    -- ---- the label does not part from the named neighbour at the place, or lies wrongly

    not_upper : (t : Bool) → 1 ≤ above → t ≡ parts_at at high → t ≡ false → None ≡ fields 1
    not_upper t some test is =
        broken at 1 low high (λ p q e f g h. parts_elsewhere at q high t test is f (omega (
          arith,
          g,
          side_above p q h,
          gap_positive limits table store true above x some q f,
        )))

    not_lower : (t : Bool) → 1 ≤ below → t ≡ parts_at at low → t ≡ false → None ≡ fields 0
    not_lower t some test is =
        broken at 0 low high (λ p q e f g h. parts_elsewhere at p low t test is e (omega (
          arith,
          g,
          side_below p q h,
          gap_positive limits table store false below x some p e,
        )))

    pub not_there : (side : ℕ) (upward : Bool) → side ≤ 1 → upward ≡ eqb side 1 → (near : ℕ) (t : Bool)
        → near ≡ toward upward below above → (near ≡ 0 → ⊥)
        → t ≡ parts_at at (gap_in limits table store upward near x) → t ≡ false → None ≡ fields side
    not_there side upward known named near t e some test is =
        go (named_by side upward known named) (λ none. some (e ∙ none)) (rw e at test)
      where
        go : {side : ℕ} {u : Bool} → Named side u → (toward u below above ≡ 0 → ⊥)
            → t ≡ parts_at at (gap_in limits table store u (toward u below above) x) → None ≡ fields side
        go names_above some test = not_upper t (omega arith) test is
        go names_below some test = not_lower t (omega arith) test is

    -- ---- it parts from the named neighbour there

    module _ (apart : ℕ) (fits : Between limits table store below above apart) where
      by_upper_lem : parted at ≡ high → by_upper at apart ≡ fields 1
      by_upper_lem near = go (ltb_view apart at)
        where
          go : {late : Bool} → Ltb apart at late → both_when late apart at ≡ fields 1
          go (lt_yes late) =
              right at 1 apart at low high
              (late_right true smaller larger x apart at (window apart fits) (gap_ascends true (held x) larger at near)
              late) near (omega arith) (rw (lt-leb at apart late))
          go (lt_no early) =
              broken at 1 low high (λ p q e f g h. omega (
                arith,
                side_above p q h,
                parted_once at q high near f,
                outer_place smaller larger x apart p q (window apart fits) e f,
              ))

      by_lower_lem : (at ≡ 0 → ⊥) → parted at ≡ low → by_lower at apart high ≡ fields 0
      by_lower_lem some near = go (ltb_view apart at) (eqb_view at apart) (parts_at apart high) refl
        where
          fine : apart ≤ at → parted apart ≡ high → both at apart ≡ fields 0
          fine most far = right at 0 at apart low high near far (omega arith) (rw (le-leb apart at most))

          go : {late tie : Bool} → Ltb apart at late → Eqb at apart tie → (there : Bool) → parts_at apart high ≡ there
              → both_when (late || (tie && there)) at apart ≡ fields 0
          go (lt_yes late) tie there k =
              fine (omega arith) (late_right false larger smaller x apart at (window apart fits)
              (gap_ascends false (held x) smaller at near) late)
          go (lt_no early) (eq_yes tie) true k = fine (omega arith) (parts_there apart high true (sym k) refl)
          go (lt_no early) (eq_yes tie) false k =
              broken at 0 low high (λ p q e f g h. parts_elsewhere apart q high false (sym k) refl f (omega (
                arith,
                outer_place smaller larger x apart p q (window apart fits) e f,
                side_below p q h,
              )))
          go (lt_no early) (eq_no other) there k =
              broken at 0 low high (λ p q e f g h. omega (
                arith,
                outer_place smaller larger x apart p q (window apart fits) e f,
                parted_once at p low near e,
              ))

      -- from the tests that led there
      module _ (upward : Bool) (near : ℕ) (t : Bool) (e : near ≡ toward upward below above)
          (test : t ≡ parts_at at (gap_in limits table store upward near x)) (is : t ≡ true) where
        pub with_upper : (side : ℕ) (r : Option Gaps) → side ≤ 1 → upward ≡ eqb side 1 → upward ≡ true → r ≡ by_upper at apart
            → r ≡ fields side
        with_upper side r known named up found =
            let one = eqb-true side 1 (sym named ∙ up) in
            rw one (found ∙ by_upper_lem (parts_there at high t (rw (e, up) at test) is))

        near_low : upward ≡ false → parted at ≡ low
        near_low down = parts_there at low t (rw (e, down) at test) is

        pub with_lower : (side : ℕ) (r : Option Gaps) → side ≤ 1 → upward ≡ eqb side 1 → upward ≡ false → (at ≡ 0 → ⊥)
            → r ≡ by_lower at apart high → r ≡ fields side
        with_lower side r known named down some found =
            let other = eqb-false side 1 (sym named ∙ down) in
            let zero : side ≡ 0 = omega arith in
            rw zero (found ∙ by_lower_lem some (near_low down))

        -- the neighbour above may be compared where the window parts
        pub may_tie : upward ≡ false → (at ≡ 0 → ⊥) → MayTie limits table store above x at apart
        may_tie down some = record { some = lies_above; start = starts }
          where
            lies_above : at ≡ apart → 1 ≤ above
            lies_above tie = parts_some limits table store smaller above (omega (arith, fits.parts, tie))

            starts : at ≡ apart → MayStart larger (held x) apart
            starts tie =
                let whole : max 1 apart ≡ apart = omega arith in
                rw whole at
                (open_starts false larger smaller x apart (window apart fits)
                (gap_ascends false (held x) smaller apart (rw tie at (near_low down))))
