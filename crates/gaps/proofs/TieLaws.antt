-- The difference place with the neighbour below, where it is the window's.
-- `tie_broken`, `tie_both`: the order of the neighbour above at that place decides.
use Prim.Native.Nat.{ℕ, ◌≤◌}
use mathlib.Core.Path.{◌≡◌, sym, ◌∙◌}
use mathlib.Core.List.{List}
use mathlib.Core.Bool.{Bool, true, false}
use native.Mathlib.Omega.{arith}
use borrow.Author.Tests.{le-ltb, eq-eqb}
use Rattle.std.specs.Prelude.{None}
use Rattle.types.specs.declared.Limits.{Limits}
use Rattle.labels.specs.Labels.{Label, compare_from}
use Rattle.tables.specs.Words.{entry_at}
use Rattle.std.specs.declared.cmp.Ordering.{Ordering}
use Rattle.compares.specs.Compares.{order_at}
use Rattle.gaps.specs.Windows.{is_toward, MayTie}
use Rattle.gaps.specs.Gapped.{parts_at, gap_in, by_lower, both}
use Rattle.gaps.proofs.GapLaws.{parts_late}

module _ (lower apart : ℕ) (limits : Limits) (table store : List ℕ) (above : ℕ) (x : Label)
    (may : MayTie limits table store above x lower apart) (tie : lower ≡ apart) (y : Label) (o : Ordering) (t : Bool)
    (read : y ≡ (entry_at limits table store above).label) (order : o ≡ order_at apart (compare_from apart y x))
    (test : t ≡ is_toward true o) where
  tested : t ≡ parts_at apart (gap_in limits table store true above x)
  tested = parts_late limits table store true above x (may.some tie) y read apart t o test (may.start tie) order

  pub tie_broken : t ≡ false → None ≡ by_lower lower apart (gap_in limits table store true above x)
  tie_broken is = let most : lower ≤ apart = omega arith in rw (le-ltb apart lower most, eq-eqb lower apart tie, sym tested ∙ is)

  pub tie_both : t ≡ true → both lower apart ≡ by_lower lower apart (gap_in limits table store true above x)
  tie_both is = let most : lower ≤ apart = omega arith in rw (le-ltb apart lower most, eq-eqb lower apart tie, sym tested ∙ is)
