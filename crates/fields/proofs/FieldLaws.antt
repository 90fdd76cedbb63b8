-- Prefix fields by labels, in the form in which the code finds them.
-- `place_of_compared`: a comparison from place 1 ends at the difference place.
-- `difference_below`, `difference_above`: the difference place with a neighbour that is there.
-- `fields_by_differences`: the fields between two neighbours.
use Prim.Native.Nat.{ℕ, zero, suc, max}
use mathlib.Core.Path.{◌≡◌, refl, sym, ap, ◌∙◌}
use mathlib.Core.Logic.{◌≢◌}
use mathlib.Core.List.{List}
use Rattle.std.specs.declared.cmp.Ordering.{Ordering}
use Rattle.std.specs.declared.cmp.Ordering.TheVariants.{Less, Equal, Greater}
use Rattle.types.specs.declared.Limits.{Limits}
use Rattle.labels.specs.Labels.{Label, compare_labels, compare_from, place_of, difference_place}
use Rattle.labels.specs.Neighbours.{held, difference}
use Rattle.tables.specs.Words.{entry_at}
use Rattle.tables.specs.Prefix.{side_by}
use Rattle.compares.specs.declared.Compared.{Compared}
use Rattle.orders.specs.Orders.{comparison_by}
use Rattle.compares.specs.Compares.{comparison_of}
use Rattle.gaps.specs.Windows.{below_in, above_in}
use Rattle.sides.specs.declared.Fields.{Fields}
use Rattle.fields.specs.Between.{fields_between}

place_of_order : (order : Ordering) (place : ℕ) → place_of (comparison_by order place) ≡ place
place_of_order Less place = refl
place_of_order Equal place = refl
place_of_order Greater place = refl

-- A comparison from place 1 ends at the difference place.
pub place_of_compared : (x y : Label) (r : Compared) → comparison_of r ≡ compare_from 1 x y
    → r.place ≡ difference_place x y
unfolding compare_from compare_labels difference_place
place_of_compared x y r same = sym (place_of_order r.order r.place) ∙ ap place_of same

module _ (limits : Limits) (table store : List ℕ) where
  -- The difference place with a node below.
  pub difference_below : (below : ℕ) (label lower : Label) (place : ℕ) → below ≢ 0
      → lower ≡ (entry_at limits table store below).label → place ≡ difference_place lower label
      → place ≡ difference (below_in limits table store below) (held label)
  difference_below zero label lower place some of_lower of_place = absurd (some refl)
  difference_below (suc slot) label lower place some of_lower of_place =
      of_place ∙ ap (λ x. difference_place x label) of_lower

  -- The difference place with a node above.
  pub difference_above : (above : ℕ) (label upper : Label) (place : ℕ) → above ≢ 0
      → upper ≡ (entry_at limits table store above).label → place ≡ difference_place label upper
      → place ≡ difference (held label) (above_in limits table store above)
  difference_above zero label upper place some of_upper of_place = absurd (some refl)
  difference_above (suc slot) label upper place some of_upper of_place =
      of_place ∙ ap (λ x. difference_place label x) of_upper

  module _ (slot below above : ℕ) where
    -- The fields between two neighbours.
    pub fields_by_differences : (label : Label) (lower upper : ℕ) (fields : Fields)
        → label ≡ (entry_at limits table store slot).label
        → lower ≡ difference (below_in limits table store below) (held label)
        → upper ≡ difference (held label) (above_in limits table store above)
        → fields.place ≡ max lower upper → fields.side ≡ side_by lower upper
        → fields ≡ fields_between limits table store slot below above
    unfolding fields_between
    fields_by_differences label lower upper fields of_label_lem of_lower of_upper place side =
        let under = of_lower ∙ ap (λ x. difference (below_in limits table store below) (held x)) of_label_lem in
        let over = of_upper ∙ ap (λ x. difference (held x) (above_in limits table store above)) of_label_lem in
        let high = difference (held (entry_at limits table store slot).label) (above_in limits table store above) in
        let of_place = place ∙ ap (λ n. max lower n) over ∙ ap (λ n. max n high) under in
        let of_side = side ∙ ap (λ n. side_by lower n) over ∙ ap (λ n. side_by n high) under in
        λ i. record { place = of_place i; side = of_side i }
