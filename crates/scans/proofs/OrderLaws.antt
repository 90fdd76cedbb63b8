-- The order of two labels of a file.
-- `above_by_order`: whether one label is above another, by their comparison from the first place on.
use mathlib.Core.Bool.{Bool, true, false}
use mathlib.Core.Path.{◌≡◌, refl, sym, ap, ◌∙◌}
use Rattle.std.specs.declared.cmp.Ordering.{Ordering}
use Rattle.std.specs.declared.cmp.Ordering.TheVariants.{Less, Equal, Greater}
use Rattle.labels.specs.Labels.{Label, compare_labels, compare_from}
use Rattle.trees.specs.Valid.{is_smaller}
use Rattle.orders.specs.Orders.{comparison_by}
use Rattle.compares.specs.declared.Compared.{Compared}
use Rattle.compares.specs.Compares.{comparison_of}

-- Labels compared from the first place on are compared whole.
whole_from_first : (x y : Label) → compare_from 1 x y ≡ compare_labels x y
unfolding compare_from compare_labels
whole_from_first x y = refl

-- Whether one label is above another: where their comparison gives that the other is smaller, and not else.
pub above_by_order : (x y : Label) (c : Compared) → comparison_of c ≡ compare_from 1 x y → (above : Bool)
    → (c.order ≡ Less → above ≡ true) → (c.order ≡ Equal → above ≡ false) → (c.order ≡ Greater → above ≡ false)
    → above ≡ is_smaller (compare_labels x y)
above_by_order x y c says above less same more = go c.order refl
  where
    by : (o : Ordering) → c.order ≡ o → is_smaller (comparison_by o c.place) ≡ is_smaller (compare_labels x y)
    by o is =
        ap (λ (o : Ordering). is_smaller (comparison_by o c.place)) (sym is)
        ∙ ap is_smaller (says ∙ whole_from_first x y)

    go : (o : Ordering) → c.order ≡ o → above ≡ is_smaller (compare_labels x y)
    go Less is = less is ∙ by Less is
    go Equal is = same is ∙ by Equal is
    go Greater is = more is ∙ by Greater is
