-- Lists of labels that ascend from one neighbour to another.
-- before_of_smaller, smaller_of_before: the test of two labels is the order.
-- linked_window: the ends of a linked list are in order.
-- linked_append, linked_split: a linked list around a label is two linked lists that meet there.
-- linked_lower, linked_on, linked_past: a linked list may start lower and end higher.
-- linked_of_ascends, ascends_of_linked: a list that ascends is linked from no label below to no label above.
use mathlib.Core.List.{List, [], ◌∷◌, ◌++◌}
use mathlib.Core.Path.{◌≡◌, refl}
use mathlib.Core.Bool.{true, false}
use Rattle.labels.specs.Labels.{Label, Comparison, compare_labels, Finds, is_smaller_lem, is_same, is_larger}
use Rattle.labels.specs.Neighbours.{Neighbour, none_below, held, none_above}
use Rattle.labels.proofs.Order.{below_of_smaller, none_below_held, held_none_above, none_below_none_above}
use Rattle.labels.proofs.Alike.{below_alike}
use Rattle.labels.proofs.Compare.{compares_by_places}
use Rattle.labels.proofs.Results.{compare_smaller}
use Rattle.labels.proofs.Difference.{Before, below_is_before, before_trans}
use Rattle.labels.proofs.Clashes.{clash}
use Rattle.trees.specs.Valid.{is_smaller, below_first, ascends}
use Rattle.trees.proofs.Views.{both_true}

-- A label that tests smaller is before.
pub before_of_smaller : (x y : Label) → is_smaller (compare_labels x y) ≡ true → Before (held x) (held y)
before_of_smaller x y = go (compares_by_places x y)
  where
    go : {c : Comparison} → Finds x y c → is_smaller c ≡ true → Before (held x) (held y)
    go (is_smaller_lem there) passed = below_is_before (below_of_smaller there)
    go (is_same alike end) passed = clash cc
    go (is_larger there) passed = clash cc

-- A label that is before tests smaller.
pub smaller_of_before : {x y : Label} → Before (held x) (held y) → is_smaller (compare_labels x y) ≡ true
smaller_of_before before = rw (compare_smaller before)

-- the labels ascend, each is above p and below s
pub data Linked : Neighbour → List Label → Neighbour → Type 0 where
  linked_end : {p s : Neighbour} → Before p s → Linked p [] s
  linked_step : {p s : Neighbour} {x : Label} {more : List Label}
      → Before p (held x) → Linked (held x) more s → Linked p (x ∷ more) s

-- The ends of a linked list are in order.
pub linked_window : {p s : Neighbour} {list : List Label} → Linked p list s → Before p s
linked_window (linked_end before) = before
linked_window (linked_step before rest) = before_trans before (linked_window rest)

-- Two linked lists that meet at a label are one.
pub linked_append : {p s : Neighbour} {first last : List Label} {x : Label}
    → Linked p first (held x) → Linked (held x) last s → Linked p (first ++ (x ∷ last)) s
linked_append (linked_end before) after = linked_step before after
linked_append (linked_step before rest) after = linked_step before (linked_append rest after)

-- A linked list around a label is linked up to it and from it on.
pub linked_split : {p s : Neighbour} (first : List Label) {last : List Label} {x : Label}
    → Linked p (first ++ (x ∷ last)) s → Linked p first (held x) × Linked (held x) last s
linked_split [] (linked_step before rest) = (linked_end before, rest)
linked_split {p = p} (y ∷ first) (linked_step before rest) =
    (linked_step before (linked_split {p = held y} first rest).0, (linked_split {p = held y} first rest).1)

-- A list that ascends from a label is linked from it to no label above.
linked_from : (x : Label) (list : List Label) → ascends (x ∷ list) ≡ true → Linked (held x) list none_above
linked_from x [] ascending = linked_end (below_is_before (held_none_above x))
linked_from x (y ∷ list) ascending =
    let parts = (both_true (below_first x (y ∷ list)) (ascends (y ∷ list))).0 ascending in
    linked_step (before_of_smaller x y parts.0) (linked_from y list parts.1)

-- A list that ascends is linked from no label below to no label above.
pub linked_of_ascends : (list : List Label) → ascends list ≡ true → Linked none_below list none_above
linked_of_ascends [] ascending = linked_end (below_is_before none_below_none_above)
linked_of_ascends (x ∷ list) ascending =
    linked_step (below_is_before (none_below_held x)) (linked_from x list ascending)

first_of_linked : {x : Label} {s : Neighbour} {list : List Label} → Linked (held x) list s → below_first x list ≡ true
first_of_linked (linked_end before) = refl
first_of_linked (linked_step before rest) = smaller_of_before before

-- A linked list ascends.
pub ascends_of_linked : {p s : Neighbour} {list : List Label} → Linked p list s → ascends list ≡ true
ascends_of_linked (linked_end before) = refl
ascends_of_linked (linked_step before rest) = rw (first_of_linked rest) (ascends_of_linked rest)

-- A linked list may start lower.
pub linked_lower : {p q s : Neighbour} {list : List Label} → Before p q → Linked q list s → Linked p list s
linked_lower lower (linked_end before) = linked_end (before_trans lower before)
linked_lower lower (linked_step before rest) = linked_step (before_trans lower before) rest

-- A linked list goes on to whatever its end is before.
pub linked_on : {p s s' : Neighbour} {list : List Label} → ((q : Neighbour) → Before q s → Before q s')
    → Linked p list s → Linked p list s'
linked_on onward (linked_end before) = linked_end (onward _ before)
linked_on onward (linked_step before rest) = linked_step before (linked_on onward rest)

-- A list that is linked up to a label is linked up to each label that compares larger or the same.
pub linked_past : {p : Neighbour} {list : List Label} {x y : Label} → is_smaller (compare_labels x y) ≡ false
    → Linked p list (held y) → Linked p list (held x)
linked_past {x = x} {y = y} = go (compares_by_places x y)
  where
    go : {p : Neighbour} {list : List Label} {c : Comparison} → Finds x y c → is_smaller c ≡ false
        → Linked p list (held y) → Linked p list (held x)
    go (is_smaller_lem there) past linked = clash cc
    go (is_same alike end) past linked = linked_on (λ q before. below_is_before (below_alike before alike)) linked
    go (is_larger there) past linked =
        linked_on (λ q before. before_trans before (below_is_before (below_of_smaller there))) linked
