-- What a comparison in code says, in the terms of the definition; where it may start, and where it ends.
use Rattle.std.specs.Prelude.{ℕ, suc, ◌+◌, ◌≤◌, min, ◌≡◌, cond, eqb, length, drop}
use Rattle.std.specs.declared.cmp.Ordering.{Ordering}
use Rattle.std.specs.declared.cmp.Ordering.TheVariants.{Less, Equal, Greater}
use Rattle.labels.specs.Labels.{Label, Comparison, smaller, same, larger, compare_at}
use Rattle.orders.specs.Orders.{comparison_by}
use Rattle.compares.specs.declared.Compared.{Compared}

-- the comparison that an answer stands for
abbrev pub comparison_of : Compared → Comparison
comparison_of r = comparison_by r.order r.place

-- what is left to compare at index i
unfoldable pub rest : Label → Label → ℕ → Comparison
rest x y i = compare_at (suc i) (drop i x) (drop i y)

-- the order of two labels by place d: the same where their comparison ends at another
abbrev pub order_at : ℕ → Comparison → Ordering
order_at d (smaller i) = cond (eqb d i) Less Equal
order_at d (same i) = Equal
order_at d (larger i) = cond (eqb d i) Greater Equal

-- both labels have the n places from index i
pub record HavePlaces (n : ℕ) (x y : Label) (i : ℕ) : Type 0 where
  pub first : i + n ≤ length x
  pub second : i + n ≤ length y

-- the shorter label ends at `end`, at index i or after it
pub record EndsAt (x y : Label) (i end : ℕ) : Type 0 where
  pub short : end ≡ min (length x) (length y)
  pub within : i ≤ end

-- an index after `from`, or itself, and not after `end`
pub record StaysWithin (from end i : ℕ) : Type 0 where
  pub low : from ≤ i
  pub high : i ≤ end

-- a comparison with the label y may start at place d: y has that place, or ends there
pub record StartsWithin (d : ℕ) (y : Label) : Type 0 where
  pub low : 1 ≤ d
  pub high : d ≤ length y + 1

-- a comparison with the label y that starts at place d ends at this place: not before d, and not after the end of y
pub record EndsWithin (d : ℕ) (y : Label) (place : ℕ) : Type 0 where
  pub low : d ≤ place
  pub high : place ≤ length y + 1
