-- The order of two labels by the bytes at one place, or by their ends, and the comparison that it stands for.
use Rattle.std.specs.Prelude.{ℕ, Bool, ◌&&◌, cond, ltb}
use Rattle.std.specs.Ordering.{nat_cmp}
use Rattle.std.specs.declared.cmp.Ordering.{Ordering}
use Rattle.std.specs.declared.cmp.Ordering.TheVariants.{Less, Equal, Greater}
use Rattle.labels.specs.Labels.{is_capital, number_of, Comparison, smaller, same, larger}

-- the comparison that an order and a place stand for
abbrev pub comparison_by : Ordering → ℕ → Comparison
comparison_by Less i = smaller i
comparison_by Equal i = same i
comparison_by Greater i = larger i

-- the order of labels by the bytes at a place: that of the numbers that stand for them
unfoldable pub by_numbers : (a b : ℕ) → Ordering
by_numbers a b = nat_cmp (number_of a) (number_of b)

-- a capital letter, and a larger byte above "Z": their numbers may lie otherwise than the bytes
unfoldable pub parts : (lower upper : ℕ) → Bool
parts lower upper = is_capital lower && ltb 90 upper

-- the order by two different bytes as far as they show it: the same where their numbers may lie otherwise
unfoldable pub shown : (a b : ℕ) → Ordering
shown a b = cond (ltb a b) (cond (parts a b) Equal Less) (cond (parts b a) Equal Greater)

-- the order of labels of lengths m and n that agree up to the index i, at which one of them ends
unfoldable pub at_end : (m n i : ℕ) → Ordering
at_end m n i = cond (ltb i m) Greater (cond (ltb i n) Less Equal)
