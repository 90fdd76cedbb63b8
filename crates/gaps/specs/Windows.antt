-- The window of a node: the slots of its nearest smaller and larger node above, 0 where there is none.
-- What the tests in a window take for granted: each caller has tested it before.
use Rattle.std.specs.Prelude.{List, ◌≡◌, Bool, true, false, cond, ℕ, zero, suc, ◌≤◌, max, length}
use Rattle.std.specs.Ordering.{is_gt, is_lt}
use Rattle.std.specs.declared.cmp.Ordering.{Ordering}
use Rattle.types.specs.declared.Limits.{Limits}
use Rattle.types.specs.Sizes.{store_length}
use Rattle.labels.specs.Labels.{Label, compare_labels}
use Rattle.labels.specs.Neighbours.{Neighbour, none_below, held, none_above, difference}
use Rattle.trees.specs.Valid.{is_smaller}
use Rattle.tables.specs.Words.{row_at, entry_at}
use Rattle.words.specs.Limits.{SizesFit}

-- the neighbours in two slots, missing where the slot is 0
abbrev pub below_in : Limits → (table store : List ℕ) → ℕ → Neighbour
below_in limits table store zero = none_below
below_in limits table store (suc k) = held (entry_at limits table store (suc k)).label

abbrev pub above_in : Limits → (table store : List ℕ) → ℕ → Neighbour
above_in limits table store zero = none_above
above_in limits table store (suc k) = held (entry_at limits table store (suc k)).label

-- whether a neighbour lies before another
abbrev pub is_before : Neighbour → Neighbour → Bool
is_before none_below none_below = false
is_before none_below (held y) = true
is_before none_below none_above = true
is_before (held x) none_below = false
is_before (held x) (held y) = is_smaller (compare_labels x y)
is_before (held x) none_above = true
is_before none_above b = false

-- of two numbers the one for a side: that below, or upward that above
abbrev pub toward : (upward : Bool) → (below above : ℕ) → ℕ
toward upward below above = cond upward above below

-- whether a neighbour's order is that of one below, or upward that of one above
abbrev pub is_toward : (upward : Bool) → Ordering → Bool
is_toward upward order = cond upward (is_gt order) (is_lt order)

-- the neighbour of a label in a slot, below it or upward of it
abbrev pub neighbour_in : Limits → (table store : List ℕ) → (upward : Bool) → ℕ → Neighbour
neighbour_in limits table store false k = below_in limits table store k
neighbour_in limits table store true k = above_in limits table store k

-- slot k has a part of the store, which has so many bytes
pub record PartFits (limits : Limits) (store : List ℕ) (k bytes : ℕ) : Type 0 where
  pub low : 1 ≤ k
  pub high : k ≤ limits.slots
  pub within : bytes ≤ limits.width
  pub whole : length store ≡ store_length limits

-- a slot of a node's window: 0 for none, or one whose label lies in its part of the store
pub record Window (limits : Limits) (table : List ℕ) (k : ℕ) : Type 0 where
  pub within : k ≤ limits.slots
  pub short : 1 ≤ k → (row_at table k).len ≤ limits.width

-- a slot of a node's window, to be read
pub record Beside (limits : Limits) (table store : List ℕ) (k : ℕ) : Type 0 where
  pub sizes : SizesFit limits table store
  pub window : Window limits table k

-- two neighbours agree before this place, from which on they may be compared
pub record MayStart (a b : Neighbour) (from : ℕ) : Type 0 where
  pub low : 1 ≤ from
  pub high : from ≤ max 1 (difference a b)

-- where two places are one, there is a label in the slot, upward of another, and both agree before it
pub record MayTie (limits : Limits) (table store : List ℕ) (k : ℕ) (x : Label) (lower apart : ℕ) : Type 0 where
  pub some : lower ≡ apart → 1 ≤ k
  pub start : lower ≡ apart → MayStart (neighbour_in limits table store true k) (held x) apart

-- the slots of a window, to be read, whose neighbours ascend and part at a place
pub record Between (limits : Limits) (table store : List ℕ) (below above apart : ℕ) : Type 0 where
  pub sizes : SizesFit limits table store
  pub lower : Window limits table below
  pub upper : Window limits table above
  pub order : is_before (below_in limits table store below) (above_in limits table store above) ≡ true
  pub parts : apart ≡ difference (below_in limits table store below) (above_in limits table store above)
