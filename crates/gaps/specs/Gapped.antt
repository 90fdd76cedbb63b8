-- How labels lie in a window: whether they ascend, their difference places, and a node's place and side by them.
use Rattle.std.specs.Prelude.{List, Bool, true, false, ◌&&◌, ◌||◌, not, cond, ℕ, eqb, ltb, Option, Some, None}
use Rattle.types.specs.declared.Limits.{Limits}
use Rattle.labels.specs.Labels.{Label}
use Rattle.labels.specs.Neighbours.{Neighbour, held, difference}
use Rattle.tables.specs.Prefix.{place_by, side_by}
use Rattle.gaps.specs.Windows.{is_before, neighbour_in}
use Rattle.gaps.specs.declared.Gaps.{Gaps}

-- how two neighbours lie that are to ascend: wrongly, or at their difference place, 0 where one of them is missing
pub data Gap : Type 0 where
  wrong : Gap
  parted : ℕ → Gap

-- whether they ascend and part at place i
abbrev pub parts_at : ℕ → Gap → Bool
parts_at i wrong = false
parts_at i (parted j) = eqb i j

-- two neighbours that ascend, and their difference place
unfoldable pub gap_of : Neighbour → Neighbour → Gap
gap_of a b = cond (is_before a b) (parted (difference a b)) wrong

-- a neighbour and a second one, which is to lie below it, or upward of it
abbrev pub gap_toward : (upward : Bool) → Neighbour → Neighbour → Gap
gap_toward false a b = gap_of b a
gap_toward true a b = gap_of a b

-- a label and that neighbour
abbrev pub gap_in : Limits → (table store : List ℕ) → (upward : Bool) → ℕ → Label → Gap
gap_in limits table store upward k x = gap_toward upward (held x) (neighbour_in limits table store upward k)

-- two difference places
abbrev pub both : (p q : ℕ) → Option Gaps
both p q = Some (record { lower = p; upper = q })

-- the difference places of a label with both its neighbours, where all ascend
abbrev pub gaps_of : Gap → Gap → Option Gaps
gaps_of wrong above = None
gaps_of (parted p) wrong = None
gaps_of (parted p) (parted q) = both p q

abbrev pub gaps_in : Limits → (table store : List ℕ) → (below : ℕ) → Label → (above : ℕ) → Option Gaps
gaps_in limits table store below x above =
    gaps_of (gap_in limits table store false below x) (gap_in limits table store true above x)

-- two difference places, where a test passes
abbrev pub both_when : Bool → (p q : ℕ) → Option Gaps
both_when true p q = both p q
both_when false p q = None

-- the place and side of a node, of the difference places with its neighbours
unfoldable pub fields_fit : (place side below above : ℕ) → Bool
fields_fit place side below above = eqb place (place_by below above) && eqb side (side_by below above)

-- the difference places of a node whose place and side are by them
unfoldable pub fields_fine : (place side : ℕ) → Option Gaps → Option Gaps
fields_fine place side None = None
fields_fine place side (Some g) = both_when (fields_fit place side g.lower g.upper) g.lower g.upper

-- where the side names no neighbour: there is none on the other side, and the place is the root's
abbrev pub alone : (place : ℕ) → (upward : Bool) → (above : ℕ) → Option Gaps
alone place upward above = both_when (not upward && (eqb above 0 && eqb place 1)) 0 0

-- by the difference place with the neighbour above, in a window that parts at a place
abbrev pub by_upper : (upper apart : ℕ) → Option Gaps
by_upper upper apart = both_when (ltb apart upper) apart upper

-- by that with the neighbour below, and by how the neighbour above lies where both are the window's
abbrev pub by_lower : (lower apart : ℕ) → (far : Gap) → Option Gaps
by_lower lower apart far = both_when (ltb apart lower || (eqb lower apart && parts_at apart far)) lower apart
