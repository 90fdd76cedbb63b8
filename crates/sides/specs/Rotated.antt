-- The rows that a rotation stores, by the rows that it reads. In every row the near son is on the left; c is the
-- subtree's root.
use Rattle.std.specs.Prelude.{Bool, true, false, not, cond, ℕ, eqb}
use Rattle.types.specs.declared.Row.{Row}
use Rattle.sides.specs.declared.Balances.{Balances}
use Rattle.sides.specs.Rows.{mirrored, linked_row, raised, lowered}
use Rattle.sides.specs.Doubles.{balances, double_turn}

-- the rows that one rotation stores: c's below its near son, and that son's above c
abbrev pub low_once : Bool → (parent son : Row) → Row
low_once flip parent son =
    linked_row (lowered flip parent son) son.right parent.right (cond (eqb son.balance 1) 0 1)

abbrev pub high_once : Bool → ℕ → (parent son : Row) → Row
high_once flip c parent son = linked_row (raised flip parent son) son.left c (cond (eqb son.balance 1) 2 1)

-- a balance, and those of three nodes, seen from a side: from the right one the upper node comes first
abbrev pub balance_on : Bool → ℕ → ℕ
balance_on false balance = balance
balance_on true balance = mirrored balance

abbrev pub balances_on : Bool → Balances → Balances
balances_on false now = now
balances_on true now = balances (mirrored now.upper) (mirrored now.middle) (mirrored now.lower)

-- the balances after a double rotation seen from a side, by the middle node's old one seen from there
unfoldable pub double_turn_on : Bool → ℕ → Balances
double_turn_on flip middle = balances_on flip (double_turn (balance_on flip middle))

-- the rows that a double rotation stores: the near son's, c's, and that of the node that rises over both; seen from the
-- near side they are the lower, the upper and the middle node
abbrev pub outer_twice : Bool → (son middle : Row) → Row
outer_twice flip son middle =
    linked_row (lowered (not flip) son middle) son.left middle.left (double_turn_on flip middle.balance).lower

abbrev pub inner_twice : Bool → (parent son middle : Row) → Row
inner_twice flip parent son middle =
    linked_row (lowered flip parent (raised (not flip) son middle)) middle.right parent.right
    (double_turn_on flip middle.balance).upper

abbrev pub top_twice : Bool → ℕ → (parent son middle : Row) → Row
top_twice flip c parent son middle =
    linked_row (raised flip parent (raised (not flip) son middle)) parent.left c
    (double_turn_on flip middle.balance).middle
