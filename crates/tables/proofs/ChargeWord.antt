-- Word 7 of a slot, stored.
-- recharged: a row with another charge. length_put_charge: the table is as long as before.
-- header_past_charge: the first four words stay.
-- row_put_charge, row_past_charge: the slot's row has the charge, and those of the other slots stay.
use mathlib.Core.List.{List}
use mathlib.Core.Logic.{◌≢◌}
use mathlib.Core.Path.{◌≡◌}
use Prim.Native.Nat.{ℕ, ◌+◌, ◌*◌, ◌≤◌, ◌<◌}
use native.Mathlib.Omega.{arith}
use lib.ListN.{length, get_or, set, length-set}
use lib.Seq.{get_or-set_same, get_or-set_other}
use Rattle.types.specs.declared.Row.{Row}
use Rattle.tables.specs.Words.{slot_start, row_at, put_charge}

-- The table is as long as before.
pub length_put_charge : (table : List ℕ) (k n : ℕ) → length (put_charge table k n) ≡ length table
unfolding put_charge
length_put_charge table k n = length-set table (slot_start k + 7) n

-- The first four words stay.
pub header_past_charge : (table : List ℕ) (k n i : ℕ) → i < 4 → get_or (put_charge table k n) i 0 ≡ get_or table i 0
unfolding put_charge
header_past_charge table k n i small = get_or-set_other table (slot_start k + 7) i n 0 (omega arith)

-- a row with another charge
abbrev pub recharged : ℕ → Row → Row
recharged n row =
    record {
      left = row.left;
      right = row.right;
      place = row.place;
      side = row.side;
      balance = row.balance;
      len = row.len;
      value = row.value;
      charge = n;
    }

-- The slot's row has the charge,
pub row_put_charge : (table : List ℕ) (k n : ℕ) → 1 ≤ k → 8 * k + 4 ≤ length table
    → row_at (put_charge table k n) k ≡ recharged n (row_at table k)
unfolding row_at put_charge
row_put_charge table k n low high =
    λ i. record {
      left = first i;
      right = at 1 (omega arith) i;
      place = at 2 (omega arith) i;
      side = at 3 (omega arith) i;
      balance = at 4 (omega arith) i;
      len = at 5 (omega arith) i;
      value = at 6 (omega arith) i;
      charge = get_or-set_same table (slot_start k + 7) n 0 (omega arith) i;
    }
  where
    first : get_or (set table (slot_start k + 7) n) (slot_start k) 0 ≡ get_or table (slot_start k) 0
    first = get_or-set_other table (slot_start k + 7) (slot_start k) n 0 (omega arith)

    at : (j : ℕ) → j < 7 → get_or (set table (slot_start k + 7) n) (slot_start k + j) 0 ≡ get_or table (slot_start k + j) 0
    at j less = get_or-set_other table (slot_start k + 7) (slot_start k + j) n 0 (omega arith)

-- and those of the other slots stay.
pub row_past_charge : (table : List ℕ) (k j n : ℕ) → 1 ≤ k → 1 ≤ j → j ≢ k
    → row_at (put_charge table k n) j ≡ row_at table j
unfolding row_at put_charge
row_past_charge table k j n low low_j apart =
    λ i. record {
      left = first i;
      right = at 1 (omega arith) i;
      place = at 2 (omega arith) i;
      side = at 3 (omega arith) i;
      balance = at 4 (omega arith) i;
      len = at 5 (omega arith) i;
      value = at 6 (omega arith) i;
      charge = at 7 (omega arith) i;
    }
  where
    first : get_or (set table (slot_start k + 7) n) (slot_start j) 0 ≡ get_or table (slot_start j) 0
    first = get_or-set_other table (slot_start k + 7) (slot_start j) n 0 (omega arith)

    at : (m : ℕ) → m < 8 → get_or (set table (slot_start k + 7) n) (slot_start j + m) 0 ≡ get_or table (slot_start j + m) 0
    at m less = get_or-set_other table (slot_start k + 7) (slot_start j + m) n 0 (omega arith)
