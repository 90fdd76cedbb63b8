-- The store of a charge.
use mathlib.Core.List.{List}
use mathlib.Core.Path.{◌≡◌}
use Prim.Native.Nat.{ℕ, ◌+◌}
use lib.ListN.{set}
use Rattle.tables.specs.Words.{slot_start, put_charge}

-- One store is that of a slot's word 7.
pub charge_stored : (table after : List ℕ) (k at n : ℕ) → at ≡ slot_start k + 7 → after ≡ set table at n
    → after ≡ put_charge table k n
unfolding put_charge
charge_stored table after k at n is stored = rw is at stored
