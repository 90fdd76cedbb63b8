-- A row stored with one word changed is one store.
-- `put_left`, `put_right`, `put_place`: so it is of a link and of the place.
use mathlib.Core.List.{List}
use mathlib.Core.Logic.{◌≢◌}
use mathlib.Core.Path.{◌≡◌}
use Prim.Native.Nat.{ℕ, ◌+◌}
use native.Mathlib.Omega.{arith}
use lib.ListN.{get_or, set}
use lib.Seq.{set-get_or, get_or-set_other}
use Rattle.types.specs.declared.Row.{Row}
use Rattle.tables.specs.Words.{slot_start, row_at}
use Rattle.words.specs.Rows.{put_row}

-- What stands at another place is stored there for nothing.
stays : (t : List ℕ) (i j v : ℕ) → j ≢ i → set (set t i v) j (get_or t j 0) ≡ set t i v
stays t i j v apart = rw (← (get_or-set_other t i j v 0 apart)) (set-get_or (set t i v) j 0)

module _ (t : List ℕ) (k v : ℕ) where
  abbrev b : ℕ
  b = slot_start k

  abbrev row : Row
  row = row_at t k

  -- One other left link.
  pub put_left : put_row t k (record {
    left = v;
    right = row.right;
    place = row.place;
    side = row.side;
    balance = row.balance;
    len = row.len;
    value = row.value;
    charge = row.charge;
  }) ≡ set t b v
  unfolding put_row row_at
  put_left =
      rw (
        stays t b (b + 1) v (λ e. omega arith),
        stays t b (b + 2) v (λ e. omega arith),
        stays t b (b + 3) v (λ e. omega arith),
        stays t b (b + 4) v (λ e. omega arith),
        stays t b (b + 5) v (λ e. omega arith),
        stays t b (b + 6) v (λ e. omega arith),
        stays t b (b + 7) v (λ e. omega arith),
      )

  -- One other right link.
  pub put_right : put_row t k (record {
    left = row.left;
    right = v;
    place = row.place;
    side = row.side;
    balance = row.balance;
    len = row.len;
    value = row.value;
    charge = row.charge;
  }) ≡ set t (b + 1) v
  unfolding put_row row_at
  put_right =
      rw (
        set-get_or t b 0,
        stays t (b + 1) (b + 2) v (λ e. omega arith),
        stays t (b + 1) (b + 3) v (λ e. omega arith),
        stays t (b + 1) (b + 4) v (λ e. omega arith),
        stays t (b + 1) (b + 5) v (λ e. omega arith),
        stays t (b + 1) (b + 6) v (λ e. omega arith),
        stays t (b + 1) (b + 7) v (λ e. omega arith),
      )

  -- One other place.
  pub put_place : put_row t k (record {
    left = row.left;
    right = row.right;
    place = v;
    side = row.side;
    balance = row.balance;
    len = row.len;
    value = row.value;
    charge = row.charge;
  }) ≡ set t (b + 2) v
  unfolding put_row row_at
  put_place =
      rw (
        set-get_or t b 0,
        set-get_or t (b + 1) 0,
        stays t (b + 2) (b + 3) v (λ e. omega arith),
        stays t (b + 2) (b + 4) v (λ e. omega arith),
        stays t (b + 2) (b + 5) v (λ e. omega arith),
        stays t (b + 2) (b + 6) v (λ e. omega arith),
        stays t (b + 2) (b + 7) v (λ e. omega arith),
      )
