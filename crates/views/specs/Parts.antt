-- The part that the label view returns: what it holds and where in the store it begins.
use Rattle.std.specs.Prelude.{List, ◌≡◌, ℕ, ◌+◌}
use Rattle.std.specs.Borrow.{Bor}
use Rattle.types.specs.declared.Limits.{Limits}
use Rattle.tables.specs.Words.{part_start}
use Rattle.tables.specs.Outcomes.{Verdict, pass, refuse, view_verdict, view_part}

abbrev pub start_by : Verdict → ℕ → ℕ
start_by pass start = start
start_by (refuse number) start = 0

-- "the part of the lent store that holds the slot's label, not a copy of it";
-- where the first call refuses, "the empty part at the store's start"
unfoldable pub view_start : Limits → (table store : List ℕ) → ℕ → ℕ
view_start limits table store k = start_by (view_verdict limits table store k) (part_start limits k)

-- the part r of the lent store: its bytes, its memory block, and its first byte there
pub record Views (limits : Limits) (table : List ℕ) (store : Bor (List ℕ)) (k : ℕ) (r : Bor (List ℕ)) : Type 0 where
  pub bytes : r.now ≡ view_part limits table store.now k
  pub block : r.ref_ptr.0 ≡ store.ref_ptr.0
  pub start : r.ref_ptr.1 ≡ store.ref_ptr.1 + view_start limits table store.now k
