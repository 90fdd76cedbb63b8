-- Unlike constructors are never equal.
-- `clash`: anything follows where they are; `cc` finds the premise.
use mathlib.Core.Path.{◌≡◌}
use Prim.Native.Nat.{ℕ}
use native.Mathlib.Omega.{arith}

pub clash : {A : Type 0} → ◌≡◌ {A = ℕ} 0 1 → A
clash alike = absurd (omega arith)
