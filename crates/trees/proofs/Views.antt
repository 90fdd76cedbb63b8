-- What a Bool test found.
-- both_true: `a && b` is true exactly where a and b are.
-- either_false: both parts of a test `a || b` that failed.
-- leb_is_le: `leb m n` is true exactly where m is at most n.
use mathlib.Core.Path.{◌≡◌, refl}
use mathlib.Core.Logic.{◌↔◌}
use mathlib.Core.Bool.{Bool, true, false, ◌&&◌, ◌||◌, false≢true, true≢false}
use Prim.Native.Nat.{ℕ, ◌≤◌}
use lib.Dec.{leb}
use borrow.Author.Tests.{leb-true, le-leb}

-- `a && b` is true exactly where a and b are.
pub both_true : (a b : Bool) → ((a && b) ≡ true) ↔ ((a ≡ true) × (b ≡ true))
both_true true b = (λ h. (refl, h), λ h. h.1)
both_true false b = (λ h. absurd (false≢true h), λ h. absurd (false≢true h.0))

-- both parts of a test that failed
pub either_false : (a b : Bool) → (a || b) ≡ false → (a ≡ false) × (b ≡ false)
either_false true b e = absurd (true≢false e)
either_false false b e = (refl, e)

-- `leb m n` is true exactly where m is at most n.
pub leb_is_le : (m n : ℕ) → (leb m n ≡ true) ↔ (m ≤ n)
leb_is_le m n = (leb-true m n, le-leb m n)
