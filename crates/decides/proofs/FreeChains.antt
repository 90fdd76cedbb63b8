-- No slot stands twice in the free chain.
-- `follows_once`: no slot stands twice in a chain that goes on from a link and ends.
use mathlib.Core.List.{List, ◌∷◌}
use mathlib.Core.Path.{◌≡◌, refl, ap}
use Prim.Native.Nat.{ℕ, suc, ◌≤◌}
use native.Mathlib.Omega.{arith}
use lib.ListN.{length}
use Rattle.types.specs.declared.Limits.{Limits}
use Rattle.trees.specs.Valid.{occurrences}
use Rattle.decides.proofs.OnceEach.{first_or_after, once_more}
use Rattle.tables.proofs.Reading.{Follows, follows_none, follows_slot}

-- a chain goes on from a link, at most so long
record Within (limits : Limits) (table : List ℕ) (link most : ℕ) : Type 0 where
  list : List ℕ
  follows : Follows limits table list link
  short : length list ≤ most

module _ {limits : Limits} {table : List ℕ} where
  -- All chains that go on from a link are as long.
  length_unique : {link : ℕ} {a b : List ℕ} → Follows limits table a link → Follows limits table b link
      → length a ≡ length b
  length_unique follows_none follows_none = refl
  length_unique follows_none (follows_slot low up more) = absurd (omega arith)
  length_unique (follows_slot low up more) follows_none = absurd (omega arith)
  length_unique (follows_slot low up more) (follows_slot from to rest) = ap suc (length_unique more rest)

  -- From a slot that occurs in a chain on, a chain goes on that is no longer.
  follows_from : {link : ℕ} {list : List ℕ} → Follows limits table list link → (j : ℕ) → 1 ≤ occurrences j list
      → Within limits table j (length list)
  follows_from follows_none j occurs = absurd (omega arith)
  follows_from (follows_slot {k} {more} low up rest) j occurs =
      first_or_after j k more
      (λ first. record { list = k ∷ more; follows = rw first (follows_slot low up rest); short = omega arith })
      (λ after. let found = follows_from rest j after in
      record { list = found.list; follows = found.follows; short = omega (arith, found.short) })
      occurs

  -- No slot stands in a chain twice: the chain from there on would be longer than itself.
  pub follows_once : {link : ℕ} {list : List ℕ} → Follows limits table list link → (j : ℕ) → occurrences j list ≤ 1
  follows_once follows_none j = omega arith
  follows_once (follows_slot {k} {more} low up rest) j =
      once_more j k more
      (λ first again.
      let later = follows_from rest j again in
      let whole = length_unique {b = k ∷ more} later.follows (rw first (follows_slot low up rest)) in
      omega (arith, later.short))
      (follows_once rest j)
