-- The limits of each index, as the functions `hub` and `page` give them.
-- `at_hub`, `at_page`: they fit. `edits_at_hub`, `edits_at_page`: and their depth is the deepest that the slots allow.
-- `roster_at_hub`: a buffer as wide as the hub's labels may be.
use mathlib.Core.List.{List}
use mathlib.Core.Path.{◌≡◌, refl}
use Prim.Native.Nat.{ℕ}
use native.Mathlib.Omega.{arith}
use lib.ListN.{length}
use Rattle.types.specs.declared.Limits.{Limits}
use Rattle.types.specs.Sizes.{hub, page}
use Rattle.tables.proofs.Depths.{hub_depth, page_depth}
use Rattle.words.specs.Limits.{LimitsFit}
use Rattle.endings.specs.Ready.{EditsFit}
use Rattle.rosters.specs.Inserted.{RosterFits}

-- The hub's limits fit machine words.
pub at_hub : (limits : Limits) → limits ≡ hub → LimitsFit limits
at_hub limits same = rw same (record { slots = omega arith; width = omega arith; depth = omega arith })

-- The hub's depth is the deepest that its slots allow.
pub edits_at_hub : (limits : Limits) → limits ≡ hub → EditsFit limits
edits_at_hub limits same = rw same (record { fit = at_hub hub refl; deepest = hub_depth })

-- A buffer as wide as the hub's labels may be.
pub roster_at_hub : (limits : Limits) (buffer : List ℕ) → limits ≡ hub → length buffer ≡ 64 → RosterFits limits buffer
roster_at_hub limits buffer same room =
    record { limits_fit = edits_at_hub limits same; room = rw same room }

-- The page's limits fit machine words.
pub at_page : (limits : Limits) → limits ≡ page → LimitsFit limits
at_page limits same = rw same (record { slots = omega arith; width = omega arith; depth = omega arith })

-- The page's depth is the deepest that its slots allow.
pub edits_at_page : (limits : Limits) → limits ≡ page → EditsFit limits
edits_at_page limits same = rw same (record { fit = at_page page refl; deepest = page_depth })
