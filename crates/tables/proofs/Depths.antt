-- The depth of each index is the deepest that its slots allow.
-- hub_depth, page_depth: so it is for the hub and for the page.
-- least_at_hub_depth, least_at_page_depth: the smallest trees of that depth and of the next.
-- deeper_page_fails, larger_page_fails: of depth 7, or of 33 slots, the page would not be so.
use mathlib.Core.Path.{◌≡◌, refl}
use Prim.Native.Nat.{suc}
use native.Mathlib.Omega.{arith}
use Rattle.types.specs.Sizes.{hub, page}
use Rattle.trees.specs.Heights.{least, Deepest}

pub hub_depth : Deepest hub.slots hub.depth
hub_depth = record { some = omega arith; none = omega arith }

pub page_depth : Deepest page.slots page.depth
page_depth = record { some = omega arith; none = omega arith }

-- 512 labels are enough for depth 12, and too few for 13.
pub least_at_hub_depth : (least hub.depth ≡ 376) × (least (suc hub.depth) ≡ 609)
least_at_hub_depth = (refl, refl)

-- 32 labels are enough for depth 6, and one too few for 7.
pub least_at_page_depth : (least page.depth ≡ 20) × (least (suc page.depth) ≡ 33)
least_at_page_depth = (refl, refl)

-- 32 labels make no tree of depth 7.
pub deeper_page_fails : Deepest page.slots 7 → ⊥
deeper_page_fails deepest = omega (arith, deepest.some)

-- 33 labels make one.
pub larger_page_fails : Deepest 33 page.depth → ⊥
larger_page_fails deepest = omega (arith, deepest.none)
