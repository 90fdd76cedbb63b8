-- `rooted_after`: the root that an update along a path leaves, set.
use Prim.Native.Nat.{ℕ}
use mathlib.Core.Path.{◌≡◌, ap, ◌∙◌}
use mathlib.Core.List.{List}
use lib.ListN.{set}
use Rattle.turns.specs.declared.Rebuilt.{Rebuilt}
use Rattle.turns.specs.Turns.{Turned, Yields}
use Rattle.slots.specs.Slots.{with_root_place}
use Rattle.paths.specs.Paths.{rooted}

-- The root that an update leaves is set.
pub rooted_after : (turned : Turned) (after done : List ℕ) (top : Rebuilt) → Yields turned after top
    → done ≡ with_root_place (set after 0 top.link) 1 → done ≡ rooted turned
unfolding rooted
rooted_after turned after done top yields set_root =
    set_root ∙ ap (λ t. with_root_place (set t 0 top.link) 1) yields.stored
    ∙ ap (λ r. with_root_place (set turned.table 0 r.link) 1) yields.handed
