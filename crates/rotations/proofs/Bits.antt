-- The sides of a path, read from its number.
-- flip_of_path: the first side is the number's lowest bit.
-- rest_of_path: half of the number is the path after that side.
use mathlib.Core.List.{List, ◌∷◌}
use mathlib.Core.Path.{◌≡◌}
use Prim.Native.Nat.{◌+◌, ◌*◌, ◌/◌, ◌%◌}
use native.Mathlib.Omega.{arith}
use Rattle.trees.specs.Trees.{Side, left, right}
use Rattle.paths.specs.Paths.{path_of, flip_of}
use Rattle.rotations.proofs.Rep.{flip_on}

-- The first side of a path is its number's lowest bit.
pub flip_of_path : (s : Side) (more : List Side) → flip_of (path_of (s ∷ more)) ≡ flip_on s
flip_of_path left more =
    let even : (0 + 2 * path_of more) % 2 ≡ 0 = omega arith in
    rw even
flip_of_path right more =
    let odd : (1 + 2 * path_of more) % 2 ≡ 1 = omega arith in
    rw odd

-- Half of a path's number is the path after its first side.
pub rest_of_path : (s : Side) (more : List Side) → path_of (s ∷ more) / 2 ≡ path_of more
rest_of_path left more = omega arith
rest_of_path right more = omega arith
