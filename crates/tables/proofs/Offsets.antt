-- The rows and the parts of all slots lie inside the lent lengths, for any sizes.
-- `part_within`: a slot's part among the parts of all slots. `offsets_inside`: the claim.
use mathlib.Core.Path.{◌≡◌}
use Prim.Native.Nat.{ℕ, zero, suc, ◌+◌, ◌-◌, ◌*◌, ◌≤◌}
use native.Mathlib.Nat.{mul-le-mul_left, mul_comm, mul-suc}
use native.Mathlib.Omega.{arith}
use Rattle.types.specs.declared.Limits.{Limits}
use Rattle.tables.specs.Claims.{OffsetsInside}

-- the part of slot k lies within the parts of all slots
pub part_within : (width slots k : ℕ) → 1 ≤ k → k ≤ slots → width * (k - 1) + width ≤ slots * width
part_within width slots zero low high = omega arith
part_within width slots (suc j) low high =
    let e : suc j - 1 ≡ j = omega arith in
    rw e (omega (arith, mul-suc width j, mul-le-mul_left width high, mul_comm width slots))

-- Offsets stay inside the lent lengths.
pub offsets_inside : (limits : Limits) → OffsetsInside limits
offsets_inside limits = record {
  row = λ k low high. omega arith;
  part = part_within limits.width limits.slots;
}
