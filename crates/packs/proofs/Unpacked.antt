-- Numbers that fit their bits are read back from a packed answer.
-- parts_unpack: the claim.
use mathlib.Core.Path.{◌≡◌}
use Prim.Native.Nat.{ℕ, ◌%◌, ◌<◌}
use native.Mathlib.Omega.{arith}
use Rattle.packs.specs.Packed.{PartsUnpack}

-- A number that fits its bits is not cut.
uncut_16 : (n : ℕ) → n < 16 → n % 16 ≡ n
uncut_16 n small = omega arith

uncut_4096 : (n : ℕ) → n < 4096 → n % 4096 ≡ n
uncut_4096 n small = omega arith

uncut_65536 : (n : ℕ) → n < 65536 → n % 65536 ≡ n
uncut_65536 n small = omega arith

-- Numbers that fit their bits are read back.
pub parts_unpack : PartsUnpack
parts_unpack kind places visits one other k p v o t =
    rw (uncut_16 kind k, uncut_4096 places p, uncut_65536 visits v, uncut_65536 one o, uncut_65536 other t)
    (record {
      kind_read = omega arith;
      places_read = omega arith;
      visits_read = omega arith;
      one_read = omega arith;
      other_read = omega arith;
    })
