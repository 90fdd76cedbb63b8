-- What is kept of the line that has begun.
--     kept_with_room     where there is room the byte comes behind what is kept
--     kept_without_room  where there is none what is kept stays
--     padded_with_one    behind a line with one byte more lies 0 too
use mathlib.Core.Path.{◌≡◌, refl, ◌∙◌}
use mathlib.Core.List.{List, [], ◌∷◌, ◌++◌}
use Prim.Native.Nat.{ℕ, suc, ◌+◌, ◌-◌, ◌≤◌, ◌<◌}
use native.Mathlib.Numerals.{add-one}
use native.Mathlib.Omega.{arith}
use lib.ListN.{length, take, set, length-append, length-take}
use lib.Seq.{take_all, take-append-le, take-suc-set}
use Rattle.std.proofs.lemmas.List.{length-set, drop-set-lt, drop-drop}
use Rattle.inputs.specs.Reads.{room, kept}
use Rattle.keeps.specs.Padded.{Padded}

module _ (bytes : List ℕ) (len byte : ℕ) (holds : Padded bytes len) where
  -- where there is room the byte comes behind what is kept
  pub kept_with_room : len < room → take (len + 1) (set bytes len byte) ≡ kept (take len bytes) byte
  kept_with_room more =
      rw (add-one, take-suc-set bytes len byte inside, take_all room longer fits)
    where
      inside : len < length bytes
      inside = omega (arith, holds.whole)

      longer : List ℕ
      longer = take len bytes ++ (byte ∷ [])

      fits : length (take len bytes ++ (byte ∷ [])) ≤ room
      fits = simp (length-append, length-take) (omega (arith, holds.whole))

  -- where there is none what is kept stays
  pub kept_without_room : room ≤ len → take len bytes ≡ kept (take len bytes) byte
  kept_without_room full =
      rw (take_all len bytes most, take-append-le room bytes (byte ∷ []) least, take_all room bytes all)
    where
      most : length bytes ≤ len
      most = omega (arith, holds.whole)

      least : room ≤ length bytes
      least = omega (arith, holds.whole)

      all : length bytes ≤ room
      all = omega (arith, holds.whole)

  -- behind a line with one byte more lies 0 too
  pub padded_with_one : len < room → Padded (set bytes len byte) (len + 1)
  padded_with_one more = record {
    whole = length-set bytes len byte ∙ holds.whole;
    within = omega arith;
    rest = rw (drop-set-lt (len + 1) bytes len byte (omega arith), ← drop-drop 1 len bytes, holds.rest, one_more) refl;
  }
    where
      one_more : room - len ≡ suc (room - (len + 1))
      one_more = omega arith
