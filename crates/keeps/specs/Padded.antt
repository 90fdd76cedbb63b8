-- How a line lies in memory of a fixed length: at its front, with 0 in each byte behind it.
use Rattle.std.specs.Prelude.{◌≡◌, List, ◌++◌, ℕ, ◌-◌, ◌≤◌, length, take, drop, replicate}
use Rattle.std.proofs.Common.{arith, take-append-drop, length-take-le}
use Rattle.inputs.specs.Reads.{room}

-- a line, and 0 up to the end of the room
abbrev pub padded : List ℕ → List ℕ
padded line = line ++ replicate (room - length line) 0

-- the line is the first len bytes, and 0 follows
pub record Padded (bytes : List ℕ) (len : ℕ) : Type 0 where
  pub whole : length bytes ≡ room
  pub within : len ≤ room
  pub rest : drop len bytes ≡ replicate (room - len) 0

-- a line tells its length and the bytes that it lies in
module _ (bytes : List ℕ) (len : ℕ) (holds : Padded bytes len) where
  pub length_again : length (take len bytes) ≡ len
  length_again = length-take-le len bytes (omega (arith, holds.whole, holds.within))

  pub padded_again : padded (take len bytes) ≡ bytes
  padded_again = rw (length_again, ← holds.rest) (take-append-drop len bytes)
