-- An entry: the groups of a label's length, its bytes, and the groups of its value.
-- `entry_count`: how many bytes it takes.
-- `room_of_length`, `room_of_label`, `room_of_value`: there is room for each part in turn.
-- `entry_filled`: its parts, written one after the other, are the entry.
use mathlib.Core.List.{List, ◌++◌}
use mathlib.Core.Path.{◌≡◌}
use Prim.Native.Nat.{ℕ, ◌+◌}
use native.Mathlib.Omega.{arith}
use lib.ListN.{length, length-append}
use Rattle.words.specs.Filled.{Filled, HasRoom}
use Rattle.words.proofs.Fills.{filled_in_turn, filled_length}
use Rattle.files.specs.Groups.{groups_of}
use Rattle.files.specs.Files.{entry_of}

-- How many bytes an entry takes.
pub entry_count : (x : List ℕ) (value : ℕ)
    → length (entry_of x value) ≡ length (groups_of (length x)) + (length x + length (groups_of value))
entry_count x value =
    omega (arith, length-append (groups_of (length x)) (x ++ groups_of value), length-append x (groups_of value))

module _ (x : List ℕ) (value : ℕ) (before : List ℕ) (at : ℕ) (room : HasRoom (entry_of x value) at before) where
  pub room_of_length : HasRoom (groups_of (length x)) at before
  room_of_length = omega (arith, entry_count x value)

  module _ (first : List ℕ) (start : ℕ) (begun : Filled (groups_of (length x)) before at first start) where
    pub room_of_label : HasRoom x start first
    room_of_label = omega (arith, entry_count x value, filled_length begun)

    module _ (second : List ℕ) (end : ℕ) (copied : Filled x first start second end) where
      pub room_of_value : HasRoom (groups_of value) end second
      room_of_value = omega (arith, entry_count x value, filled_length begun, filled_length copied)

      -- The parts, written one after the other, are the entry.
      pub entry_filled : (after : List ℕ) (next : ℕ) → Filled (groups_of value) second end after next
          → Filled (entry_of x value) before at after next
      entry_filled after next valued =
          filled_in_turn (groups_of (length x)) (x ++ groups_of value) before first after at start next begun
          (filled_in_turn x (groups_of value) first second after start end next copied valued)
