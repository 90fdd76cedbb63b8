-- Lines whose first has begun already.
--     ahead_of_end   a line end ends the line that has begun
--     ahead_of_byte  a byte goes on with it
--     ahead_of_none  at the input's end it is a line, if it has a byte
use mathlib.Core.Path.{◌≡◌, refl, ap}
use mathlib.Core.List.{List, [], ◌∷◌, ◌++◌}
use Prim.Native.Nat.{ℕ}
use Rattle.inputs.specs.Inputs.{started_by}

-- the lines of which some bytes are the first of the first one
abbrev pub ahead : List ℕ → List (List ℕ) → List (List ℕ)
ahead [] lines = lines
ahead (byte ∷ line) lines = started_by byte (ahead line lines)

-- a line end ends the line that has begun
pub ahead_of_end : (line : List ℕ) (lines : List (List ℕ)) → ahead line ([] ∷ lines) ≡ line ∷ lines
ahead_of_end [] lines = refl
ahead_of_end (byte ∷ line) lines = ap (started_by byte) (ahead_of_end line lines)

-- a byte goes on with it
pub ahead_of_byte : (line : List ℕ) (byte : ℕ) (lines : List (List ℕ))
    → ahead line (started_by byte lines) ≡ ahead (line ++ (byte ∷ [])) lines
ahead_of_byte [] byte lines = refl
ahead_of_byte (first ∷ line) byte lines = ap (started_by first) (ahead_of_byte line byte lines)

-- at the input's end it is a line, if it has a byte
pub ahead_of_none : (byte : ℕ) (line : List ℕ) → ahead (byte ∷ line) [] ≡ (byte ∷ line) ∷ []
ahead_of_none byte [] = refl
ahead_of_none byte (second ∷ line) = ap (started_by byte) (ahead_of_none second line)
