-- The first 81 bytes of a line are enough.
--     kept_is_front  what is kept of a line is its front
--     front_asks     the front of a line asks what the line asks
use mathlib.Core.Path.{◌≡◌, sym, ap, ◌∙◌}
use mathlib.Core.List.{List, [], ◌∷◌, ◌++◌}
use Prim.Native.Nat.{ℕ, ◌≤◌, ◌<◌}
use native.Mathlib.Nat.{le_refl}
use native.Mathlib.Decide.{dec_lt}
use native.Mathlib.Omega.{arith}
use lib.ListN.{length, take, length-take}
use lib.Seq.{take_all, take-take, take-append-le}
use Rattle.lines.specs.Commands.{asks}
use Rattle.lines.proofs.Asks.{long_asks_nothing}
use Rattle.inputs.specs.Reads.{room, kept}

module _ (line : List ℕ) where
  -- what is kept of a line is its front
  pub kept_is_front : (byte : ℕ) → kept (take room line) byte ≡ take room (line ++ (byte ∷ []))
  kept_is_front byte = elim (dec_lt room (length line)) [ yes more ↦ cut more | no less ↦ whole (omega arith) ]
    where
      full : room < length line → room ≤ length (take room line)
      full more = rw length-take (omega arith)

      cut : room < length line → kept (take room line) byte ≡ take room (line ++ (byte ∷ []))
      cut more =
          take-append-le room (take room line) (byte ∷ []) (full more) ∙ take-take room room line (le_refl room)
          ∙ sym (take-append-le room line (byte ∷ []) (omega arith))

      whole : length line ≤ room → kept (take room line) byte ≡ take room (line ++ (byte ∷ []))
      whole less = rw (take_all room line less)

  -- the front of a line asks what the line asks
  pub front_asks : asks (take room line) ≡ asks line
  front_asks = elim (dec_lt room (length line)) [ yes more ↦ cut more | no less ↦ whole (omega arith) ]
    where
      long : room < length line → 80 < length (take room line)
      long more = rw length-take (omega arith)

      cut : room < length line → asks (take room line) ≡ asks line
      cut more = sym (long_asks_nothing (take room line) (long more)) ∙ long_asks_nothing line (omega arith)

      whole : length line ≤ room → asks (take room line) ≡ asks line
      whole less = ap asks (take_all room line less)
