-- What is written for what is read, where the bytes of both are known.
use Rattle.std.specs.Prelude.{◌≡◌, List, [], ◌∷◌, ℕ, ◌-◌, ◌^◌, ◌<◌, length, ⊤, None, Some}
use Rattle.std.specs.declared.option.Option.{Option}
use Rattle.std.specs.Io.KnownBytes.{Appends, Consumes}
use Rattle.inputs.specs.Inputs.{printed}
use Rattle.inputs.specs.Reads.{Shell, taken, said_for}

-- known bytes are fewer than `u64::MAX`
abbrev pub IsShort : Option (List ℕ) → Type 0
IsShort None = ⊤
IsShort (Some bytes) = length bytes < 2 ^ 64 - 1

-- what the bytes that are left and the input's end say is written
abbrev pub Writes : Option (List ℕ) → Shell → (held holds : Option (List ℕ)) → Type 0
Writes None s held holds = ⊤
Writes (Some bytes) s held holds = Appends held holds (said_for s (bytes ∷ []))

-- what a whole input prints is written
abbrev pub PrintsAll : (left held holds : Option (List ℕ)) → Type 0
PrintsAll None held holds = ⊤
PrintsAll (Some bytes) held holds = Appends held holds (printed bytes)

-- some bytes are read, one at least, and what they say is written
pub record ReadsOn (left leaves held holds : Option (List ℕ)) (s t : Shell) : Type 0 where
  pub bytes : List ℕ
  pub some : 0 < length bytes
  pub read : Consumes left leaves bytes
  pub written : Appends held holds (taken s bytes).text
  pub kept : t ≡ (taken s bytes).shell
