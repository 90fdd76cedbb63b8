-- What is written for what is read, where the bytes of both are known.
use Rattle.std.specs.Prelude.{List, ℕ, ⊤, None, Some}
use Rattle.std.specs.declared.option.Option.{Option}
use Rattle.std.specs.Io.KnownBytes.{Appends}
use Rattle.printouts.specs.Printouts.{printout}

-- the printout of a whole text is written
abbrev pub PrintsAll : (left held holds : Option (List ℕ)) → Type 0
PrintsAll None held holds = ⊤
PrintsAll (Some text) held holds = Appends held holds (printout text)
