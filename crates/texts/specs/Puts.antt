-- What the parts of the writing of an answer's line leave.
use Rattle.std.specs.Prelude.{◌≡◌, List, ◌++◌, ℕ, ◌+◌, ◌≤◌, length}

-- some bytes, at most so many, are put behind a text
pub record Puts (before bytes : List ℕ) (most : ℕ) (after : List ℕ) : Type 0 where
  pub text : after ≡ before ++ bytes
  pub room : length after ≤ length before + most
