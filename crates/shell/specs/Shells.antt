-- How the contracts of the shell say what is kept and what was said.
use Rattle.std.specs.Prelude.{◌≡◌, List, ℕ, ◌+◌, ◌≤◌, length}
use Rattle.tables.specs.Written.{lent}
use Rattle.inputs.specs.Reads.{Shell, Progress}

-- lent memory, and the line that has begun
abbrev pub shell_of : (table store line : List ℕ) → Shell
shell_of table store line = record { memory = lent table store; line = line }

-- a text, with what is kept
abbrev pub progress_of : Shell → (out : List ℕ) → Progress
progress_of s out = record { text = out; shell = s }

-- a text was said and is kept so, with at most a line of 96 bytes more
pub record Says (before : List ℕ) (p : Progress) (s : Shell) (out : List ℕ) : Type 0 where
  pub says : progress_of s out ≡ p
  pub room : length out ≤ length before + 96
