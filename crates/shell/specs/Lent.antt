-- How the contracts say what is said into a buffer, and what a caller's memory and line hold then.
use Rattle.std.specs.Prelude.{◌≡◌, List, ℕ, ◌≤◌, length, take}
use Rattle.tables.specs.Written.{lent}
use Rattle.inputs.specs.Inputs.{Reply}
use Rattle.inputs.specs.Reads.{Progress}
use Rattle.shell.specs.Shells.{shell_of, progress_of}
use Rattle.shell.specs.declared.lent.Progress as code

-- the text at the front of a buffer, with what is kept
abbrev pub progress_in : (table store out : List ℕ) → code.Progress → Progress
progress_in table store out p = progress_of (shell_of table store p.line) (take p.end out)

-- a reply's text is put at the front, and its memory is left
pub record Ends (reply : Reply) (table store out : List ℕ) (end : ℕ) : Type 0 where
  pub text : take end out ≡ reply.text
  pub inside : end ≤ length out
  pub memory : lent table store ≡ reply.memory
