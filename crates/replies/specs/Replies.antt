-- How the contracts say what was said to a line.
use Rattle.std.specs.Prelude.{◌≡◌, Option, List, ◌++◌, ℕ, ◌+◌, ◌≤◌, length}
use Rattle.tables.specs.Written.{lent}
use Rattle.texts.specs.declared.Said.{Said}
use Rattle.texts.specs.Texts.{text_said}
use Rattle.inputs.specs.Inputs.{Reply}

-- what is said to a line, with the memory that is left
abbrev pub reply_of : Option Said → (table store : List ℕ) → Reply
reply_of said table store = record { text = text_said said; memory = lent table store }

-- a reply's text is put behind a text, and its memory is left
pub record Replies (reply : Reply) (before table store out : List ℕ) : Type 0 where
  pub text : out ≡ before ++ reply.text
  pub room : length out ≤ length before + 96
  pub memory : lent table store ≡ reply.memory
