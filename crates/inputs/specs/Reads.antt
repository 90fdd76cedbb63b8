-- What `hubshell` does with an input that comes in parts: each read is taken as it comes, and so is the input's end.
-- The contracts of the crate `shell` are in these words; the claim `ReadsPrint` ties them to the whole input.
use Rattle.std.specs.Prelude.{◌≡◌, List, [], ◌∷◌, ◌++◌, cond, ℕ, eqb, take}
use Rattle.tables.specs.Written.{Memory}
use Rattle.lines.specs.Commands.{asks}
use Rattle.inputs.specs.Inputs.{Reply, reply_to, fresh, printed}

-- what is kept between two reads: the memory, and what is kept of the line that has begun
pub record Shell : Type 0 where
  pub memory : Memory
  pub line : List ℕ

-- what was said so far, and what is kept
pub record Progress : Type 0 where
  pub text : List ℕ
  pub shell : Shell

-- "lines above 80 bytes without the byte 10, print `bad`": the first 81 bytes of a line are enough
abbrev pub room : ℕ
room = 81

abbrev pub kept : List ℕ → (byte : ℕ) → List ℕ
kept line byte = take room (line ++ (byte ∷ []))

-- after a reply nothing is kept of its line
abbrev pub replied : List ℕ → Reply → Progress
replied text r = record { text = text ++ r.text; shell = record { memory = r.memory; line = [] } }

-- one more byte: a byte 10 ends the line, which is answered, and any other is kept
unfoldable pub next : Progress → (byte : ℕ) → Progress
next p byte =
    cond (eqb byte 10) (replied p.text (reply_to p.shell.memory (asks p.shell.line)))
    (record {
      text = p.text;
      shell = record { memory = p.shell.memory; line = kept p.shell.line byte };
    })

abbrev pub after : Progress → List ℕ → Progress
after p [] = p
after p (byte ∷ more) = after (next p byte) more

-- what the bytes of one read say, and what is kept then
abbrev pub taken : Shell → List ℕ → Progress
taken s bytes = after (record { text = []; shell = s }) bytes

-- the input's end: a line that has begun is answered
unfoldable pub ended : Shell → Reply
ended s =
    elim s.line
    [ [] ↦ record { text = []; memory = s.memory } | byte ∷ more ↦ reply_to s.memory (asks s.line) ]

-- what a list of reads and the input's end say
abbrev pub said_for : Shell → List (List ℕ) → List ℕ
said_for s [] = (ended s).text
said_for s (bytes ∷ more) = (taken s bytes).text ++ said_for (taken s bytes).shell more

-- the reads, one after the other
abbrev pub joined : List (List ℕ) → List ℕ
joined [] = []
joined (bytes ∷ more) = bytes ++ joined more

-- however an input is cut into reads, what is said is what the whole input prints
abbrev pub ReadsPrint : Type 0
ReadsPrint = (reads : List (List ℕ)) → said_for (record { memory = fresh; line = [] }) reads ≡ printed (joined reads)
