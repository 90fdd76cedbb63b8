-- However an input is cut into reads, what is said is what the whole input prints.
--     reads_print_from  on any memory, and with a line that has begun
--     reads_print       on the fresh table: the claim
use mathlib.Core.Path.{◌≡◌, refl, ap, ◌∙◌}
use mathlib.Core.Bool.{Bool, true, false, cond}
use mathlib.Core.List.{List, [], ◌∷◌, ◌++◌, append_assoc, append-nil}
use Prim.Native.Nat.{ℕ}
use lib.Dec.{eqb}
use lib.ListN.{take}
use Rattle.tables.specs.Written.{Memory}
use Rattle.lines.specs.Commands.{Asked, asks}
use Rattle.inputs.specs.Inputs.{started_by, lines_of, reply_to, printed_by, fresh}
use Rattle.inputs.specs.Reads.{Shell, Progress, room, kept, replied, next, after, ended}
use Rattle.inputs.specs.Reads.{said_for, joined, ReadsPrint}
use Rattle.inputs.proofs.Ahead.{ahead, ahead_of_end, ahead_of_byte, ahead_of_none}
use Rattle.inputs.proofs.Keeps.{kept_is_front, front_asks}

-- what is kept where a line has begun
abbrev begun : Memory → List ℕ → Shell
begun m line = record { memory = m; line = take room line }

abbrev said : List ℕ → Shell → Progress
said text s = record { text = text; shell = s }

-- reads say, from what is kept on, what the line that has begun and theirs print
abbrev Prints : List (List ℕ) → Type 0
Prints reads = (m : Memory) (line : List ℕ)
    → said_for (begun m line) reads ≡ printed_by m (ahead line (lines_of (joined reads)))

-- at the input's end
end_prints : Prints []
unfolding ended
end_prints m [] = refl
end_prints m (byte ∷ line) =
    rw (ahead_of_none byte line, append-nil) (ap (λ (a : Asked). (reply_to m a).text) (front_asks (byte ∷ line)))

module _ (reads : List (List ℕ)) (later : Prints reads) where
  -- the bytes of a read still to be taken, after a text that was said
  abbrev Goes : List ℕ → Type 0
  Goes bytes = (text : List ℕ) (m : Memory) (line : List ℕ)
      → (after (said text (begun m line)) bytes).text ++ said_for (after (said text (begun m line)) bytes).shell reads
      ≡ text ++ printed_by m (ahead line (lines_of (bytes ++ joined reads)))

  module _ (byte : ℕ) (bytes : List ℕ) (goes : Goes bytes) (text : List ℕ) (m : Memory) (line : List ℕ) where
    -- the lines of what comes after the byte
    abbrev rest : List (List ℕ)
    rest = lines_of (bytes ++ joined reads)

    -- what was said once the byte was taken goes on to what the lines print
    abbrev Takes : Progress → List (List ℕ) → Type 0
    Takes p lines =
        (after p bytes).text ++ said_for (after p bytes).shell reads ≡ text ++ printed_by m (ahead line lines)

    at_end_lem : Takes (replied text (reply_to m (asks (take room line)))) ([] ∷ rest)
    at_end_lem =
        rw (ahead_of_end line rest, front_asks line)
        (goes (text ++ (reply_to m (asks line)).text) (reply_to m (asks line)).memory [] ∙ simp append_assoc)

    at_byte : Takes (said text (record { memory = m; line = kept (take room line) byte })) (started_by byte rest)
    at_byte = rw (ahead_of_byte line byte rest, kept_is_front line byte) (goes text m (line ++ (byte ∷ [])))

    by_test : (test : Bool)
        → Takes
        (cond test (replied text (reply_to m (asks (take room line))))
        (said text (record { memory = m; line = kept (take room line) byte })))
        (elim test [ true ↦ [] ∷ rest | false ↦ started_by byte rest ])
    by_test true = at_end_lem
    by_test false = at_byte

  -- byte by byte
  goes_on : (bytes : List ℕ) → Goes bytes
  unfolding next
  goes_on [] text m line = ap (λ (l : List ℕ). text ++ l) (later m line)
  goes_on (byte ∷ bytes) text m line = by_test byte bytes (goes_on bytes) text m line (eqb byte 10)

-- on any memory, and with a line that has begun
pub reads_print_from : (reads : List (List ℕ)) → Prints reads
reads_print_from [] m line = end_prints m line
reads_print_from (bytes ∷ reads) m line = goes_on reads (reads_print_from reads) bytes [] m line

-- on the fresh table
pub reads_print : ReadsPrint
reads_print reads = reads_print_from reads fresh []
