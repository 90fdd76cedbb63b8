-- What is written for what is read.
--     next_said          what was said before goes before what a byte says
--     writes_on          some bytes are read before the others
--     TurnsFit           there were no more turns than bytes read, where those are known
--     turns_on           and so it stays when one more turn reads on
--     prints_from_fresh  from the fresh table on it is what the whole input prints
use mathlib.Core.Path.{◌≡◌, refl, ap, sym, ◌∙◌}
use mathlib.Core.Bool.{Bool, true, false, cond}
use mathlib.Core.List.{List, [], ◌∷◌, ◌++◌, append_assoc, append-nil}
use Prim.Native.Nat.{ℕ, ◌+◌, ◌≤◌}
use native.Mathlib.Omega.{arith}
use lib.Dec.{eqb}
use lib.ListN.{length, length-append}
use Rattle.std.specs.Prelude.{⊤, None, Some, Ok, Err, OnOk}
use Rattle.std.specs.declared.result.Result.{Result}
use Rattle.std.specs.declared.option.Option.{Option}
use Rattle.lines.specs.Commands.{asks}
use Rattle.inputs.specs.Inputs.{reply_to, fresh}
use Rattle.inputs.specs.Reads.{Shell, Progress, kept, replied, next, after, taken, ended, said_for}
use Rattle.inputs.proofs.ReadsPrint.{reads_print}
use Rattle.shell.specs.Pipes.{IsShort, Writes, PrintsAll, ReadsOn}

-- what was said before goes before what is said later
abbrev pub said : List ℕ → Progress → Progress
said text p = record { text = text ++ p.text; shell = p.shell }

pub next_said : (text : List ℕ) (p : Progress) (byte : ℕ) → next (said text p) byte ≡ said text (next p byte)
unfolding next
next_said text p byte = by_test (eqb byte 10)
  where
    by_test : (test : Bool)
        → cond test (replied (text ++ p.text) (reply_to p.shell.memory (asks p.shell.line)))
        (record { text = text ++ p.text; shell = record { memory = p.shell.memory; line = kept p.shell.line byte } })
        ≡ said text
        (cond test (replied p.text (reply_to p.shell.memory (asks p.shell.line)))
        (record { text = p.text; shell = record { memory = p.shell.memory; line = kept p.shell.line byte } }))
    by_test true =
        ap (λ (t : List ℕ). record {
          text = t;
          shell = (replied p.text (reply_to p.shell.memory (asks p.shell.line))).shell;
        })
        (append_assoc text p.text (reply_to p.shell.memory (asks p.shell.line)).text)
    by_test false = refl

after_said : (text bytes : List ℕ) (p : Progress) → after (said text p) bytes ≡ said text (after p bytes)
after_said text [] p = refl
after_said text (byte ∷ bytes) p = rw (next_said text p byte) (after_said text bytes (next p byte))

after_append : (p : Progress) (bytes more : List ℕ) → after p (bytes ++ more) ≡ after (after p bytes) more
after_append p [] more = refl
after_append p (byte ∷ bytes) more = after_append (next p byte) bytes more

-- cut in two reads, an input says the same
module _ (s : Shell) (bytes more : List ℕ) where
  abbrev first : Progress
  first = taken s bytes

  abbrev second : Progress
  second = taken first.shell more

  one_by_one : after (record { text = []; shell = s }) (bytes ++ more) ≡ said first.text second
  one_by_one =
      after_append (record { text = []; shell = s }) bytes more
      ∙ ap (λ (t : List ℕ). after (record { text = t; shell = first.shell }) more) (sym (append-nil first.text))
      ∙ after_said first.text more (record { text = []; shell = first.shell })

  cut : said_for s ((bytes ++ more) ∷ []) ≡ first.text ++ said_for first.shell (more ∷ [])
  cut =
      ap (λ (p : Progress). p.text ++ (ended p.shell).text) one_by_one
      ∙ append_assoc first.text second.text (ended second.shell).text

pub writes_on : (left leaves held holds later : Option (List ℕ)) (s t : Shell)
    → ReadsOn left leaves held holds s t → Writes leaves t holds later → Writes left s held later
writes_on None leaves held holds later s t on writes = tt
writes_on (Some xs) None held holds later s t on writes = absurd on.read
writes_on (Some xs) (Some ys) None holds later s t on writes = tt
writes_on (Some xs) (Some ys) (Some cs) None later s t on writes = absurd on.written
writes_on (Some xs) (Some ys) (Some cs) (Some ds) None s t on writes = absurd writes
writes_on (Some xs) (Some ys) (Some cs) (Some ds) (Some es) s t on writes =
    let p = taken s on.bytes in
    writes
    ∙ ap (λ (l : List ℕ). l ++ said_for t (ys ∷ [])) on.written
    ∙ ap (λ (u : Shell). (cs ++ p.text) ++ said_for u (ys ∷ [])) on.kept
    ∙ append_assoc cs p.text (said_for p.shell (ys ∷ []))
    ∙ ap (λ (l : List ℕ). cs ++ l) (sym (cut s on.bytes ys))
    ∙ ap (λ (l : List ℕ). cs ++ said_for s (l ∷ [])) (sym on.read)

-- at least as many bytes as there were turns are gone
abbrev pub TurnsFit : (left leaves : Option (List ℕ)) (turns : ℕ) → Type 0
TurnsFit None leaves turns = ⊤
TurnsFit (Some xs) None turns = ⊥
TurnsFit (Some xs) (Some ys) turns = turns + length ys ≤ length xs

pub turns_on : (left leaves later held holds : Option (List ℕ)) (s t : Shell) (turns : ℕ)
    → TurnsFit left leaves turns → ReadsOn leaves later held holds s t → TurnsFit left later (turns + 1)
turns_on None leaves later held holds s t turns fit on = tt
turns_on (Some xs) None later held holds s t turns fit on = absurd fit
turns_on (Some xs) (Some ys) None held holds s t turns fit on = absurd on.read
turns_on (Some xs) (Some ys) (Some zs) held holds s t turns fit on =
    let grown : length ys ≡ length on.bytes + length zs = ap length on.read ∙ length-append on.bytes zs in
    omega (arith, fit, on.some, grown)

prints_all : (left held holds : Option (List ℕ))
    → Writes left (record { memory = fresh; line = [] }) held holds → PrintsAll left held holds
prints_all None held holds writes = tt
prints_all (Some bytes) held holds writes = rw (reads_print (bytes ∷ []), append-nil) at writes

-- from the fresh table on
pub prints_from_fresh : {A E : Type 0} (r : Result A E) (left held holds : Option (List ℕ)) (s : Shell)
    → s ≡ record { memory = fresh; line = [] } → OnOk r (IsShort left → Writes left s held holds)
    → OnOk r (IsShort left → PrintsAll left held holds)
prints_from_fresh (Ok x) left held holds s is writes = λ short. prints_all left held holds (rw is at (writes short))
prints_from_fresh (Err e) left held holds s is writes = tt
