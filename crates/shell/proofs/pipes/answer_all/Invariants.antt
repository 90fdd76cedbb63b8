-- The loop's invariant: what is written from here on as the rest says makes what is written as the whole says; each
-- turn so far read a byte at least.
use Rattle.std.proofs.Common.{List, ℕ}
use Rattle.std.specs.declared.option.Option.{Option}
use Rattle.shell.specs.Pipes.{Writes}
use Rattle.shell.proofs.Writing.{TurnsFit}
use Rattle.shell.proofs.pipes.answer_all.Given as goal

abbrev pub invariant-loop-turn : goal.invariant-loop-turn
invariant-loop-turn g l = record {
  written : (holds : Option (List ℕ))
      → Writes (g.R.Read.remaining l.input) l.shell (g.W.Write.contents l.output) holds
      → Writes (g.R.Read.remaining l.initial.input) l.initial.shell (g.W.Write.contents l.initial.output) holds;
  turns : TurnsFit (g.R.Read.remaining l.initial.input) (g.R.Read.remaining l.input) l.turn;
}
