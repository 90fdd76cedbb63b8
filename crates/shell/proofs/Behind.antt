-- What a byte says is put behind what stands in a buffer.
use mathlib.Core.Path.{◌≡◌, ap, sym, ◌∙◌}
use mathlib.Core.List.{List, [], ◌++◌, append-nil}
use Prim.Native.Nat.{ℕ}
use Rattle.inputs.specs.Reads.{Shell, next}
use Rattle.shell.specs.Shells.{progress_of}
use Rattle.shell.proofs.Writing.{said, next_said}

pub said_behind : (s t : Shell) (byte : ℕ) (none text bytes before now : List ℕ) → none ≡ []
    → progress_of t text ≡ next (progress_of s none) byte → bytes ≡ text → now ≡ before ++ bytes
    → progress_of t now ≡ next (progress_of s before) byte
said_behind s t byte none text bytes before now empty says shown put =
    ap (progress_of t) (put ∙ ap (λ (l : List ℕ). before ++ l) shown)
    ∙ ap (said before) (says ∙ ap (λ (l : List ℕ). next (progress_of s l) byte) empty)
    ∙ sym (next_said before (progress_of s []) byte)
    ∙ ap (λ (l : List ℕ). next (progress_of s l) byte) (append-nil before)
