-- A lent list written from a position on.
use Rattle.std.specs.Prelude.{List, ◌≡◌, ℕ, ◌+◌, ◌≤◌, length}
use Rattle.std.proofs.lemmas.List.Edits.{sets}

-- a run stands in the list from a position on, and the next position follows it
pub record Filled (run before : List ℕ) (at : ℕ) (after : List ℕ) (next : ℕ) : Type 0 where
  pub list : after ≡ sets before at run
  pub end : next ≡ at + length run

-- a list that a run fits into from a position on
abbrev pub HasRoom : (run : List ℕ) (at : ℕ) (list : List ℕ) → Type 0
HasRoom run at list = at + length run ≤ length list
