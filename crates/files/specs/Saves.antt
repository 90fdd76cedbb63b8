-- What a save answers and leaves in the lent output, on lent memory of any length and content (M-105 of document 02).
use Rattle.std.specs.Prelude.{List, ◌++◌, ◌≡◌, ℕ, ltb, length, drop}
use Rattle.types.specs.declared.Limits.{Limits}
use Rattle.types.specs.SaveReplies.{SaveReply, saved, refused}
use Rattle.tables.specs.Written.{Memory}
use Rattle.tables.specs.Outcomes.{Verdict, pass, refuse, line, of_memory, of_table}
use Rattle.tables.specs.MapClaims.{map_in}
use Rattle.files.specs.Files.{file_of}

-- the file of the map that a table holds
abbrev pub file_in : Limits → Memory → List ℕ
file_in limits m = file_of (map_in limits m)

-- "Checks: 17, output shorter than the file, after 6"
abbrev pub of_output : (file output : List ℕ) → Verdict → Verdict
of_output file output below = line (ltb (length output) (length file)) 17 below

pub record Saving : Type 0 where
  pub answer : SaveReply
  pub output : List ℕ

-- "later bytes of the lent output stay. The answer is how many were written"; a refusal writes nothing
abbrev pub saving_by : Verdict → (output file : List ℕ) → Saving
saving_by pass output file = record { answer = saved (length file); output = file ++ drop (length file) output }
saving_by (refuse number) output file = record { answer = refused number; output = output }

unfoldable pub save_outcome : Limits → (table store output : List ℕ) → Saving
save_outcome limits table store output =
    let file = file_in limits (record { table = table; store = store }) in
    saving_by (of_memory limits table store (of_table limits table store (of_output file output pass))) output file

-- what a save gives and leaves, against a defined outcome: one named fact for the answer and for the lent output
pub record Saves (saving : Saving) (given : SaveReply) (bytes : List ℕ) : Type 0 where
  pub answer : given ≡ saving.answer
  pub output : bytes ≡ saving.output
