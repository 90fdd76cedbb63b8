-- What a load answers and leaves, on lent memory of any length and content and a file of any bytes (M-110 of document
-- 02).
use Rattle.std.specs.Prelude.{List, map, ◌≡◌, ℕ, length}
use Rattle.types.specs.declared.Limits.{Limits}
use Rattle.types.specs.LoadReplies.{LoadReply, loaded, refused}
use Rattle.trees.specs.Map.{Pair}
use Rattle.trees.specs.Plain.{Call, insert}
use Rattle.tables.specs.Written.{Memory}
use Rattle.tables.specs.Outcomes.{Verdict, pass, refuse, of_memory, layout_outcome}
use Rattle.tables.specs.Claims.{after_list}
use Rattle.files.specs.FileReads.{FileRead, refused_by, holds, read_file}

-- "inserting the file's labels in file order"
abbrev pub inserts_of : List Pair → List Call
inserts_of pairs = map (λ p. insert p.label p.value) pairs

pub record Loading : Type 0 where
  pub answer : LoadReply
  pub memory : Memory

-- "The result is the table and store that inserting the file's labels in file order into a fresh table would leave";
-- "The answer is how many labels were loaded"; a refusal leaves the memory
abbrev pub loading_by : Limits → Memory → FileRead → Loading
loading_by limits m (refused_by number) = record { answer = refused number; memory = m }
loading_by limits m (holds pairs) =
    record {
      answer = loaded (length pairs);
      memory = after_list limits (inserts_of pairs) (layout_outcome limits m.table m.store).memory;
    }

-- the lines of lent memory come before those of the file: "18 .. after 2"
abbrev pub file_by : Verdict → FileRead → FileRead
file_by pass read = read
file_by (refuse number) read = refused_by number

unfoldable pub load_outcome : Limits → (table store file : List ℕ) → Loading
load_outcome limits table store file =
    loading_by limits (record { table = table; store = store })
    (file_by (of_memory limits table store pass) (read_file limits file))

-- what a load gives and leaves, against a defined outcome: one named fact for the answer and for each lent part
pub record Loads (loading : Loading) (given : LoadReply) (words bytes : List ℕ) : Type 0 where
  pub answer : given ≡ loading.answer
  pub table : words ≡ loading.memory.table
  pub store : bytes ≡ loading.memory.store
