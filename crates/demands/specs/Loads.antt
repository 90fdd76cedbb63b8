-- Loads of saved files: M-110 of document 02, "Load a saved file".
use Rattle.std.specs.Prelude.{List, [], ◌∷◌, ◌++◌, map, ◌≡◌, ℕ, ◌≤◌, length, get_or, drop}
use Rattle.types.specs.declared.Limits.{Limits}
use Rattle.types.specs.Sizes.{table_length, store_length}
use Rattle.types.specs.SaveReplies.{saved}
use Rattle.types.specs.LoadReplies.{loaded}
use Rattle.trees.specs.Map.{Pair}
use Rattle.trees.specs.Plain.{Call, fresh}
use Rattle.tables.specs.Written.{Memory}
use Rattle.tables.specs.Outcomes.{layout_outcome}
use Rattle.tables.specs.Claims.{Sound, call_outcome, CallsAgree}
use Rattle.tables.specs.MapClaims.{map_in, said, accepted}
use Rattle.files.specs.Files.{file_of, largest_word}
use Rattle.files.specs.Saves.{file_in}
use Rattle.files.specs.FileReads.{OfBytes, read_file, holds, filed}
use Rattle.files.specs.Loads.{Loading, load_outcome, inserts_of}
use Rattle.demands.specs.Saves.{saving_of}

-- what a load of a file into a memory gives and leaves
abbrev pub loading_of : Limits → Memory → (file : List ℕ) → Loading
loading_of limits m file = load_outcome limits m.table m.store file

-- "Lent memory of the right size may hold anything beforehand."
pub record Lent (limits : Limits) (m : Memory) : Type 0 where
  pub words : length m.table ≡ table_length limits
  pub bytes : length m.store ≡ store_length limits

-- the pairs of a map as a file has them, with no charge known
abbrev pub filed_pairs : List Pair → List Pair
filed_pairs pairs = map (λ p. filed p.label p.value) pairs

-- calls one after the other, of which none is refused
abbrev pub AllAccepted : Limits → List Call → Memory → Type 0
AllAccepted limits [] m = Unit {0}
AllAccepted limits (c ∷ calls) m =
    (said (call_outcome limits c m).answer ≡ accepted) × AllAccepted limits calls (call_outcome limits c m).memory

-- what a load of a file that holds these pairs gives and leaves
pub record LoadsPairs (limits : Limits) (m : Memory) (file : List ℕ) (pairs : List Pair) : Type 0 where
  -- "The answer is how many labels were loaded"
  pub count : (loading_of limits m file).answer ≡ loaded (length pairs)
  -- the table left is sound, and holds the file's labels and values, and nothing else
  pub sound : Sound limits (loading_of limits m file).memory
  pub map : map_in limits (loading_of limits m file).memory ≡ pairs
  -- no insert of it is refused
  pub inserts : AllAccepted limits (inserts_of pairs) (layout_outcome limits m.table m.store).memory
  -- the inserts are a list of demand 3: each goes as the plain tree goes
  pub agree : CallsAgree limits (inserts_of pairs) (layout_outcome limits m.table m.store).memory fresh

-- The claim.
pub record LoadsFiles (limits : Limits) : Type 0 where
  -- a file that is taken is the saved file of its own pairs
  pub own :
      (file : List ℕ) (pairs : List Pair) → OfBytes file → read_file limits file ≡ holds pairs → file_of pairs ≡ file
  pub loads :
      (m : Memory) → Lent limits m → (file : List ℕ) (pairs : List Pair) → read_file limits file ≡ holds pairs
      → LoadsPairs limits m file pairs
  -- a load that is not refused was of such a file
  pub taken :
      (m : Memory) (file : List ℕ) (count : ℕ) → (loading_of limits m file).answer ≡ loaded count
      → Lent limits m × ((pairs : List Pair) × (read_file limits file ≡ holds pairs))
  -- "every file that M-105 writes is taken": of words of 16 bits, as every lent table has
  pub saved_taken :
      (m : Memory) → Sound limits m → ((i : ℕ) → get_or m.table i 0 ≤ largest_word)
      → read_file limits (file_in limits m) ≡ holds (filed_pairs (map_in limits m))
  -- "Saving it again yields the same bytes"
  pub saved_again :
      (m : Memory) (file : List ℕ) (count : ℕ) → OfBytes file → (loading_of limits m file).answer ≡ loaded count
      → (output : List ℕ) → length file ≤ length output
      → saving_of limits (loading_of limits m file).memory output
      ≡ record { answer = saved (length file); output = file ++ drop (length file) output }
  -- so no two files load alike
  pub apart :
      (m n : Memory) (file other : List ℕ) (count others : ℕ) → OfBytes file → OfBytes other
      → (loading_of limits m file).answer ≡ loaded count → (loading_of limits n other).answer ≡ loaded others
      → (loading_of limits m file).memory ≡ (loading_of limits n other).memory → file ≡ other
