-- Saved files of sound tables: M-105 of document 02, "Save the labels".
use Rattle.std.specs.Prelude.{true, List, map, ◌≡◌, ℕ, ◌≤◌, ◌<◌, length, get_or, take, drop}
use Rattle.types.specs.declared.Limits.{Limits}
use Rattle.types.specs.SaveReplies.{saved, refused}
use Rattle.labels.specs.Labels.{Label}
use Rattle.trees.specs.Plain.{set_charge}
use Rattle.trees.specs.Valid.{ascends}
use Rattle.tables.specs.Written.{Memory}
use Rattle.tables.specs.Claims.{Sound, call_outcome}
use Rattle.tables.specs.MapClaims.{map_in, labels_in}
use Rattle.files.specs.Files.{largest_word}
use Rattle.files.specs.Saves.{Saving, save_outcome, file_in}

-- what a save of a memory gives and leaves
abbrev pub saving_of : Limits → Memory → (output : List ℕ) → Saving
saving_of limits m output = save_outcome limits m.table m.store output

-- the values of a map's pairs
abbrev pub values_in : Limits → Memory → List ℕ
values_in limits m = map (λ p. p.value) (map_in limits m)

-- a save with room writes the file of the map, in ascending order; "later bytes of the lent output stay"; "The answer
-- is how many were written"
pub record SavesFile (limits : Limits) (m : Memory) (output : List ℕ) : Type 0 where
  pub count : (saving_of limits m output).answer ≡ saved (length (file_in limits m))
  pub bytes : take (length (file_in limits m)) (saving_of limits m output).output ≡ file_in limits m
  pub later :
      drop (length (file_in limits m)) (saving_of limits m output).output ≡ drop (length (file_in limits m)) output
  pub ascending : ascends (labels_in limits m) ≡ true

-- The claim, for every sound table.
pub record SavesMap (limits : Limits) : Type 0 where
  pub saves :
      (m : Memory) → Sound limits m → (output : List ℕ) → length (file_in limits m) ≤ length output
      → SavesFile limits m output
  -- "17, output shorter than the file": nothing is written
  pub short :
      (m : Memory) → Sound limits m → (output : List ℕ) → length output < length (file_in limits m)
      → saving_of limits m output ≡ record { answer = refused 17; output = output }
  -- the file depends on the map alone: tables that hold the same labels with the same values give the same file
  pub alone :
      (m n : Memory) → Sound limits m → Sound limits n
      → labels_in limits m ≡ labels_in limits n → values_in limits m ≡ values_in limits n
      → (output : List ℕ) → saving_of limits m output ≡ saving_of limits n output
  -- "the saved file does not carry it", the charge (M-109): setting one changes no file
  pub uncharged :
      (m : Memory) → Sound limits m → (x : Label) (charge : ℕ) (output : List ℕ)
      → saving_of limits (call_outcome limits (set_charge x charge) m).memory output ≡ saving_of limits m output

-- The claim: of words of 16 bits, "At most 34,818 bytes are written", whatever the memory holds.
abbrev pub SavesWithin : Limits → (bytes : ℕ) → Type 0
SavesWithin limits bytes =
    (m : Memory) → ((i : ℕ) → get_or m.table i 0 ≤ largest_word) → (output : List ℕ) (count : ℕ)
    → (saving_of limits m output).answer ≡ saved count → count ≤ bytes
