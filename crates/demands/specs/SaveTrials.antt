-- The contract of a save at the hub's limits, and trial versions that it rules out (M-105 of document 02).
use Rattle.std.specs.Prelude.{List, [], ◌∷◌, ◌++◌, reverse, ◌≡◌, ℕ, suc, ◌+◌, ◌/◌, ◌%◌, ◌≤◌, length, drop, replicate}
use Rattle.types.specs.Sizes.{hub}
use Rattle.types.specs.SaveReplies.{SaveReply, saved, refused}
use Rattle.trees.specs.Map.{Pair}
use Rattle.tables.specs.Written.{lent}
use Rattle.tables.specs.Claims.{Sound}
use Rattle.tables.specs.MapClaims.{map_in}
use Rattle.files.specs.Groups.{groups_of}
use Rattle.files.specs.Files.{file_of}
use Rattle.files.specs.Saves.{Saving, save_outcome, file_in}

-- ---- the contract

abbrev pub SaveVersion : Type 0
SaveVersion = (table store output : List ℕ) → Saving

abbrev pub MeetsSave : SaveVersion → Type 0
MeetsSave f = (table store output : List ℕ) → f table store output ≡ save_outcome hub table store output

-- ---- answers at once

-- one fixed answer, though the table is sound and the output has room
abbrev pub SavesAnswer : SaveReply → SaveVersion → Type 0
SavesAnswer reply f =
    (table store output : List ℕ) → Sound hub (lent table store)
    → length (file_in hub (lent table store)) ≤ length output → (f table store output).answer ≡ reply

-- ---- other files

-- a version writes the file that is made so of the map's pairs
abbrev pub SavesBy : (List Pair → List ℕ) → SaveVersion → Type 0
SavesBy file f =
    (table store output : List ℕ) → Sound hub (lent table store)
    → length (file (map_in hub (lent table store))) ≤ length output
    → (f table store output).output
    ≡ file (map_in hub (lent table store)) ++ drop (length (file (map_in hub (lent table store)))) output

-- a needless group: a number below 128 takes two
abbrev pub groups_and_more : ℕ → List ℕ
groups_and_more n = (128 + n % 128) ∷ groups_of (n / 128)

abbrev pub entries_and_more : List Pair → List ℕ
entries_and_more [] = []
entries_and_more (p ∷ more) =
    groups_and_more (length p.label) ++ (p.label ++ (groups_and_more p.value ++ entries_and_more more))

abbrev pub needless : List Pair → List ℕ
needless pairs = groups_and_more (length pairs) ++ entries_and_more pairs

-- descending order
abbrev pub descending : List Pair → List ℕ
descending pairs = file_of (reverse pairs)

-- the byte after the last one is overwritten
abbrev pub one_too_many : List Pair → List ℕ
one_too_many pairs = file_of pairs ++ (0 ∷ [])

-- ---- refusals

-- 17 one byte late: an output one byte too short is taken
abbrev pub SavesShort : SaveVersion → Type 0
SavesShort f =
    (table store output : List ℕ) → Sound hub (lent table store)
    → length (file_in hub (lent table store)) ≡ suc (length output)
    → (f table store output).answer ≡ saved (length (file_in hub (lent table store)))

-- a save refuses, and leaves another output than it found
pub record SpoilsOutput (saving : Saving) (output : List ℕ) : Type 0 where
  pub number : ℕ
  pub refuses : saving.answer ≡ refused number
  pub changes : saving.output ≡ output → ⊥

-- an output, with zeros in its place where the answer is a refusal
abbrev pub zeros_if_not_saved : SaveReply → List ℕ → List ℕ
zeros_if_not_saved (saved bytes) output = output
zeros_if_not_saved (refused number) output = replicate (length output) 0

-- the defined outcome, but for a refusal that clears the output
abbrev pub clearing_output : Saving → Saving
clearing_output saving =
    record { answer = saving.answer; output = zeros_if_not_saved saving.answer saving.output }
