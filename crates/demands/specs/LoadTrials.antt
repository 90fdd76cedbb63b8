-- The contract of a load at the hub's limits, and trial versions that it rules out (M-110 of document 02).
use Rattle.std.specs.Prelude.{List, [], ◌∷◌, ◌≡◌, ℕ, length, replicate}
use Rattle.types.specs.Sizes.{hub}
use Rattle.types.specs.LoadReplies.{LoadReply, loaded, refused}
use Rattle.trees.specs.Map.{Pair}
use Rattle.tables.specs.Written.{Memory, lent}
use Rattle.tables.specs.Claims.{Sound, after_list}
use Rattle.files.specs.FileReads.{read_file, holds}
use Rattle.files.specs.Loads.{inserts_of, Loading, load_outcome}
use Rattle.cases.specs.Cases.{a, b}

-- ---- the contract

abbrev pub LoadVersion : Type 0
LoadVersion = (table store file : List ℕ) → Loading

abbrev pub MeetsLoad : LoadVersion → Type 0
MeetsLoad f = (table store file : List ℕ) → f table store file ≡ load_outcome hub table store file

-- ---- answers

-- one fixed answer, though the table is sound and the file can be loaded
abbrev pub LoadsAnswer : LoadReply → LoadVersion → Type 0
LoadsAnswer reply f =
    (table store file : List ℕ) (pairs : List Pair) → Sound hub (lent table store) → read_file hub file ≡ holds pairs
    → (f table store file).answer ≡ reply

-- one answer to one file, though the table is sound
abbrev pub AnswersFile : (file : List ℕ) → LoadReply → LoadVersion → Type 0
AnswersFile file reply f = (table store : List ℕ) → Sound hub (lent table store) → (f table store file).answer ≡ reply

-- a needless group: the number of no label, in two groups
abbrev pub needless_file : List ℕ
needless_file = 128 ∷ 0 ∷ []

-- equal labels: "a" twice; and in another spelling
abbrev pub equal_file : List ℕ
equal_file = 2 ∷ 1 ∷ a ∷ 0 ∷ 1 ∷ a ∷ 0 ∷ []

abbrev pub respelled_file : List ℕ
respelled_file = 2 ∷ 1 ∷ a ∷ 0 ∷ 1 ∷ 65 ∷ 0 ∷ []

-- a byte after the last label
abbrev pub longer_file : List ℕ
longer_file = 0 ∷ 0 ∷ []

-- a label below the one before it, whose value is cut short: 18 comes before 19
abbrev pub cut_file : List ℕ
cut_file = 2 ∷ 1 ∷ b ∷ 0 ∷ 1 ∷ a ∷ []

-- a label below the one before it, and a later one of no byte: "each wholly before the next", so 19 comes first
abbrev pub later_file : List ℕ
later_file = 3 ∷ 1 ∷ b ∷ 0 ∷ 1 ∷ a ∷ 0 ∷ 0 ∷ 0 ∷ []

-- ---- what is left

-- an idle load: it leaves what was there
abbrev pub IdleLoad : LoadVersion → Type 0
IdleLoad f = (table store file : List ℕ) → (f table store file).memory ≡ lent table store

-- a load into what the table holds, not into a fresh one
abbrev pub LoadsOnTop : LoadVersion → Type 0
LoadsOnTop f =
    (table store file : List ℕ) (pairs : List Pair) → Sound hub (lent table store) → read_file hub file ≡ holds pairs
    → (f table store file).memory ≡ after_list hub (inserts_of pairs) (lent table store)

-- a load refuses, and leaves another memory than it found
pub record SpoilsMemory (loading : Loading) (m : Memory) : Type 0 where
  pub number : ℕ
  pub refuses : loading.answer ≡ refused number
  pub changes : loading.memory ≡ m → ⊥

-- a memory, with zeros in its place where the answer is a refusal
abbrev pub zeros_if_not_loaded : LoadReply → Memory → Memory
zeros_if_not_loaded (loaded count) m = m
zeros_if_not_loaded (refused number) m =
    lent (replicate (length m.table) 0) (replicate (length m.store) 0)

-- the defined outcome, but for a refusal that has cleared the table and the store
abbrev pub cleared_first : Loading → Loading
cleared_first loading =
    record { answer = loading.answer; memory = zeros_if_not_loaded loading.answer loading.memory }
