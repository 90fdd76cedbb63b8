-- Limits on the places of a search: M-113 of document 02, and the one of document 01.
use Rattle.std.specs.Prelude.{List, [], ◌∷◌, ◌≡◌, ℕ, ◌+◌, ◌≤◌, length}
use Rattle.types.specs.declared.Limits.{Limits}
use Rattle.types.specs.Sizes.{hub}
use Rattle.types.specs.Answers.{Answer, found, absent, updated, listed, done, refused}
use Rattle.labels.specs.Labels.{Label}
use Rattle.labels.specs.Shared.{shared_bytes, most_shared}
use Rattle.trees.specs.Plain.{Call, insert, sought_by}
use Rattle.tables.specs.Written.{Memory}
use Rattle.tables.specs.Steps.{Walk, broken, search_steps}
use Rattle.tables.specs.Outcomes.{visits_of, places_of}
use Rattle.tables.specs.Claims.{Sound, LabelFits, call_outcome, after_list}
use Rattle.tables.specs.MapClaims.{labels_in}
use Rattle.cases.specs.Cases.{a, d, roster, laid_out}

-- a limit that reads labels alone: how many bytes it allows for a sought label, with these held
abbrev pub ByteLimit : Type 0
ByteLimit = (x : Label) (held : List Label) → ℕ

-- a walk that is not broken, and whose "places are at most visits plus" so many bytes
pub record WalkWithin (bytes : ℕ) (w : Walk) : Type 0 where
  pub whole : w ≡ broken → ⊥
  pub few : places_of w ≤ visits_of w + bytes

-- an answer whose counts, where it gives any, are so
abbrev pub AnswerWithin : (bytes : ℕ) → Answer → Type 0
AnswerWithin bytes (found slot value visits places) = places ≤ visits + bytes
AnswerWithin bytes (absent below above visits places) = places ≤ visits + bytes
AnswerWithin bytes (updated slot visits places) = places ≤ visits + bytes
AnswerWithin bytes (listed count) = Unit
AnswerWithin bytes done = Unit
AnswerWithin bytes (refused number) = Unit

-- walks for a label on words and bytes that are within a limit on every sound table, for every label
abbrev pub WalksWithin : Limits → ByteLimit → (walk : (table store : List ℕ) → Label → Walk) → Type 0
WalksWithin limits bytes walk =
    (m : Memory) → Sound limits m → (x : Label)
    → WalkWithin (bytes x (labels_in limits m)) (walk m.table m.store x)

-- so are the searches of every call, by the labels held before it: the steps of those refused too,
-- and the counts of every answer
pub record SearchesWithin (limits : Limits) (bytes : ByteLimit) : Type 0 where
  pub steps : WalksWithin limits bytes (search_steps limits)
  pub answers :
      (m : Memory) → Sound limits m → (c : Call)
      → AnswerWithin (bytes (sought_by c) (labels_in limits m)) (call_outcome limits c m).answer

-- both sides of the limit are 0
pub record BothZero (limits : Limits) (m : Memory) (x : Label) : Type 0 where
  pub places : places_of (search_steps limits m.table m.store x) ≡ 0
  pub limit : visits_of (search_steps limits m.table m.store x) + most_shared x (labels_in limits m) ≡ 0

-- The claim: "on a sound table places are at most visits plus the most leading bytes the sought label shares with any
-- one held label .. With no label held both sides are 0."
pub record SharedLimit (limits : Limits) : Type 0 where
  pub within : SearchesWithin limits most_shared
  pub none_held : (m : Memory) → Sound limits m → labels_in limits m ≡ [] → (x : Label) → BothZero limits m x

-- The claim, "the old limit": places at most visits plus the sought label's length.
abbrev pub LengthLimit : Limits → Type 0
LengthLimit limits = SearchesWithin limits (λ x held. length x)

-- a search on a sound table that reaches the limit: so many visits, so many bytes shared, and as many places as both
-- together
pub record AtLimit (limits : Limits) (m : Memory) (x : Label) (visits bytes : ℕ) : Type 0 where
  pub holds : Sound limits m
  pub visited : visits_of (search_steps limits m.table m.store x) ≡ visits
  pub shares : most_shared x (labels_in limits m) ≡ bytes
  pub places : places_of (search_steps limits m.table m.store x) ≡ visits + bytes

-- The claim, of two cases of document 01: "aa" of case 3, which is not held, examines 1 + 1 places, and "dd" of case 7,
-- which is, 2 + 2.
pub record CasesAtLimit : Type 0 where
  pub three : AtLimit hub (after_list hub (insert (a ∷ []) 5 ∷ []) laid_out) (a ∷ a ∷ []) 1 1
  pub seven : AtLimit hub (after_list hub roster laid_out) (d ∷ d ∷ []) 2 2

-- The claim: no limit that reads labels alone allows fewer bytes, with one label held, whatever the two labels are.
abbrev pub NoSmallerLimit : Limits → Type 0
NoSmallerLimit limits =
    (bytes : ByteLimit) → WalksWithin limits bytes (search_steps limits)
    → (x y : Label) → LabelFits limits y → shared_bytes x y ≤ bytes x (y ∷ [])
