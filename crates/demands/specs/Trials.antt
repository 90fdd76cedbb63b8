-- The contracts of search, insert and delete at the hub's limits, and trial versions of search that they rule out
-- ('Agreed between the keeper and the builders' and 'Wrong turns' of document 01).
use Rattle.std.specs.Prelude.{List, [], ◌∷◌, ◌++◌, ◌≡◌, cond, ℕ, zero, suc, length}
use Rattle.std.proofs.Math.Option.{Option, none, some}
use Rattle.types.specs.Sizes.{hub, table_length, store_length}
use Rattle.types.specs.Answers.{Answer, found, absent, updated, listed, done, refused}
use Rattle.labels.specs.Labels.{Label}
use Rattle.trees.specs.Plain.{Call}
use Rattle.tables.specs.Words.{labels_held}
use Rattle.tables.specs.Written.{lent}
use Rattle.tables.specs.Steps.{go_left, StepRule, is_tie, step_at, Walk, walk_from_root}
use Rattle.tables.specs.Outcomes.{Outcome, visits_of, places_of, walk_answer, search_outcome, update_outcome}
use Rattle.tables.specs.Claims.{Sound, LabelFits, after_list}
use Rattle.tables.specs.MapClaims.{label_in}
use Rattle.cases.specs.Cases.{a, d, roster, laid_out}
use Rattle.demands.specs.Ties.{steps_before}

-- ---- the contracts

abbrev pub SearchVersion : Type 0
SearchVersion = (table store : List ℕ) → Label → Answer

abbrev pub UpdateVersion : Type 0
UpdateVersion = Call → (table store : List ℕ) → Outcome

abbrev pub MeetsSearch : SearchVersion → Type 0
MeetsSearch f = (table store : List ℕ) (x : Label) → f table store x ≡ search_outcome hub table store x

abbrev pub MeetsUpdate : UpdateVersion → Type 0
MeetsUpdate f = (c : Call) (table store : List ℕ) → f c table store ≡ update_outcome hub c table store

-- Each version below is wrong on sound tables and for labels that fit; elsewhere it may do as it likes.
pub record Fair (table store : List ℕ) (x : Label) : Type 0 where
  pub holds : Sound hub (lent table store)
  pub fits : LabelFits hub x

-- ---- searches

-- "one fixed answer": "constant refusal", or 'absent' with fixed counts
abbrev pub SearchesAnswer : Answer → SearchVersion → Type 0
SearchesAnswer a f = (table store : List ℕ) (x : Label) → Fair table store x → f table store x ≡ a

-- "'absent' at once": never found, whatever the counts
abbrev pub NeverFinds : SearchVersion → Type 0
NeverFinds f =
    (table store : List ℕ) (x : Label) → Fair table store x
    → (slot value visits places : ℕ) → f table store x ≡ found slot value visits places → ⊥

-- the two counts of an answer
pub data Count : Type 0 where
  visits : Count
  places : Count

abbrev pub of_counts : Count → (visits places : ℕ) → ℕ
of_counts visits v q = v
of_counts places v q = q

-- a count that an answer gives, if it gives any
abbrev pub count_in : Count → Answer → Option ℕ
count_in k (found slot value v q) = some (of_counts k v q)
count_in k (absent below above v q) = some (of_counts k v q)
count_in k (updated slot v q) = some (of_counts k v q)
count_in k (listed count) = none
count_in k done = none
count_in k (refused number) = none

-- the count of the search steps
abbrev pub count_of : Count → Walk → ℕ
count_of k w = of_counts k (visits_of w) (places_of w)

-- an answer that gives the count n, or none
abbrev pub CountGives : Count → ℕ → Answer → Type 0
CountGives k n answer = (m : ℕ) → count_in k answer ≡ some m → m ≡ n

-- "invented visits or places": one fixed number
abbrev pub SearchesCount : Count → ℕ → SearchVersion → Type 0
SearchesCount k n f = (table store : List ℕ) (x : Label) → Fair table store x → CountGives k n (f table store x)

-- "Starting a compare at d + 1": with one label held, whose place is 1, the sought label's first byte is not looked at
abbrev pub SkipsFirst : SearchVersion → Type 0
SkipsFirst f =
    (table store : List ℕ) → labels_held table ≡ 1
    → (one other : ℕ) (x : Label) → Fair table store (one ∷ x) → f table store (one ∷ x) ≡ f table store (other ∷ x)

-- "Stopping at byte zero as if it were the end"
abbrev pub StopsAtZero : SearchVersion → Type 0
StopsAtZero f =
    (table store : List ℕ) (x : Label) → Fair table store x → Fair table store (x ++ (0 ∷ []))
    → f table store (x ++ (0 ∷ [])) ≡ f table store x

-- M-104 of document 02: a search exact to the byte finds a label only where the slot shows the very bytes sought
abbrev pub FindsExactly : SearchVersion → Type 0
FindsExactly f =
    (table store : List ℕ) (x : Label) → Fair table store x
    → (slot value visits places : ℕ) → f table store x ≡ found slot value visits places
    → label_in hub (lent table store) slot ≡ x

-- M-106 of document 02: case 6 answered so
abbrev pub AnswersCaseSix : Answer → SearchVersion → Type 0
AnswersCaseSix answer f =
    f (after_list hub roster laid_out).table (after_list hub roster laid_out).store (d ∷ a ∷ []) ≡ answer

-- a search by the steps before the request
abbrev pub SearchesAsBefore : SearchVersion → Type 0
SearchesAsBefore f =
    (table store : List ℕ) (x : Label) → Fair table store x
    → f table store x ≡ walk_answer (steps_before hub table store x)

-- and one with the first line on side successor too: S equal to d, P above d, go left
abbrev pub step_on_both : StepRule
step_on_both x c zero d p s = step_at x c zero d p s
step_on_both x c (suc side) d p s = cond (is_tie d s p) (go_left p s 0) (step_at x c (suc side) d p s)

-- on any words and bytes of the right lengths, for labels that fit
abbrev pub TiesOnBoth : SearchVersion → Type 0
TiesOnBoth f =
    (table store : List ℕ) (x : Label) → length table ≡ table_length hub → length store ≡ store_length hub
    → LabelFits hub x → f table store x ≡ walk_answer (walk_from_root step_on_both hub table store x)
