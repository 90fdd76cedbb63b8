-- Trial versions of insert and delete that their contract rules out
-- ('Agreed between the keeper and the builders' and 'Wrong turns' of document 01).
use Rattle.std.specs.Prelude.{List, map, ◌≡◌, ℕ, zero, suc, ◌≤◌, ◌<◌}
use Rattle.types.specs.Sizes.{hub}
use Rattle.types.specs.Answers.{Answer, found, absent, updated, listed, done, refused}
use Rattle.labels.specs.Labels.{Label, folded}
use Rattle.trees.specs.Plain.{insert, delete}
use Rattle.tables.specs.Words.{root_link, labels_held, row_at, entry_at}
use Rattle.tables.specs.Written.{Memory, lent}
use Rattle.tables.specs.Steps.{Step, go_left, go_right, stop, step_at}
use Rattle.tables.specs.Outcomes.{search_outcome}
use Rattle.tables.specs.MapClaims.{label_in}
use Rattle.demands.specs.Trials.{UpdateVersion, Fair, Count, CountGives}

-- "one fixed answer": of inserts, and of deletes
abbrev pub InsertsAnswer : Answer → UpdateVersion → Type 0
InsertsAnswer a f =
    (x : Label) (value : ℕ) (table store : List ℕ) → Fair table store x → (f (insert x value) table store).answer ≡ a

abbrev pub DeletesAnswer : Answer → UpdateVersion → Type 0
DeletesAnswer a f = (x : Label) (table store : List ℕ) → Fair table store x → (f (delete x) table store).answer ≡ a

-- "constant refusal and 'full' or 'absent' at once (the table's conditions ..)": an insert is refused by a number
-- though the label is not held and there is room, a delete though the label is held
abbrev pub InsertsRefused : ℕ → UpdateVersion → Type 0
InsertsRefused number f =
    (x : Label) (value : ℕ) (table store : List ℕ) → Fair table store x
    → (below above v q : ℕ) → search_outcome hub table store x ≡ absent below above v q → labels_held table < hub.slots
    → (f (insert x value) table store).answer ≡ refused number

abbrev pub DeletesRefused : ℕ → UpdateVersion → Type 0
DeletesRefused number f =
    (x : Label) (table store : List ℕ) → Fair table store x
    → (slot value v q : ℕ) → search_outcome hub table store x ≡ found slot value v q
    → (f (delete x) table store).answer ≡ refused number

-- "invented visits or places": one fixed number
abbrev pub InsertsCount : Count → ℕ → UpdateVersion → Type 0
InsertsCount k n f =
    (x : Label) (value : ℕ) (table store : List ℕ) → Fair table store x
    → CountGives k n (f (insert x value) table store).answer

abbrev pub DeletesCount : Count → ℕ → UpdateVersion → Type 0
DeletesCount k n f =
    (x : Label) (table store : List ℕ) → Fair table store x → CountGives k n (f (delete x) table store).answer

-- "an idle insert": whatever it answers, the memory stays
abbrev pub InsertsIdle : UpdateVersion → Type 0
InsertsIdle f =
    (x : Label) (value : ℕ) (table store : List ℕ) → Fair table store x
    → (f (insert x value) table store).memory ≡ lent table store

-- "a first insert done and later ones feigned": with a label held, the memory stays
abbrev pub InsertsOnce : UpdateVersion → Type 0
InsertsOnce f =
    (x : Label) (value : ℕ) (table store : List ℕ) → Fair table store x → 1 ≤ labels_held table
    → (f (insert x value) table store).memory ≡ lent table store

-- P and S where a walk ends
pub record Numbers : Type 0 where
  pub p : ℕ
  pub s : ℕ

abbrev pub numbers_by : Step → (here : Numbers) → (ℕ → ℕ → Numbers) → (ℕ → ℕ → Numbers) → Numbers
numbers_by (go_left p s examined) here to_left to_right = to_left p s
numbers_by (go_right p s examined) here to_left to_right = to_right p s
numbers_by (stop examined) here to_left to_right = here

abbrev pub numbers_at : (table store : List ℕ) → Label → (remaining link p s : ℕ) → Numbers
numbers_at table store x zero link p s = record { p = p; s = s }
numbers_at table store x (suc remaining) zero p s = record { p = p; s = s }
numbers_at table store x (suc remaining) (suc k) p s =
    numbers_by
    (step_at x (entry_at hub table store (suc k)).label (row_at table (suc k)).side (row_at table (suc k)).place p s)
    (record { p = p; s = s })
    (numbers_at table store x remaining (row_at table (suc k)).left)
    (numbers_at table store x remaining (row_at table (suc k)).right)

unfoldable pub last_numbers : (table store : List ℕ) → Label → Numbers
last_numbers table store x = numbers_at table store x hub.depth (root_link table) 1 1

-- the side of an updated slot is this one
abbrev pub SideIs : ℕ → Memory → Answer → Type 0
SideIs side m (found slot value v q) = Unit {0}
SideIs side m (absent below above v q) = Unit {0}
SideIs side m (updated slot v q) = (row_at m.table slot).side ≡ side
SideIs side m (listed count) = Unit {0}
SideIs side m done = Unit {0}
SideIs side m (refused number) = Unit {0}

-- "Setting a new leaf's side from P and S alone", with a label held
abbrev pub SidesByNumbers : (ℕ → ℕ → ℕ) → UpdateVersion → Type 0
SidesByNumbers side f =
    (x : Label) (value : ℕ) (table store : List ℕ) → Fair table store x → 1 ≤ labels_held table
    → SideIs (side (last_numbers table store x).p (last_numbers table store x).s)
    (f (insert x value) table store).memory (f (insert x value) table store).answer

-- "Replacing a deleted node without renewing those below that had it as neighbour": a node that keeps its sons keeps
-- its place
abbrev pub DeletesWithoutRenewal : UpdateVersion → Type 0
DeletesWithoutRenewal f =
    (x : Label) (table store : List ℕ) → Fair table store x → (k : ℕ)
    → (row_at (f (delete x) table store).memory.table k).left ≡ (row_at table k).left
    → (row_at (f (delete x) table store).memory.table k).right ≡ (row_at table k).right
    → (row_at (f (delete x) table store).memory.table k).place ≡ (row_at table k).place

-- M-104 of document 02: an insert that takes a respelling is not refused by 7 where the slot of the label shows other
-- bytes
abbrev pub InsertsRespelling : UpdateVersion → Type 0
InsertsRespelling f =
    (x : Label) (value : ℕ) (table store : List ℕ) → Fair table store x
    → (slot v visits places : ℕ) → search_outcome hub table store x ≡ found slot v visits places
    → (label_in hub (lent table store) slot ≡ x → ⊥) → (f (insert x value) table store).answer ≡ refused 7 → ⊥

-- an insert that stores folded bytes
abbrev pub StoresFolded : UpdateVersion → Type 0
StoresFolded f =
    (x : Label) (value : ℕ) (table store : List ℕ) → Fair table store x
    → (slot visits places : ℕ) → (f (insert x value) table store).answer ≡ updated slot visits places
    → label_in hub (f (insert x value) table store).memory slot ≡ map folded x
