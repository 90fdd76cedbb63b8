-- Trial versions of search that give other neighbours of a missing label than M-107 of document 02 asks for.
use Rattle.std.specs.Prelude.{List, ◌≡◌, ℕ}
use Rattle.types.specs.Sizes.{hub}
use Rattle.types.specs.Answers.{Answer, found, absent, updated, listed, done, refused}
use Rattle.labels.specs.Labels.{Label}
use Rattle.tables.specs.Outcomes.{search_outcome}
use Rattle.demands.specs.Trials.{SearchVersion, Fair}

-- neighbours always 0
abbrev pub NeighboursZero : SearchVersion → Type 0
NeighboursZero f =
    (table store : List ℕ) (x : Label) → Fair table store x
    → (below above visits places : ℕ) → f table store x ≡ absent below above visits places → (below ≡ 0) × (above ≡ 0)

-- one node for both, as the last one visited
abbrev pub OneForBoth : SearchVersion → Type 0
OneForBoth f =
    (table store : List ℕ) (x : Label) → Fair table store x
    → (below above visits places : ℕ) → f table store x ≡ absent below above visits places → below ≡ above

-- the two exchanged
abbrev pub exchanged : Answer → Answer
exchanged (found slot value v q) = found slot value v q
exchanged (absent below above v q) = absent above below v q
exchanged (updated slot v q) = updated slot v q
exchanged (listed count) = listed count
exchanged done = done
exchanged (refused number) = refused number

abbrev pub NeighboursExchanged : SearchVersion → Type 0
NeighboursExchanged f =
    (table store : List ℕ) (x : Label) → Fair table store x
    → f table store x ≡ exchanged (search_outcome hub table store x)
