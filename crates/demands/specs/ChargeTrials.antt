-- Trial versions of the calls that keep a strap's charge, which their contract rules out (M-109 of document 02).
use Rattle.std.specs.Prelude.{false, List, ◌≡◌, ℕ, length}
use Rattle.types.specs.Sizes.{hub, table_length, store_length}
use Rattle.types.specs.Answers.{Answer, found, updated, refused}
use Rattle.labels.specs.Labels.{Label}
use Rattle.trees.specs.Charges.{unknown, is_charge}
use Rattle.trees.specs.Plain.{insert, delete, set_charge}
use Rattle.tables.specs.Words.{row_at}
use Rattle.tables.specs.Written.{lent}
use Rattle.tables.specs.Sound.{sound}
use Rattle.tables.specs.Outcomes.{search_outcome}
use Rattle.tables.specs.Claims.{LabelFits}
use Rattle.tables.specs.MapClaims.{charge_in}
use Rattle.demands.specs.Trials.{UpdateVersion, Fair}

-- an idle call: whatever it answers, the memory stays
abbrev pub ChargesIdle : UpdateVersion → Type 0
ChargesIdle f =
    (x : Label) (charge : ℕ) (table store : List ℕ) → Fair table store x
    → (f (set_charge x charge) table store).memory ≡ lent table store

-- one fixed answer, for charges that are some
abbrev pub ChargesAnswer : Answer → UpdateVersion → Type 0
ChargesAnswer a f =
    (x : Label) (charge : ℕ) (table store : List ℕ) → Fair table store x
    → (f (set_charge x charge) table store).answer ≡ a

-- this number is taken for a charge where the label is held
abbrev pub TakesCharge : ℕ → UpdateVersion → Type 0
TakesCharge charge f =
    (x : Label) (table store : List ℕ) → Fair table store x
    → (slot value v q : ℕ) → search_outcome hub table store x ≡ found slot value v q
    → (f (set_charge x charge) table store).answer ≡ updated slot v q

-- 24 after 6: in a table that is not sound a wrong charge is refused by 6
abbrev pub ChargesAfterSoundness : UpdateVersion → Type 0
ChargesAfterSoundness f =
    (x : Label) (charge : ℕ) (table store : List ℕ) → length table ≡ table_length hub → length store ≡ store_length hub
    → LabelFits hub x → is_charge charge ≡ false → sound hub table store ≡ false
    → (f (set_charge x charge) table store).answer ≡ refused 6

-- an insert writes this charge
abbrev pub InsertsCharge : ℕ → UpdateVersion → Type 0
InsertsCharge charge f =
    (x : Label) (value : ℕ) (table store : List ℕ) → Fair table store x
    → (slot v q : ℕ) → (f (insert x value) table store).answer ≡ updated slot v q
    → charge_in (f (insert x value) table store).memory slot ≡ charge

-- a freed slot keeps its charge
abbrev pub FreesCharged : UpdateVersion → Type 0
FreesCharged f =
    (x : Label) (table store : List ℕ) → Fair table store x
    → (slot v q : ℕ) → (f (delete x) table store).answer ≡ updated slot v q
    → charge_in (f (delete x) table store).memory slot ≡ charge_in (lent table store) slot

-- a node that a delete relinks gets 255
abbrev pub RelinksUnknown : UpdateVersion → Type 0
RelinksUnknown f =
    (x : Label) (table store : List ℕ) → Fair table store x → (k : ℕ)
    → ((row_at (f (delete x) table store).memory.table k).left ≡ (row_at table k).left → ⊥)
    → charge_in (f (delete x) table store).memory k ≡ unknown
