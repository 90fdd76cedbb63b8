-- The contract of taking a roster at the hub's limits, and trial versions that it rules out by their answers (M-100 of
-- document 02).
use Rattle.std.specs.Prelude.{false, List, [], ◌∷◌, ◌++◌, ◌≡◌, ℕ, suc, length}
use Rattle.types.specs.Sizes.{hub}
use Rattle.types.specs.RosterReplies.{RosterReply, taken, refused}
use Rattle.tables.specs.Words.{labels_held}
use Rattle.tables.specs.Written.{lent}
use Rattle.tables.specs.Sound.{sound}
use Rattle.tables.specs.Claims.{Sound}
use Rattle.rfc4180.specs.Grammar.{comma, cr, lf}
use Rattle.rfc4180.specs.Rosters.{longest_text, RosterOutcome, roster_outcome}
use Rattle.cases.specs.Cases.{a, b}
use Rattle.demands.specs.Loads.{Lent}

-- ---- the contract

abbrev pub RosterVersion : Type 0
RosterVersion = (table store text : List ℕ) → RosterOutcome

abbrev pub MeetsRoster : RosterVersion → Type 0
MeetsRoster f = (table store text : List ℕ) → f table store text ≡ roster_outcome hub table store text

-- ---- answers at once

-- one fixed answer, though the table is sound and all records of the text go in
abbrev pub RostersAnswer : RosterReply → RosterVersion → Type 0
RostersAnswer reply f =
    (table store text : List ℕ) (count : ℕ) → Sound hub (lent table store)
    → (roster_outcome hub table store text).answer ≡ taken count → (f table store text).answer ≡ reply

-- refusal by one number, whatever record it names
abbrev pub RostersRefused : (number : ℕ) → RosterVersion → Type 0
RostersRefused number f =
    (table store text : List ℕ) (count : ℕ) → Sound hub (lent table store)
    → (roster_outcome hub table store text).answer ≡ taken count
    → (n : ℕ) × ((f table store text).answer ≡ refused n number)

-- ---- texts answered otherwise

-- one answer to one text, though the table is sound and holds nothing
abbrev pub AnswersText : (text : List ℕ) → RosterReply → RosterVersion → Type 0
AnswersText text reply f =
    (table store : List ℕ) → Sound hub (lent table store) → labels_held table ≡ 0 → (f table store text).answer ≡ reply

-- one answer to one text at a table that is not sound, though the lent lengths are right
abbrev pub AnswersUnsound : (text : List ℕ) → RosterReply → RosterVersion → Type 0
AnswersUnsound text reply f =
    (table store : List ℕ) → Lent hub (lent table store) → sound hub table store ≡ false
    → (f table store text).answer ≡ reply

-- a record, a,1, and CRLF; 49 to 51 are the digits 1 to 3
abbrev pub one_text : List ℕ
one_text = a ∷ comma ∷ 49 ∷ cr ∷ lf ∷ []

-- the same with a bare LF
abbrev pub bare_text : List ℕ
bare_text = a ∷ comma ∷ 49 ∷ lf ∷ []

-- ,x: a label of no byte, to be refused by 3, and no value, by 13
abbrev pub nameless_text : List ℕ
nameless_text = comma ∷ 120 ∷ []

-- a,1 and A,2: one label in two spellings
abbrev pub respelled_text : List ℕ
respelled_text = one_text ++ (65 ∷ comma ∷ 50 ∷ [])

-- b, one field only
abbrev pub lone_text : List ℕ
lone_text = b ∷ []

-- a header, label,value, and a,1
abbrev pub headed_text : List ℕ
headed_text = 108 ∷ 97 ∷ 98 ∷ 101 ∷ 108 ∷ comma ∷ 118 ∷ 97 ∷ 108 ∷ 117 ∷ 101 ∷ cr ∷ lf ∷ one_text

-- ---- 12

-- a text of a byte more than the longest is not refused by 12, though the table is sound
abbrev pub TakesLonger : RosterVersion → Type 0
TakesLonger f =
    (table store text : List ℕ) → Sound hub (lent table store) → length text ≡ suc longest_text
    → (f table store text).answer ≡ refused 0 12 → ⊥

-- a text of as many bytes as the longest is refused by 12
abbrev pub RefusesLongest : RosterVersion → Type 0
RefusesLongest f =
    (table store text : List ℕ) → Sound hub (lent table store) → length text ≡ longest_text
    → (f table store text).answer ≡ refused 0 12
