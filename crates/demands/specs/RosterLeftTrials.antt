-- Trial versions of taking a roster that its contract rules out by what they leave (M-100 of document 02).
use Rattle.std.specs.Prelude.{List, [], ◌∷◌, ◌++◌, ◌≡◌, ℕ, length, replicate}
use Rattle.std.proofs.Math.Option.{some}
use Rattle.types.specs.Sizes.{hub}
use Rattle.types.specs.RosterReplies.{RosterReply, taken, refused}
use Rattle.labels.specs.Labels.{Label}
use Rattle.trees.specs.Map.{Pair, lookup}
use Rattle.tables.specs.Words.{labels_held}
use Rattle.tables.specs.Written.{Memory, lent}
use Rattle.tables.specs.Claims.{Sound, after_list}
use Rattle.tables.specs.MapClaims.{map_in}
use Rattle.rfc4180.specs.Grammar.{comma, cr, lf, dquote}
use Rattle.rfc4180.specs.Records.{records_of}
use Rattle.rfc4180.specs.Rosters.{RosterOutcome}
use Rattle.cases.specs.Cases.{a, b, c}
use Rattle.demands.specs.Rosters.{inserts_to, entered_by}
use Rattle.demands.specs.RosterTrials.{RosterVersion, one_text}

-- after one text a label is held, though the table was sound and held nothing
abbrev pub HoldsAfter : (text : List ℕ) → Label → RosterVersion → Type 0
HoldsAfter text x f =
    (table store : List ℕ) → Sound hub (lent table store) → labels_held table ≡ 0
    → (p : Pair) × (lookup x (map_in hub (f table store text).memory) ≡ some p)

-- a,1 and b and c,3: the second record has one field only
abbrev pub broken_text : List ℕ
broken_text = one_text ++ (b ∷ cr ∷ lf ∷ c ∷ comma ∷ 51 ∷ [])

-- "a""b",1: a doubled quote, which is one of the label
abbrev pub quoted_text : List ℕ
quoted_text = dquote ∷ a ∷ dquote ∷ dquote ∷ b ∷ dquote ∷ comma ∷ 49 ∷ []

-- its label with both quotes, a""b
abbrev pub both_quotes : Label
both_quotes = a ∷ dquote ∷ dquote ∷ b ∷ []

-- an idle roster: it leaves what was there
abbrev pub IdleRoster : RosterVersion → Type 0
IdleRoster f = (table store text : List ℕ) → (f table store text).memory ≡ lent table store

-- all or nothing: where a record is refused, those before it are taken out again
abbrev pub AllOrNothing : RosterVersion → Type 0
AllOrNothing f =
    (table store text : List ℕ) (n number : ℕ) → Sound hub (lent table store)
    → (f table store text).answer ≡ refused n number → (f table store text).memory ≡ lent table store

-- a roster refuses, and leaves another memory than the records before the refused one leave
pub record SpoilsRoster (o : RosterOutcome) (m : Memory) (text : List ℕ) : Type 0 where
  pub n : ℕ
  pub number : ℕ
  pub refuses : o.answer ≡ refused n number
  pub changes : o.memory ≡ after_list hub (inserts_to (entered_by (refused n number)) (records_of text)) m → ⊥

-- a memory, with zeros in its place where the answer is a refusal
abbrev pub zeros_if_stopped : RosterReply → Memory → Memory
zeros_if_stopped (taken count) m = m
zeros_if_stopped (refused n number) m =
    lent (replicate (length m.table) 0) (replicate (length m.store) 0)

-- the defined outcome, but for a refusal that clears the table and the store
abbrev pub cleared_at_refusal : RosterOutcome → RosterOutcome
cleared_at_refusal o = record { answer = o.answer; memory = zeros_if_stopped o.answer o.memory }
