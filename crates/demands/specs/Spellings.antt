-- Spellings of one name: M-104 of document 02, "Capital and small letters name one player."
use Rattle.std.specs.Prelude.{List, ◌≡◌, ℕ}
use Rattle.std.proofs.Math.Option.{some}
use Rattle.types.specs.declared.Limits.{Limits}
use Rattle.types.specs.Answers.{refused}
use Rattle.labels.specs.Labels.{Label, Alike}
use Rattle.trees.specs.Charges.{unknown}
use Rattle.trees.specs.Map.{Pair, lookup}
use Rattle.tables.specs.Written.{Memory}
use Rattle.tables.specs.Outcomes.{Outcome, search_outcome, insert_outcome, delete_outcome, charge_outcome}
use Rattle.tables.specs.Claims.{Sound, LabelFits}
use Rattle.tables.specs.MapClaims.{map_in, pair_said, accepted, said}

-- The claim, on words and bytes of any content: labels that are alike are one name. A search answers the same for each,
-- a delete and a charge set answer and leave the same, an insert answers the same.
pub record OneName (limits : Limits) : Type 0 where
  pub searches :
      (table store : List ℕ) (x y : Label) → Alike x y
      → search_outcome limits table store x ≡ search_outcome limits table store y
  pub deletes :
      (table store : List ℕ) (x y : Label) → Alike x y
      → delete_outcome limits table store x ≡ delete_outcome limits table store y
  pub charges :
      (table store : List ℕ) (x y : Label) (charge : ℕ) → Alike x y
      → charge_outcome limits table store x charge ≡ charge_outcome limits table store y charge
  pub inserts :
      (table store : List ℕ) (x y : Label) (value : ℕ) → Alike x y
      → (insert_outcome limits table store x value).answer ≡ (insert_outcome limits table store y value).answer

-- a label deleted, and then inserted
abbrev pub without : Limits → Memory → Label → Memory
without limits m x = (delete_outcome limits m.table m.store x).memory

abbrev pub anew : Limits → Memory → Label → ℕ → Outcome
anew limits m x value = insert_outcome limits (without limits m x).table (without limits m x).store x value

-- what the calls say and leave for a label x under which the pair p is held
pub record KeepsSpelling (limits : Limits) (m : Memory) (x : Label) (p : Pair) : Type 0 where
  -- "The spelling first stored is the one shown": the search gives the slot that shows it
  pub alike : Alike x p.label
  pub shown : pair_said limits m (search_outcome limits m.table m.store x) ≡ some p
  -- "Case 11's answer 7 covers a respelled label", in a full table too; neither spelling, value nor
  -- charge changes
  pub refuses :
      (value : ℕ) → insert_outcome limits m.table m.store x value ≡ record { answer = refused 7; memory = m }
  -- a delete and a new insert store the new spelling; "Insert writes 255" (M-109)
  pub deletes : said (delete_outcome limits m.table m.store x).answer ≡ accepted
  pub inserts : (value : ℕ) → said (anew limits m x value).answer ≡ accepted
  pub respells :
      (value : ℕ) → lookup x (map_in limits (anew limits m x value).memory)
      ≡ some (record { label = x; value = value; charge = unknown })

-- The claim, for every sound table and every label under which a pair is held.
abbrev pub SpellingStays : Limits → Type 0
SpellingStays limits =
    (m : Memory) → Sound limits m → (x : Label) → LabelFits limits x
    → (p : Pair) → lookup x (map_in limits m) ≡ some p → KeepsSpelling limits m x p
