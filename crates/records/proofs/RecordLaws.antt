-- A record by its first field.
--     no_label, nothing_after, no_comma    what makes no record
--     comma_then                           after a comma the value is read
use Rattle.std.proofs.Common.{◌≡◌, refl, sym, ap, ◌∙◌, List, [], ◌∷◌, ℕ, ◌-◌, ◌≤◌, ◌<◌, length, get_or, take, drop, arith}
use Rattle.std.proofs.lemmas.List.{take_all}
use borrow.Author.Tests.{ne_eqb}
use Rattle.files.specs.FileReads.{no_entry}
use Rattle.rfc4180.specs.Records.{no_field, field, take_field, take_record}
use Rattle.records.specs.Contents.{label_then, value_then}
use Rattle.records.proofs.TwoFields.{record_by_label}

-- a label, and what comes after it
module _ (x : List ℕ) where
  then_nothing : (rest : List ℕ) → length rest < 1 → no_entry ≡ label_then (field x rest)
  then_nothing [] nothing = refl
  then_nothing (byte ∷ more) nothing = absurd (omega arith)

  then_other : (rest : List ℕ) → (get_or rest 0 0 ≡ 44 → ⊥) → no_entry ≡ label_then (field x rest)
  then_other [] other = refl
  then_other (byte ∷ more) other = rw (ne_eqb byte 44 other, label_then)

  then_comma : (rest : List ℕ) → 1 ≤ length rest → get_or rest 0 0 ≡ 44
      → value_then x (take_field (take (length rest - 1) (drop 1 rest))) ≡ label_then (field x rest)
  then_comma [] one comma = absurd (omega arith)
  then_comma (byte ∷ more) one comma = rw (comma, take_all (length (byte ∷ more) - 1) more (omega arith))

module _ (text : List ℕ) where
  -- a label that is broken makes no record
  pub no_label : no_field ≡ take_field text → no_entry ≡ take_record text
  no_label is = sym (record_by_label text ∙ ap label_then (sym is))

  module _ (x rest : List ℕ) (is : field x rest ≡ take_field text) where
    by_label : label_then (field x rest) ≡ take_record text
    by_label = sym (record_by_label text ∙ ap label_then (sym is))

    -- nor does one with nothing after it
    pub nothing_after : length rest < 1 → no_entry ≡ take_record text
    nothing_after nothing = then_nothing x rest nothing ∙ by_label

    -- nor one with another byte than a comma after it
    pub no_comma : (get_or rest 0 0 ≡ 44 → ⊥) → no_entry ≡ take_record text
    no_comma other = then_other x rest other ∙ by_label

    -- after a comma the value is read
    pub comma_then : 1 ≤ length rest → get_or rest 0 0 ≡ 44
        → value_then x (take_field (take (length rest - 1) (drop 1 rest))) ≡ take_record text
    comma_then one comma = then_comma x rest one comma ∙ by_label

-- what `take` needs
pub ruleset record_laws = (no_label, nothing_after, no_comma, comma_then)
