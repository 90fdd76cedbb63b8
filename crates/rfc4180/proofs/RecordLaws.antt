-- The records of a roster's text.
-- `two_fields`: where a label and a value are read, there are two fields, and the label is the first.
-- `rest_shorter`: a record with a label and a value leaves fewer bytes than the text has.
-- `records_same`: from as many steps as there are bytes on, their number decides nothing.
-- `records_of_none`: a text of no bytes has no records.
-- `records_of_some`: any other has the record at its front, and those of what comes after it.
-- `records_within`: the records are no more than the bytes.
use mathlib.Core.List.{List, [], ◌∷◌}
use Rattle.std.specs.Prelude.{Option, Some, None}
use mathlib.Core.Path.{◌≡◌, refl, ap}
use Prim.Native.Nat.{ℕ, zero, suc, ◌≤◌, ◌<◌}
use native.Mathlib.Omega.{arith}
use lib.ListN.{length}
use Rattle.labels.specs.Labels.{Label}
use Rattle.labels.proofs.Clashes.{clash}
use Rattle.decimals.specs.Values.{value_of}
use Rattle.files.specs.FileReads.{EntryRead, no_entry, entry}
use Rattle.rfc4180.specs.Records.{FieldsRead, no_fields, fields_of, take_fields, with_value, as_entry, take_record}
use Rattle.rfc4180.specs.Records.{record_then, records_with, records_of}
use Rattle.rfc4180.proofs.RecordsTaken.{only_at_front, two_fields_shorten}

-- fields that are a label, and one more
pub record TwoFields (r : FieldsRead) (x : Label) (rest : List ℕ) : Type 0 where
  pub digits : List ℕ
  pub fields : r ≡ fields_of (x ∷ digits ∷ []) rest

-- Where a label and a value are read, there are two fields, and the label is the first.
pub two_fields : (r : FieldsRead) (x : Label) (value : ℕ) (rest : List ℕ) → as_entry r ≡ entry x value rest
    → TwoFields r x rest
two_fields no_fields x value rest is = clash cc
two_fields (fields_of [] after) x value rest is = clash cc
two_fields (fields_of (label ∷ []) after) x value rest is = clash cc
two_fields (fields_of (label ∷ digits ∷ []) after) x value rest is = by_value (value_of digits) is
  where
    by_value : (v : Option ℕ) → with_value label v after ≡ entry x value rest
        → TwoFields (fields_of (label ∷ digits ∷ []) after) x rest
    by_value None is = clash cc
    by_value (Some number) is = record { digits = digits; fields = cc }
two_fields (fields_of (label ∷ digits ∷ third ∷ more) after) x value rest is = clash cc

-- A record with a label and a value leaves fewer bytes than the text has.
pub rest_shorter : (text : List ℕ) (x : Label) (value : ℕ) (rest : List ℕ) → take_record text ≡ entry x value rest
    → length rest < length text
unfolding take_record
rest_shorter text x value rest is =
    let two = two_fields (take_fields text) x value rest is in
    two_fields_shorten (only_at_front (x ∷ two.digits ∷ []) text rest two.fields)

-- From as many steps as there are bytes on, their number decides nothing.
pub records_same : (most others : ℕ) (text : List ℕ) → length text ≤ most → length text ≤ others
    → records_with most text ≡ records_with others text
unfolding records_with
records_same zero zero text fits fits_others = refl
records_same zero (suc others) [] fits fits_others = refl
records_same zero (suc others) (byte ∷ more) fits fits_others = absurd (omega arith)
records_same (suc most) zero [] fits fits_others = refl
records_same (suc most) zero (byte ∷ more) fits fits_others = absurd (omega arith)
records_same (suc most) (suc others) [] fits fits_others = refl
records_same (suc most) (suc others) (byte ∷ more) fits fits_others =
    by_record (take_record (byte ∷ more)) refl (λ rest. records_same most others rest)
  where
    by_record : (r : EntryRead) → take_record (byte ∷ more) ≡ r
        → ((rest : List ℕ) → length rest ≤ most → length rest ≤ others
        → records_with most rest ≡ records_with others rest)
        → record_then r (λ rest. records_with most rest) ≡ record_then r (λ rest. records_with others rest)
    by_record no_entry is later = refl
    by_record (entry x value rest) is later =
        let fewer : length rest < length (byte ∷ more) = rest_shorter (byte ∷ more) x value rest is in
        ap (λ (l : List EntryRead). entry x value rest ∷ l) (later rest (omega arith) (omega arith))

-- A text of no bytes has no records.
pub records_of_none : (text : List ℕ) → length text ≡ 0 → records_of text ≡ []
unfolding records_of records_with
records_of_none [] empty = refl
records_of_none (byte ∷ more) empty = absurd (omega arith)

-- Any other has the record at its front, and those of what comes after it.
pub records_of_some : (text : List ℕ) → 0 < length text
    → records_of text ≡ record_then (take_record text) (λ rest. records_of rest)
unfolding records_of records_with
records_of_some [] some_byte = absurd (omega arith)
records_of_some (byte ∷ more) some_byte = by_record (take_record (byte ∷ more)) refl
  where
    by_record : (r : EntryRead) → take_record (byte ∷ more) ≡ r
        → record_then r (λ rest. records_with (length more) rest) ≡ record_then r (λ rest. records_with (length rest) rest)
    by_record no_entry is = refl
    by_record (entry x value rest) is =
        let fewer : length rest < length (byte ∷ more) = rest_shorter (byte ∷ more) x value rest is in
        ap (λ (l : List EntryRead). entry x value rest ∷ l)
        (records_same (length more) (length rest) rest (omega arith) (omega arith))

-- So many steps give no more records.
with_within : (most : ℕ) (text : List ℕ) → length (records_with most text) ≤ most
unfolding records_with
with_within zero text = omega arith
with_within (suc most) [] = omega arith
with_within (suc most) (byte ∷ more) = by_record (take_record (byte ∷ more)) (λ rest. with_within most rest)
  where
    by_record : (r : EntryRead) → ((rest : List ℕ) → length (records_with most rest) ≤ most)
        → length (record_then r (λ rest. records_with most rest)) ≤ suc most
    by_record no_entry later = omega arith
    by_record (entry x value rest) later = omega (arith, later rest)

-- The records are no more than the bytes.
pub records_within : (text : List ℕ) → length (records_of text) ≤ length text
unfolding records_of
records_within text = with_within (length text) text
