-- The reader agrees with RFC 4180's grammar, both ways.
-- `reads_grammar`: what the grammar derives is read as these fields and these records, and nothing else is taken.
use mathlib.Core.List.{List, [], ◌∷◌}
use mathlib.Core.Path.{◌≡◌, refl, sym, ap, ◌∙◌}
use Prim.Native.Nat.{ℕ, zero, suc, ◌≤◌, ◌<◌}
use native.Mathlib.Omega.{arith}
use lib.ListN.{length}
use Rattle.labels.specs.Labels.{Label}
use Rattle.files.specs.FileReads.{EntryRead, no_entry, entry}
use Rattle.rfc4180.specs.Grammar.{File}
use Rattle.rfc4180.specs.Records.{fields_of, take_fields, as_entry, take_record}
use Rattle.rfc4180.specs.Records.{record_then, records_with, records_of}
use Rattle.rfc4180.specs.Agrees.{ReadAs, AllWhole, ReadsGrammar}
use Rattle.rfc4180.proofs.RecordsTaken.{only_at_front}
use Rattle.rfc4180.proofs.RecordLaws.{two_fields, rest_shorter, records_of_some}
use Rattle.rfc4180.proofs.RecordsDerived.{read_at_front}

-- ---- a text that the grammar derives

-- What comes after a record comes after its label and value.
same_rest : (fields : List (List ℕ)) (rest : List ℕ) (x : Label) (value : ℕ) (after : List ℕ)
    → as_entry (fields_of fields rest) ≡ entry x value after → after ≡ rest
same_rest fields rest x value after is = cc (two_fields (fields_of fields rest) x value after is).fields

-- A text that the grammar derives is read as its records.
read_file_lem : {records : List (List (List ℕ))} {text : List ℕ} → File records text → ReadAs records (records_of text)
unfolding records_of records_with take_record
read_file_lem File.none = ReadAs.none
read_file_lem (File.one_more fields records byte more rest front file) =
    rw (records_of_some (byte ∷ more) (omega arith))
    (by_record (take_record (byte ∷ more)) (sym (ap as_entry (read_at_front front))) (read_file_lem file))
  where
    by_record : (r : EntryRead) → as_entry (fields_of fields rest) ≡ r → ReadAs records (records_of rest)
        → ReadAs (fields ∷ records) (record_then r (λ after. records_of after))
    by_record no_entry is later = ReadAs.wrong fields records rest is
    by_record (entry x value after) is later =
        let same : after ≡ rest = same_rest fields rest x value after is in
        rw same (ReadAs.one_more fields records x value rest (records_of rest) (is ∙ ap (entry x value) same) later)

-- ---- a text of which no record is refused by 13

-- a text that the grammar derives, as the records that were read of it
abbrev Derived : (text : List ℕ) (entries : List EntryRead) → Type 0
Derived text entries = (records : List (List (List ℕ))) × File records text × ReadAs records entries

-- Where no record is refused by 13, the grammar derives the text: a record that is refused is not among those that are
-- whole, so the record at the front has a label and a value.
file_of_whole : (most : ℕ) (text : List ℕ) → length text ≤ most → AllWhole (records_with most text)
    → Derived text (records_with most text)
unfolding records_with take_record
file_of_whole zero [] few whole = ([], File.none, ReadAs.none)
file_of_whole zero (byte ∷ more) few whole = absurd (omega arith)
file_of_whole (suc most) [] few whole = ([], File.none, ReadAs.none)
file_of_whole (suc most) (byte ∷ more) few whole =
    by_record (take_record (byte ∷ more)) refl (λ rest. file_of_whole most rest) whole
  where
    by_record : (r : EntryRead) → take_record (byte ∷ more) ≡ r
        → ((rest : List ℕ) → length rest ≤ most → AllWhole (records_with most rest)
        → Derived rest (records_with most rest))
        → AllWhole (record_then r (λ rest. records_with most rest))
        → Derived (byte ∷ more) (record_then r (λ rest. records_with most rest))
    by_record no_entry is later refused = elim refused [ ]
    by_record (entry x value rest) is later (AllWhole.one_more _ _ _ _ whole_rest) =
        let two = two_fields (take_fields (byte ∷ more)) x value rest is in
        let fewer : length rest < length (byte ∷ more) = rest_shorter (byte ∷ more) x value rest is in
        let found = later rest (omega arith) whole_rest in
        let fields : List (List ℕ) = x ∷ two.digits ∷ [] in (
          fields ∷ found.0,
          File.one_more fields found.0 byte more rest
              (only_at_front fields (byte ∷ more) rest two.fields) found.1,
          ReadAs.one_more fields found.0 x value rest (records_with most rest)
              (sym (ap as_entry two.fields) ∙ is) found.2,
        )

-- What the grammar derives is read as these fields and these records, and nothing else is taken.
pub reads_grammar : ReadsGrammar
unfolding records_of
reads_grammar =
    record {
      derived = λ fields text rest front. read_at_front front;
      only = only_at_front;
      file_derived = λ records text file. read_file_lem file;
      file_only = λ text whole. file_of_whole (length text) text (omega arith) whole;
    }
