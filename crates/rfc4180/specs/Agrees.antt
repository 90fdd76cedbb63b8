-- The claim that the reader agrees with RFC 4180's grammar, both ways: what the grammar derives is read as these
-- fields, and nothing else is taken.
use Rattle.std.specs.Prelude.{List, [], ◌∷◌, ◌≡◌, ℕ}
use Rattle.labels.specs.Labels.{Label}
use Rattle.files.specs.FileReads.{EntryRead, no_entry, entry}
use Rattle.rfc4180.specs.Grammar.{AtFront, File}
use Rattle.rfc4180.specs.Records.{fields_of, take_fields, as_entry, records_of}

-- what is read of the records of a file: label and value of each, up to the first that has not two fields or no value
pub data ReadAs : (records : List (List (List ℕ))) (entries : List EntryRead) → Type 0 where
  none : ReadAs [] []
  wrong : (fields : List (List ℕ)) (records : List (List (List ℕ))) (rest : List ℕ)
      → as_entry (fields_of fields rest) ≡ no_entry → ReadAs (fields ∷ records) (no_entry ∷ [])
  one_more : (fields : List (List ℕ)) (records : List (List (List ℕ))) (x : Label) (value : ℕ) (rest : List ℕ)
      (entries : List EntryRead) → as_entry (fields_of fields rest) ≡ entry x value rest → ReadAs records entries
      → ReadAs (fields ∷ records) (entry x value rest ∷ entries)

-- no record of these is refused by 13
pub data AllWhole : (entries : List EntryRead) → Type 0 where
  none : AllWhole []
  one_more : (x : Label) (value : ℕ) (rest : List ℕ) (entries : List EntryRead) → AllWhole entries
      → AllWhole (entry x value rest ∷ entries)

-- The claim.
pub record ReadsGrammar : Type 0 where
  -- a record that the grammar derives is read as its fields
  pub derived :
      (fields : List (List ℕ)) (text rest : List ℕ) → AtFront fields text rest → take_fields text ≡ fields_of fields rest
  -- and nothing else is
  pub only :
      (fields : List (List ℕ)) (text rest : List ℕ) → take_fields text ≡ fields_of fields rest → AtFront fields text rest
  -- a text that the grammar derives is read as its records
  pub file_derived :
      (records : List (List (List ℕ))) (text : List ℕ) → File records text → ReadAs records (records_of text)
  -- and no other is read without a refusal by 13
  pub file_only :
      (text : List ℕ) → AllWhole (records_of text)
      → (records : List (List (List ℕ))) × File records text × ReadAs records (records_of text)
