-- A roster's text, read from its front on, record by record (M-100 of document 02): "RFC 4180 text with two fields,
-- label and value, and no header".
use Rattle.std.specs.Prelude.{true, false, ◌&&◌, List, [], ◌∷◌, ℕ, zero, suc, eqb, length, Option, Some, None}
use Rattle.labels.specs.Labels.{Label}
use Rattle.decimals.specs.Values.{value_of}
use Rattle.files.specs.FileReads.{EntryRead, no_entry, entry}
use Rattle.rfc4180.specs.Grammar.{comma, cr, lf, dquote, is_textdata, is_inner}

-- ---- a field

pub data FieldRead : Type 0 where
  no_field : FieldRead
  field : (content rest : List ℕ) → FieldRead

abbrev pub with_byte : ℕ → FieldRead → FieldRead
with_byte byte no_field = no_field
with_byte byte (field content rest) = field (byte ∷ content) rest

-- a field that is not escaped: the TEXTDATA at the front of a text, as far as it goes
unfoldable pub bare_field : List ℕ → FieldRead
bare_field [] = field [] []
bare_field (byte ∷ more) =
    elim (is_textdata byte) [ true ↦ with_byte byte (bare_field more) | false ↦ field [] (byte ∷ more) ]

-- an escaped field after its first quote, up to a quote that no other follows; two quotes are one of its content
unfoldable pub quoted_field : List ℕ → FieldRead
quoted_field [] = no_field
quoted_field (byte ∷ []) = elim (eqb byte dquote) [ true ↦ field [] [] | false ↦ no_field ]
quoted_field (byte ∷ next ∷ more) =
    elim (eqb byte dquote) [
      | true ↦ elim (eqb next dquote) [ true ↦ with_byte dquote (quoted_field more) | false ↦ field [] (next ∷ more) ]
      | false ↦ elim (is_inner byte) [ true ↦ with_byte byte (quoted_field (next ∷ more)) | false ↦ no_field ]
    ]

-- a field: escaped where it starts with a quote
unfoldable pub take_field : List ℕ → FieldRead
take_field [] = field [] []
take_field (byte ∷ more) = elim (eqb byte dquote) [ true ↦ quoted_field more | false ↦ bare_field (byte ∷ more) ]

-- ---- the fields of a record

pub data FieldsRead : Type 0 where
  no_fields : FieldsRead
  fields_of : (fields : List (List ℕ)) (rest : List ℕ) → FieldsRead

abbrev pub with_field : List ℕ → FieldsRead → FieldsRead
with_field content no_fields = no_fields
with_field content (fields_of fields rest) = fields_of (content ∷ fields) rest

-- where no comma follows the last field, CRLF ends the record, and nothing else does
abbrev pub line_ended : (content : List ℕ) (byte : ℕ) (rest : List ℕ) → FieldsRead
line_ended content byte [] = no_fields
line_ended content byte (next ∷ rest) =
    elim (eqb byte cr && eqb next lf) [ true ↦ fields_of (content ∷ []) rest | false ↦ no_fields ]

-- after a field: the text's end, a comma and further fields, or the record's end
abbrev pub field_then : FieldRead → (List ℕ → FieldsRead) → FieldsRead
field_then no_field next = no_fields
field_then (field content []) next = fields_of (content ∷ []) []
field_then (field content (byte ∷ rest)) next =
    elim (eqb byte comma) [ true ↦ with_field content (next rest) | false ↦ line_ended content byte rest ]

-- so many fields at most
unfoldable pub take_fields_with : (most : ℕ) → List ℕ → FieldsRead
take_fields_with zero text = no_fields
take_fields_with (suc most) text = field_then (take_field text) (λ rest. take_fields_with most rest)

-- the fields of the record at the front of a text: each but the last has a comma after it, so they are no more than the
-- text's bytes and one
unfoldable pub take_fields : List ℕ → FieldsRead
take_fields text = take_fields_with (suc (length text)) text

-- ---- a record of a roster

abbrev pub with_value : Label → Option ℕ → (rest : List ℕ) → EntryRead
with_value x None rest = no_entry
with_value x (Some value) rest = entry x value rest

-- "13, a record that breaks RFC 4180's grammar .., has not exactly two fields, or whose value is not a decimal 0 to
-- 65535 without needless leading zeros"
abbrev pub as_entry : FieldsRead → EntryRead
as_entry no_fields = no_entry
as_entry (fields_of [] rest) = no_entry
as_entry (fields_of (x ∷ []) rest) = no_entry
as_entry (fields_of (x ∷ value ∷ []) rest) = with_value x (value_of value) rest
as_entry (fields_of (x ∷ value ∷ third ∷ more) rest) = no_entry

-- the label and the value of the record at the front of a text
unfoldable pub take_record : List ℕ → EntryRead
take_record text = as_entry (take_fields text)

-- ---- the records of a text

abbrev pub record_then : EntryRead → (List ℕ → List EntryRead) → List EntryRead
record_then no_entry next = no_entry ∷ []
record_then (entry x value rest) next = entry x value rest ∷ next rest

-- so many records at most
unfoldable pub records_with : (most : ℕ) → List ℕ → List EntryRead
records_with zero text = []
records_with (suc most) [] = []
records_with (suc most) (byte ∷ more) = record_then (take_record (byte ∷ more)) (λ rest. records_with most rest)

-- the records of a text up to the first that is refused by 13, this one too; they are no more than its bytes
unfoldable pub records_of : List ℕ → List EntryRead
records_of text = records_with (length text) text
