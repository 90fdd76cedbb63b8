-- What is read at the front of a text, in the terms of the definitions.
use Rattle.std.specs.Prelude.{true, false, ◌&&◌, cond, List, [], ◌∷◌, ℕ, eqb, Option, Some, None}
use Rattle.labels.specs.Labels.{Label}
use Rattle.decimals.specs.Values.{value_of}
use Rattle.files.specs.FileReads.{EntryRead, no_entry, entry}
use Rattle.rfc4180.specs.Grammar.{comma, cr, lf, dquote, is_inner}
use Rattle.rfc4180.specs.Records.{FieldRead, no_field, field, take_field, with_value}
use Rattle.records.specs.Undoubled.{content_in}
use Rattle.records.specs.declared.Record.{Record}
use Rattle.records.specs.declared.contents.Content.{Content}
use Rattle.records.specs.declared.Field.{Field}

-- ---- a field

-- the bytes of a content
abbrev pub content_of : Content → List ℕ
content_of c = content_in c.part.now c.len

abbrev pub field_says : Option Field → FieldRead
field_says None = no_field
field_says (Some f) = field (content_of f.content) f.rest.now

-- what comes after one byte of an escaped field's content, if one stands at the front: two quotes, or one other byte
abbrev pub after_inner : List ℕ → Option (List ℕ)
after_inner [] = None
after_inner (byte ∷ []) = cond (is_inner byte) (Some []) None
after_inner (byte ∷ next ∷ more) =
    cond (eqb byte dquote && eqb next dquote) (Some more) (cond (is_inner byte) (Some (next ∷ more)) None)

-- ---- a record

-- what comes after a record's last field: nothing, or CRLF and the rest
abbrev pub line_end : List ℕ → Option (List ℕ)
line_end [] = Some []
line_end (byte ∷ []) = None
line_end (byte ∷ next ∷ rest) = cond (eqb byte cr && eqb next lf) (Some rest) None

-- a record by its label and the field after it: its value, and its end
abbrev pub end_then : Label → Option ℕ → Option (List ℕ) → EntryRead
end_then x value None = no_entry
end_then x value (Some rest) = with_value x value rest

abbrev pub value_then : Label → FieldRead → EntryRead
value_then x no_field = no_entry
value_then x (field value rest) = end_then x (value_of value) (line_end rest)

-- a record by its first field: a comma and another field
abbrev pub label_then : FieldRead → EntryRead
label_then no_field = no_entry
label_then (field x []) = no_entry
label_then (field x (byte ∷ rest)) =
    elim (eqb byte comma) [ true ↦ value_then x (take_field rest) | false ↦ no_entry ]

abbrev pub record_says : Option Record → EntryRead
record_says None = no_entry
record_says (Some r) = entry (content_of r.label) r.value r.rest.now
