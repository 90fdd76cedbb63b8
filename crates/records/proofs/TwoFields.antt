-- A record of two fields, by its first field.
--     record_by_label    what is read of a text is its first field, and then a comma, a value and the record's end
use mathlib.Core.Bool.{Bool, true, false, ◌&&◌, cond}
use mathlib.Core.List.{List, [], ◌∷◌}
use Rattle.std.specs.Prelude.{Some, None}
use mathlib.Core.Path.{◌≡◌, refl, ◌∙◌}
use Prim.Native.Nat.{ℕ, zero, suc}
use lib.Dec.{eqb}
use borrow.Author.Tests.{eqb-true}
use lib.ListN.{length}
use Rattle.decimals.specs.Values.{value_of}
use Rattle.files.specs.FileReads.{no_entry}
use Rattle.rfc4180.specs.Grammar.{comma, cr, lf}
use Rattle.rfc4180.specs.Records.{FieldRead, no_field, field, take_field, FieldsRead, no_fields, fields_of, with_field}
use Rattle.rfc4180.specs.Records.{line_ended, field_then, take_fields_with, take_fields, as_entry, take_record}
use Rattle.records.specs.Contents.{line_end, end_then, value_then, label_then}

-- ---- three fields or more

-- a third field, whatever comes after it, makes no record
three : (x y z : List ℕ) (later : FieldsRead)
    → as_entry (with_field x (with_field y (with_field z later))) ≡ no_entry
three x y z no_fields = refl
three x y z (fields_of fields rest) = refl

three_by_line : (x y z : List ℕ) (byte : ℕ) (rest : List ℕ)
    → as_entry (with_field x (with_field y (line_ended z byte rest))) ≡ no_entry
three_by_line x y z byte [] = refl
three_by_line x y z byte (next ∷ rest) = by_line (eqb byte cr && eqb next lf)
  where
    by_line : (ended : Bool)
        → as_entry (with_field x (with_field y (elim ended [ true ↦ fields_of (z ∷ []) rest | false ↦ no_fields ])))
        ≡ no_entry
    by_line true = refl
    by_line false = refl

three_by_field : (x y : List ℕ) (third : FieldRead) (next : List ℕ → FieldsRead)
    → as_entry (with_field x (with_field y (field_then third next))) ≡ no_entry
three_by_field x y no_field next = refl
three_by_field x y (field z []) next = refl
three_by_field x y (field z (byte ∷ rest)) next = by_comma (eqb byte comma)
  where
    by_comma : (more : Bool)
        → as_entry (with_field x (with_field y
        (elim more [ true ↦ with_field z (next rest) | false ↦ line_ended z byte rest ])))
        ≡ no_entry
    by_comma true = three x y z (next rest)
    by_comma false = three_by_line x y z byte rest

-- further fields after two make no record
too_many : (x y : List ℕ) (most : ℕ) (rest : List ℕ)
    → as_entry (with_field x (with_field y (take_fields_with most rest))) ≡ no_entry
unfolding take_fields_with
too_many x y zero rest = refl
too_many x y (suc most) rest = three_by_field x y (take_field rest) (λ more. take_fields_with most more)

-- ---- two fields

-- with no comma after it, the second field is the value, and the record ends
two_by_line : (x y : List ℕ) (byte : ℕ) (rest : List ℕ)
    → as_entry (with_field x (line_ended y byte rest)) ≡ end_then x (value_of y) (line_end (byte ∷ rest))
two_by_line x y byte [] = refl
two_by_line x y byte (next ∷ rest) = by_line (eqb byte cr && eqb next lf)
  where
    by_line : (ended : Bool)
        → as_entry (with_field x (elim ended [ true ↦ fields_of (y ∷ []) rest | false ↦ no_fields ]))
        ≡ end_then x (value_of y) (cond ended (Some rest) None)
    by_line true = refl
    by_line false = refl

-- a comma ends no record
no_end_at_comma : (byte : ℕ) (rest : List ℕ) → byte ≡ comma → line_end (byte ∷ rest) ≡ None
no_end_at_comma byte [] is = refl
no_end_at_comma byte (next ∷ rest) is = rw is

two_by_field : (x : List ℕ) (second : FieldRead) (most : ℕ)
    → as_entry (with_field x (field_then second (λ more. take_fields_with most more))) ≡ value_then x second
two_by_field x no_field most = refl
two_by_field x (field y []) most = refl
two_by_field x (field y (byte ∷ rest)) most = by_comma (eqb byte comma) refl
  where
    by_comma : (more : Bool) → eqb byte comma ≡ more
        → as_entry
        (with_field x (elim more [ true ↦ with_field y (take_fields_with most rest) | false ↦ line_ended y byte rest ]))
        ≡ end_then x (value_of y) (line_end (byte ∷ rest))
    by_comma true is = too_many x y most rest ∙ rw (no_end_at_comma byte rest (eqb-true byte comma is))
    by_comma false is = two_by_line x y byte rest

-- ---- a record

-- one field makes no record
one_by_line : (x : List ℕ) (byte : ℕ) (rest : List ℕ) → as_entry (line_ended x byte rest) ≡ no_entry
one_by_line x byte [] = refl
one_by_line x byte (next ∷ rest) = by_line (eqb byte cr && eqb next lf)
  where
    by_line : (ended : Bool)
        → as_entry (elim ended [ true ↦ fields_of (x ∷ []) rest | false ↦ no_fields ]) ≡ no_entry
    by_line true = refl
    by_line false = refl

one_by_field : (first : FieldRead) (most : ℕ)
    → as_entry (field_then first (λ more. take_fields_with (suc most) more)) ≡ label_then first
unfolding take_fields_with
one_by_field no_field most = refl
one_by_field (field x []) most = refl
one_by_field (field x (byte ∷ rest)) most = by_comma (eqb byte comma)
  where
    by_comma : (more : Bool)
        → as_entry (elim more [ true ↦ with_field x (take_fields_with (suc most) rest) | false ↦ line_ended x byte rest ])
        ≡ elim more [ true ↦ value_then x (take_field rest) | false ↦ no_entry ]
    by_comma true = two_by_field x (take_field rest) most
    by_comma false = one_by_line x byte rest

-- what is read of a text is its first field, and then a comma, a value and the record's end
pub record_by_label : (text : List ℕ) → take_record text ≡ label_then (take_field text)
unfolding take_record take_fields take_fields_with take_field
record_by_label [] = refl
record_by_label (byte ∷ more) = one_by_field (take_field (byte ∷ more)) (length more)
