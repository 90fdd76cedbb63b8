-- What is read as the fields of a record is a record that the grammar derives.
-- `only_at_front`: where fields are read and something is left, the text has a record of these fields at its front, and
-- this after it.
-- `two_fields_shorten`: a record of two fields or more leaves fewer bytes than the text has.
use mathlib.Core.Bool.{Bool, true, false, ◌&&◌}
use mathlib.Core.List.{List, [], ◌∷◌, ◌++◌, append_assoc, append-nil}
use mathlib.Core.Path.{◌≡◌}
use Prim.Native.Nat.{ℕ, zero, suc, ◌<◌}
use native.Mathlib.Omega.{arith}
use lib.ListN.{length, length-append}
use Rattle.labels.proofs.Clashes.{clash}
use Rattle.labels.proofs.Numbers.{Eqb, eq_yes, eq_no, eqb_view}
use Rattle.rfc4180.specs.Grammar.{comma, cr, lf, Field, Record, AtFront, last, ended}
use Rattle.rfc4180.specs.Records.{FieldRead, field, FieldsRead, no_fields, fields_of, with_field, line_ended}
use Rattle.rfc4180.specs.Records.{field_then, take_fields_with, take_fields}
use Rattle.rfc4180.proofs.FieldsTaken.{Taken, none_taken, taken, field_view}

-- the fields of a record that the grammar derives at the front of a text, with what comes after it
data RecordTaken (text : List ℕ) : FieldsRead → Type 0 where
  none_at_front : RecordTaken text no_fields
  at_front : (fields : List (List ℕ)) (rest : List ℕ) → AtFront fields text rest
      → RecordTaken text (fields_of fields rest)

module _ (content bytes : List ℕ) (derived : Field content bytes) where
  -- A field with a comma before a record makes a record of one field more.
  front_more : {fields : List (List ℕ)} {others rest : List ℕ} → AtFront fields others rest
      → AtFront (content ∷ fields) (bytes ++ (comma ∷ others)) rest
  front_more (last fields others whole) =
      last (content ∷ fields) (bytes ++ (comma ∷ others)) (Record.more content bytes fields others derived whole)
  front_more (ended fields others rest whole) =
      rw (← append_assoc bytes (comma ∷ others) (cr ∷ lf ∷ rest))
      (ended (content ∷ fields) (bytes ++ (comma ∷ others)) rest
      (Record.more content bytes fields others derived whole))

  -- So it is where the rest is read.
  taken_more : {r : FieldsRead} (rest : List ℕ) → RecordTaken rest r
      → RecordTaken (bytes ++ (comma ∷ rest)) (with_field content r)
  taken_more rest none_at_front = none_at_front
  taken_more rest (at_front fields after front) = at_front (content ∷ fields) after (front_more front)

  -- A field before CRLF is a record.
  taken_ended : (byte : ℕ) (rest : List ℕ) → RecordTaken (bytes ++ (byte ∷ rest)) (line_ended content byte rest)
  taken_ended byte [] = none_at_front
  taken_ended byte (next ∷ rest) = by_tests (eqb_view byte cr) (eqb_view next lf)
    where
      by_tests : {first second : Bool} → Eqb byte cr first → Eqb next lf second
          → RecordTaken (bytes ++ (byte ∷ next ∷ rest))
          (elim (first && second) [ true ↦ fields_of (content ∷ []) rest | false ↦ no_fields ])
      by_tests (eq_yes return) (eq_yes feed) =
          rw (return, feed)
          (at_front (content ∷ []) rest (ended (content ∷ []) bytes rest (Record.one content bytes derived)))
      by_tests (eq_yes return) (eq_no other) = none_at_front
      by_tests (eq_no other) second = none_at_front

  -- What comes after a field that is read decides so.
  taken_then : (rest : List ℕ) (next : List ℕ → FieldsRead) → ((after : List ℕ) → RecordTaken after (next after))
      → RecordTaken (bytes ++ rest) (field_then (field content rest) next)
  taken_then [] next later =
      at_front (content ∷ []) [] (rw append-nil (last (content ∷ []) bytes (Record.one content bytes derived)))
  taken_then (byte ∷ rest) next later = by_comma (eqb_view byte comma)
    where
      by_comma : {b : Bool} → Eqb byte comma b
          → RecordTaken (bytes ++ (byte ∷ rest))
          (elim b [ true ↦ with_field content (next rest) | false ↦ line_ended content byte rest ])
      by_comma (eq_yes is) = rw is (taken_more rest (later rest))
      by_comma (eq_no other) = taken_ended byte rest

-- What is read as so many fields at most is a record that the grammar derives.
fields_view : (most : ℕ) (text : List ℕ) → RecordTaken text (take_fields_with most text)
unfolding take_fields_with
fields_view zero text = none_at_front
fields_view (suc most) text = by_field (field_view text) (λ rest. fields_view most rest)
  where
    by_field : {r : FieldRead} → Taken text r → ((rest : List ℕ) → RecordTaken rest (take_fields_with most rest))
        → RecordTaken text (field_then r (λ rest. take_fields_with most rest))
    by_field none_taken later = none_at_front
    by_field (taken content bytes rest derived is) later =
        rw is (taken_then content bytes derived rest (λ after. take_fields_with most after) later)

-- Where fields are read, a record of these stands at the front.
pub only_at_front : (fields : List (List ℕ)) (text rest : List ℕ) → take_fields text ≡ fields_of fields rest
    → AtFront fields text rest
unfolding take_fields
only_at_front fields text rest is = go (fields_view (suc (length text)) text) is
  where
    go : {r : FieldsRead} → RecordTaken text r → r ≡ fields_of fields rest → AtFront fields text rest
    go none_at_front same = clash cc
    go (at_front others after front) same =
        let fields_same : others ≡ fields = cc in
        let rest_same : after ≡ rest = cc in
        rw (← fields_same, ← rest_same) front

-- A record of two fields or more has a byte, its comma.
bytes_of_two : {x y : List ℕ} {fields : List (List ℕ)} {bytes : List ℕ} → Record (x ∷ y ∷ fields) bytes
    → 0 < length bytes
bytes_of_two (Record.more x bytes fields others derived whole) = simp length-append (omega arith)

-- So it leaves fewer bytes than the text has.
pub two_fields_shorten : {x y : List ℕ} {fields : List (List ℕ)} {text rest : List ℕ}
    → AtFront (x ∷ y ∷ fields) text rest → length rest < length text
two_fields_shorten (last fields bytes whole) = bytes_of_two whole
two_fields_shorten (ended fields bytes rest whole) = simp length-append (omega arith)
