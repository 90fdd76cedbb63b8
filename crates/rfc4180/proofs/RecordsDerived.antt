-- A record that the grammar derives is read as its fields.
-- `read_at_front`: at the front of a text, with what comes after it.
use mathlib.Core.List.{List, [], ◌∷◌, ◌++◌, append_assoc, append-nil}
use mathlib.Core.Path.{◌≡◌, ap}
use Prim.Native.Nat.{ℕ, zero, suc, ◌<◌}
use native.Mathlib.Omega.{arith}
use lib.ListN.{length, length-append}
use Rattle.rfc4180.specs.Grammar.{cr, lf, Record, AtFront, last, ended}
use Rattle.rfc4180.specs.Records.{fields_of, with_field, take_fields_with, take_fields}
use Rattle.rfc4180.proofs.FieldsDerived.{at_end_lem, at_comma, at_return, read_field}

-- the end of a record, and what comes after it: the text's end, or CRLF
data Ends : (end rest : List ℕ) → Type 0 where
  text_ends : Ends [] []
  line_ends : (rest : List ℕ) → Ends (cr ∷ lf ∷ rest) rest

-- A record that the grammar derives is read as its fields, in any number of steps above the number of bytes.
read_record : {fields : List (List ℕ)} {bytes end rest : List ℕ} → Record fields bytes → Ends end rest → (most : ℕ)
    → length (bytes ++ end) < most → take_fields_with most (bytes ++ end) ≡ fields_of fields rest
unfolding take_fields_with
read_record derived ends zero few = absurd (omega arith)
read_record (Record.one content bytes derived) text_ends (suc most) few = rw (read_field derived at_end_lem)
read_record (Record.one content bytes derived) (line_ends rest) (suc most) few =
    rw (read_field derived (at_return (lf ∷ rest)))
read_record {end = end} (Record.more content bytes fields others derived later) ends (suc most) few =
    let fewer : length (others ++ end) < most = omega (arith, simp length-append at few, length-append others end) in
    rw (append_assoc, read_field derived (at_comma (others ++ end)))
    (ap (with_field content) (read_record later ends most fewer))

-- A record at the front of a text is read as its fields, with what comes after it.
pub read_at_front : {fields : List (List ℕ)} {text rest : List ℕ} → AtFront fields text rest
    → take_fields text ≡ fields_of fields rest
unfolding take_fields
read_at_front (last fields bytes derived) =
    rw append-nil at (read_record derived text_ends (suc (length (bytes ++ []))) (omega arith))
read_at_front (ended fields bytes rest derived) =
    read_record derived (line_ends rest) (suc (length (bytes ++ (cr ∷ lf ∷ rest)))) (omega arith)
