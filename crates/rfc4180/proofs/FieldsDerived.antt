-- A field that the grammar derives is read as its content.
-- `Stops`: what comes after a field, by its first byte: the text's end, a comma, or CR.
-- `read_field`: before such, a field that the grammar derives is read.
use mathlib.Core.Bool.{Bool, true, false}
use mathlib.Core.List.{List, [], ◌∷◌, ◌++◌, append_assoc}
use mathlib.Core.Path.{◌≡◌, refl, ap, ◌∙◌}
use Prim.Native.Nat.{ℕ}
use lib.Dec.{eqb}
use Rattle.labels.proofs.Clashes.{clash}
use Rattle.labels.proofs.Numbers.{Eqb, eq_yes, eq_no, eqb_view}
use Rattle.rfc4180.specs.Grammar.{comma, cr, dquote, is_textdata, is_inner, NonEscaped, Inner, Field, escaped}
use Rattle.rfc4180.specs.Grammar.{non_escaped}
use Rattle.rfc4180.specs.Records.{no_field, field, with_byte, bare_field, quoted_field, take_field}

-- what comes after a field
pub data Stops : (rest : List ℕ) → Type 0 where
  at_end_lem : Stops []
  at_comma : (rest : List ℕ) → Stops (comma ∷ rest)
  at_return : (rest : List ℕ) → Stops (cr ∷ rest)

-- A byte of a class that has no quote is no quote.
no_quote : (class : ℕ → Bool) → class dquote ≡ false → (byte : ℕ) → class byte ≡ true → eqb byte dquote ≡ false
no_quote class outside byte inside = by_test (eqb_view byte dquote)
  where
    by_test : {b : Bool} → Eqb byte dquote b → b ≡ false
    by_test (eq_yes is) = clash (cc (ap class is))
    by_test (eq_no other) = refl

-- ---- a field that is not escaped

-- TEXTDATA is read as far as it goes.
read_bare : {bytes rest : List ℕ} → NonEscaped bytes → Stops rest → bare_field (bytes ++ rest) ≡ field bytes rest
unfolding bare_field
read_bare NonEscaped.none at_end_lem = refl
read_bare NonEscaped.none (at_comma rest) = refl
read_bare NonEscaped.none (at_return rest) = refl
read_bare (NonEscaped.one byte bytes data_byte each) stops =
    rw (data_byte, bare_field) (ap (with_byte byte) (read_bare each stops))

-- It starts with no quote.
read_non_escaped : {bytes rest : List ℕ} → NonEscaped bytes → Stops rest → take_field (bytes ++ rest) ≡ field bytes rest
unfolding take_field
read_non_escaped NonEscaped.none at_end_lem = refl
read_non_escaped NonEscaped.none (at_comma rest) = read_bare NonEscaped.none (at_comma rest)
read_non_escaped NonEscaped.none (at_return rest) = read_bare NonEscaped.none (at_return rest)
read_non_escaped (NonEscaped.one byte bytes data_byte each) stops =
    rw (no_quote (λ n. is_textdata n) refl byte data_byte, take_field)
    (read_bare (NonEscaped.one byte bytes data_byte each) stops)

-- ---- an escaped field

-- A byte that may stand between quotes is read, and what follows it.
read_inner : (byte : ℕ) (more : List ℕ) → is_inner byte ≡ true
    → quoted_field (byte ∷ more) ≡ with_byte byte (quoted_field more)
unfolding quoted_field
read_inner byte [] inner =
    ap (λ (b : Bool). elim b [ true ↦ field [] [] | false ↦ no_field ]) (no_quote (λ n. is_inner n) refl byte inner)
read_inner byte (next ∷ more) inner =
    ap
    (λ (b : Bool).
    elim b [
      | true ↦ elim (eqb next dquote) [ true ↦ with_byte dquote (quoted_field more) | false ↦ field [] (next ∷ more) ]
      | false ↦ elim (is_inner byte) [ true ↦ with_byte byte (quoted_field (next ∷ more)) | false ↦ no_field ]
    ])
    (no_quote (λ n. is_inner n) refl byte inner)
    ∙ ap (λ (b : Bool). elim b [ true ↦ with_byte byte (quoted_field (next ∷ more)) | false ↦ no_field ]) inner

-- What stands between quotes is read up to the closing quote.
read_quoted : {content bytes rest : List ℕ} → Inner content bytes → Stops rest
    → quoted_field (bytes ++ (dquote ∷ rest)) ≡ field content rest
unfolding quoted_field
read_quoted Inner.none at_end_lem = refl
read_quoted Inner.none (at_comma rest) = refl
read_quoted Inner.none (at_return rest) = refl
read_quoted {rest = rest} (Inner.one byte content bytes inner each) stops =
    read_inner byte (bytes ++ (dquote ∷ rest)) inner ∙ ap (with_byte byte) (read_quoted each stops)
read_quoted (Inner.two_quotes content bytes each) stops = ap (with_byte dquote) (read_quoted each stops)

-- A field that the grammar derives is read, before its end.
pub read_field : {content bytes rest : List ℕ} → Field content bytes → Stops rest
    → take_field (bytes ++ rest) ≡ field content rest
unfolding take_field
read_field (escaped content bytes each) stops = rw append_assoc (read_quoted each stops)
read_field (non_escaped bytes each) stops = read_non_escaped each stops
