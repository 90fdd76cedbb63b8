-- What is read as a field is one that the grammar derives.
-- `Taken`: a field that is read, with its bytes at the front of the text and the others after them, or none.
-- `field_view`: what the reader of a field gives is so.
use mathlib.Core.Bool.{Bool, true, false}
use mathlib.Core.List.{List, [], ◌∷◌, ◌++◌, append_assoc}
use mathlib.Core.Path.{◌≡◌, refl, ap}
use Prim.Native.Nat.{ℕ}
use Rattle.labels.proofs.Numbers.{Eqb, eq_yes, eq_no, eqb_view}
use Rattle.rfc4180.specs.Grammar.{dquote, is_textdata, is_inner}
use Rattle.rfc4180.specs.Grammar.{NonEscaped, Inner, Field, escaped, non_escaped}
use Rattle.rfc4180.specs.Records.{FieldRead, no_field, field, with_byte, bare_field, quoted_field, take_field}

-- ---- a field that is not escaped

-- bytes that are all TEXTDATA at the front of a text
data Bare (text : List ℕ) : FieldRead → Type 0 where
  bare : (bytes rest : List ℕ) → NonEscaped bytes → text ≡ bytes ++ rest → Bare text (field bytes rest)

-- With one byte more there is one more.
bare_more : {r : FieldRead} (byte : ℕ) (more : List ℕ) → is_textdata byte ≡ true → Bare more r
    → Bare (byte ∷ more) (with_byte byte r)
bare_more byte more data_byte (bare bytes rest each is) =
    bare (byte ∷ bytes) rest (NonEscaped.one byte bytes data_byte each) (ap (λ (l : List ℕ). byte ∷ l) is)

-- What is read as a field that is not escaped is TEXTDATA.
bare_view : (text : List ℕ) → Bare text (bare_field text)
unfolding bare_field
bare_view [] = bare [] [] NonEscaped.none refl
bare_view (byte ∷ more) = by_test (is_textdata byte) refl (bare_view more)
  where
    by_test : (b : Bool) → is_textdata byte ≡ b → Bare more (bare_field more)
        → Bare (byte ∷ more) (elim b [ true ↦ with_byte byte (bare_field more) | false ↦ field [] (byte ∷ more) ])
    by_test true data_byte later = bare_more byte more data_byte later
    by_test false other later = bare [] (byte ∷ more) NonEscaped.none refl

-- ---- an escaped field, after its first quote

-- what may stand between quotes and the closing quote at the front of a text
data Quoted (text : List ℕ) : FieldRead → Type 0 where
  unclosed : Quoted text no_field
  closed : (content bytes rest : List ℕ) → Inner content bytes → text ≡ bytes ++ (dquote ∷ rest)
      → Quoted text (field content rest)

-- With one byte more there is one more,
quoted_more : {r : FieldRead} (byte : ℕ) (more : List ℕ) → is_inner byte ≡ true → Quoted more r
    → Quoted (byte ∷ more) (with_byte byte r)
quoted_more byte more inner unclosed = unclosed
quoted_more byte more inner (closed content bytes rest each is) =
    closed (byte ∷ content) (byte ∷ bytes) rest (Inner.one byte content bytes inner each)
    (ap (λ (l : List ℕ). byte ∷ l) is)

-- and with two quotes more one quote.
quoted_quotes : {r : FieldRead} (more : List ℕ) → Quoted more r → Quoted (dquote ∷ dquote ∷ more) (with_byte dquote r)
quoted_quotes more unclosed = unclosed
quoted_quotes more (closed content bytes rest each is) =
    closed (dquote ∷ content) (dquote ∷ dquote ∷ bytes) rest (Inner.two_quotes content bytes each)
    (ap (λ (l : List ℕ). dquote ∷ dquote ∷ l) is)

-- A quote that no other follows closes the field.
quoted_end : (byte : ℕ) (rest : List ℕ) → byte ≡ dquote → Quoted (byte ∷ rest) (field [] rest)
quoted_end byte rest is = closed [] [] rest Inner.none (ap (λ (n : ℕ). n ∷ rest) is)

-- What is read as an escaped field after its first quote is so.
quoted_view : (text : List ℕ) → Quoted text (quoted_field text)
unfolding quoted_field
quoted_view [] = unclosed
quoted_view (byte ∷ []) = by_quote (eqb_view byte dquote)
  where
    by_quote : {b : Bool} → Eqb byte dquote b
        → Quoted (byte ∷ []) (elim b [ true ↦ field [] [] | false ↦ no_field ])
    by_quote (eq_yes is) = quoted_end byte [] is
    by_quote (eq_no other) = unclosed
quoted_view (byte ∷ next ∷ more) =
    by_quote (eqb_view byte dquote) (eqb_view next dquote) (is_inner byte) refl (quoted_view more)
    (quoted_view (next ∷ more))
  where
    by_quote : {first second : Bool} → Eqb byte dquote first → Eqb next dquote second → (inner : Bool)
        → is_inner byte ≡ inner → Quoted more (quoted_field more) → Quoted (next ∷ more) (quoted_field (next ∷ more))
        → Quoted (byte ∷ next ∷ more)
        (elim first [
          | true ↦ elim second [ true ↦ with_byte dquote (quoted_field more) | false ↦ field [] (next ∷ more) ]
          | false ↦ elim inner [ true ↦ with_byte byte (quoted_field (next ∷ more)) | false ↦ no_field ]
        ])
    by_quote (eq_yes is) (eq_yes second) inner test later next_later = rw (is, second) (quoted_quotes more later)
    by_quote (eq_yes is) (eq_no second) inner test later next_later = quoted_end byte (next ∷ more) is
    by_quote (eq_no other) second true test later next_later = quoted_more byte (next ∷ more) test next_later
    by_quote (eq_no other) second false test later next_later = unclosed

-- ---- a field

-- a field that the grammar derives at the front of a text, with what comes after it
pub data Taken (text : List ℕ) : FieldRead → Type 0 where
  none_taken : Taken text no_field
  taken : (content bytes rest : List ℕ) → Field content bytes → text ≡ bytes ++ rest → Taken text (field content rest)

-- A field that is not escaped is one,
of_bare : {r : FieldRead} (text : List ℕ) → Bare text r → Taken text r
of_bare text (bare bytes rest each is) = taken bytes bytes rest (non_escaped bytes each) is

-- and an escaped one is, with its first quote.
of_quoted : {r : FieldRead} (byte : ℕ) (more : List ℕ) → byte ≡ dquote → Quoted more r → Taken (byte ∷ more) r
of_quoted byte more quote unclosed = none_taken
of_quoted byte more quote (closed content bytes rest each is) =
    taken content (dquote ∷ (bytes ++ (dquote ∷ []))) rest (escaped content bytes each)
    (rw (quote, is, append_assoc))

-- What is read as a field is one that the grammar derives.
pub field_view : (text : List ℕ) → Taken text (take_field text)
unfolding take_field
field_view [] = taken [] [] [] (non_escaped [] NonEscaped.none) refl
field_view (byte ∷ more) = by_quote (eqb_view byte dquote)
  where
    by_quote : {b : Bool} → Eqb byte dquote b
        → Taken (byte ∷ more) (elim b [ true ↦ quoted_field more | false ↦ bare_field (byte ∷ more) ])
    by_quote (eq_yes quote) = of_quoted byte more quote (quoted_view more)
    by_quote (eq_no other) = of_bare (byte ∷ more) (bare_view (byte ∷ more))
