-- The content of an escaped field, as the grammar derives it with its bytes.
--     quote_no_inner    what may stand there alone is no quote
--     inner_joined      two contents after each other are a content
--     inner_undoubled   it is the bytes, with one of two quotes
--     inner_few         it has no more bytes than stand there
--     inner_even        and where it has as many, it is these bytes
--     inner_read        a field that starts with its bytes is read as it, and then what the rest is read as
use mathlib.Core.Bool.{Bool, true, false, true≢false}
use mathlib.Core.List.{List, [], ◌∷◌, ◌++◌}
use mathlib.Core.Path.{◌≡◌, refl, sym, ap, ◌∙◌}
use Prim.Native.Nat.{ℕ, ◌≤◌}
use native.Mathlib.Omega.{arith}
use lib.Dec.{eqb}
use borrow.Author.Tests.{ne_eqb}
use lib.ListN.{length}
use Rattle.rfc4180.specs.Grammar.{dquote, is_inner, Inner, none, one, two_quotes}
use Rattle.rfc4180.specs.Records.{FieldRead, no_field, field, with_byte, quoted_field}
use Rattle.records.specs.Undoubled.{undoubled}

-- what may stand there alone is no quote
pub quote_no_inner : (byte : ℕ) → is_inner byte ≡ true → eqb byte dquote ≡ false
quote_no_inner byte may = ne_eqb byte 34 (λ is. true≢false (sym (rw is at may)))

-- two contents after each other are a content
pub inner_joined : {content bytes further more : List ℕ} → Inner content bytes → Inner further more
    → Inner (content ++ further) (bytes ++ more)
inner_joined none later = later
inner_joined {further = further} {more = more} (one byte content bytes may rest) later =
    one byte (content ++ further) (bytes ++ more) may (inner_joined rest later)
inner_joined {further = further} {more = more} (two_quotes content bytes rest) later =
    two_quotes (content ++ further) (bytes ++ more) (inner_joined rest later)

-- a byte that is no quote is taken alone
undoubled_other : (byte : ℕ) (bytes : List ℕ) → eqb byte dquote ≡ false
    → undoubled (byte ∷ bytes) ≡ byte ∷ undoubled bytes
unfolding undoubled
undoubled_other byte [] other = refl
undoubled_other byte (next ∷ more) other = rw (other, undoubled)

-- it is the bytes, with one of two quotes
pub inner_undoubled : {content bytes : List ℕ} → Inner content bytes → undoubled bytes ≡ content
unfolding undoubled
inner_undoubled none = refl
inner_undoubled (one byte content bytes may rest) =
    undoubled_other byte bytes (quote_no_inner byte may) ∙ ap (λ (l : List ℕ). byte ∷ l) (inner_undoubled rest)
inner_undoubled (two_quotes content bytes rest) = ap (λ (l : List ℕ). dquote ∷ l) (inner_undoubled rest)

-- it has no more bytes than stand there
pub inner_few : {content bytes : List ℕ} → Inner content bytes → length content ≤ length bytes
inner_few none = omega arith
inner_few (one byte content bytes may rest) = omega (arith, inner_few rest)
inner_few (two_quotes content bytes rest) = omega (arith, inner_few rest)

-- and where it has as many, it is these bytes
pub inner_even : {content bytes : List ℕ} → Inner content bytes → length content ≡ length bytes → content ≡ bytes
inner_even none even = refl
inner_even (one byte content bytes may rest) even =
    ap (λ (l : List ℕ). byte ∷ l) (inner_even rest (omega arith))
inner_even (two_quotes content bytes rest) even = absurd (omega (arith, inner_few rest))

-- a content before what is read
abbrev pub with_content : List ℕ → FieldRead → FieldRead
with_content content no_field = no_field
with_content content (field more rest) = field (content ++ more) rest

-- a byte that is no quote, with nothing after it, closes no field
read_last : (quote : Bool) → quote ≡ false
    → ◌≡◌ {A = FieldRead} (elim quote [ true ↦ field [] [] | false ↦ no_field ]) no_field
read_last quote other = rw other

-- one that may stand there is read on
read_on : (quote may : Bool) (closed more : FieldRead) → quote ≡ false → may ≡ true
    → elim quote [ true ↦ closed | false ↦ elim may [ true ↦ more | false ↦ no_field ] ] ≡ more
read_on quote may closed more other so = rw (other, so)

-- a byte that may stand there is read before what the rest is read as
read_other : (byte : ℕ) (rest : List ℕ) → is_inner byte ≡ true
    → quoted_field (byte ∷ rest) ≡ with_byte byte (quoted_field rest)
unfolding quoted_field
read_other byte [] may = read_last (eqb byte dquote) (quote_no_inner byte may)
read_other byte (next ∷ more) may =
    read_on (eqb byte dquote) (is_inner byte) _ (with_byte byte (quoted_field (next ∷ more))) (quote_no_inner byte may) may

-- a byte before a content is the content with that byte first
with_first : (byte : ℕ) (content : List ℕ) (f : FieldRead)
    → with_byte byte (with_content content f) ≡ with_content (byte ∷ content) f
with_first byte content no_field = refl
with_first byte content (field more rest) = refl

-- an empty content changes nothing
with_nothing : (f : FieldRead) → f ≡ with_content [] f
with_nothing no_field = refl
with_nothing (field more rest) = refl

-- a field that starts with its bytes is read as it, and then what the rest is read as
pub inner_read : {content bytes : List ℕ} (rest : List ℕ) → Inner content bytes
    → quoted_field (bytes ++ rest) ≡ with_content content (quoted_field rest)
unfolding quoted_field
inner_read rest none = with_nothing (quoted_field rest)
inner_read rest (one byte content bytes may more) =
    read_other byte (bytes ++ rest) may
    ∙ ap (with_byte byte) (inner_read rest more)
    ∙ with_first byte content (quoted_field rest)
inner_read rest (two_quotes content bytes more) =
    ap (with_byte dquote) (inner_read rest more) ∙ with_first dquote content (quoted_field rest)
