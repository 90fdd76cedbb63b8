-- A field that is not escaped.
--     textdata_within   its TEXTDATA is no longer than the text
--     bare_read         it is read as the front of that length, and the rest
use Rattle.std.proofs.Common.{◌≡◌, refl, sym, ap, Bool, true, false, cond, List, [], ◌∷◌, ℕ, suc, ◌+◌, ◌≤◌}
use Rattle.std.proofs.Common.{length, take, drop, arith}
use Rattle.std.specs.List.{prefix_len}
use borrow.Author.Tests.{eq-eqb}
use Rattle.rfc4180.specs.Grammar.{is_textdata}
use Rattle.rfc4180.specs.Records.{field, with_byte, bare_field}
use Rattle.records.specs.Undoubled.{content_in}

module _ (byte : ℕ) (more : List ℕ) where
  one_more : 1 + prefix_len is_textdata more ≡ suc (prefix_len is_textdata more)
  one_more = omega arith

  within_by : (test : Bool) → prefix_len is_textdata more ≤ length more
      → cond test (1 + prefix_len is_textdata more) 0 ≤ length (byte ∷ more)
  within_by true within = omega arith
  within_by false within = omega arith

  read_by : (test : Bool)
      → field (take (prefix_len is_textdata more) more) (drop (prefix_len is_textdata more) more) ≡ bare_field more
      → field (take (cond test (1 + prefix_len is_textdata more) 0) (byte ∷ more))
      (drop (cond test (1 + prefix_len is_textdata more) 0) (byte ∷ more))
      ≡ elim test [ true ↦ with_byte byte (bare_field more) | false ↦ field [] (byte ∷ more) ]
  read_by true same = rw one_more (ap (with_byte byte) same)
  read_by false same = refl

-- its TEXTDATA is no longer than the text
pub textdata_within : (text : List ℕ) → prefix_len is_textdata text ≤ length text
textdata_within [] = omega arith
textdata_within (byte ∷ more) = within_by byte more (is_textdata byte) (textdata_within more)

-- it is read as the front of that length, and the rest
front_read : (text : List ℕ)
    → field (take (prefix_len is_textdata text) text) (drop (prefix_len is_textdata text) text) ≡ bare_field text
unfolding bare_field
front_read [] = refl
front_read (byte ∷ more) = read_by byte more (is_textdata byte) (front_read more)

pub bare_read : (text part rest : List ℕ) (len : ℕ) → len ≡ prefix_len is_textdata text → part ≡ take len text
    → rest ≡ drop len text → length part ≡ len → field (content_in part len) rest ≡ bare_field text
bare_read text part rest len by front back even =
    rw (eq-eqb len (length part) (sym even), front, back, by) (front_read text)

-- what `bare` needs
pub ruleset bare_laws = (textdata_within, bare_read)
