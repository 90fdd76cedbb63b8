-- The value that a content writes: none where quotes stand doubled.
use mathlib.Core.Bool.{Bool, true, false, ◌&&◌}
use mathlib.Core.List.{List, [], ◌∷◌}
use Rattle.std.specs.Prelude.{None}
use mathlib.Core.Path.{◌≡◌, refl, sym, ap, ◌∙◌}
use Prim.Native.Nat.{ℕ, suc}
use lib.Dec.{eqb}
use borrow.Author.Tests.{ne_eqb, eqb-true}
use lib.ListN.{length}
use Rattle.decimals.specs.Decimals.{all_digits}
use Rattle.decimals.specs.Values.{value_of}
use Rattle.rfc4180.specs.Grammar.{dquote}
use Rattle.records.specs.Undoubled.{undoubled, content_in}

-- what also asks for a test that fails, fails
and_false : (a : Bool) → (a && false) ≡ false
and_false true = refl
and_false false = refl

-- a text that is not all digits writes no value
no_value : (text : List ℕ) → all_digits text ≡ false → None ≡ value_of text
unfolding value_of
no_value text other = rw (other, and_false)

-- a quote is no digit; after another first byte, the rest decides
module _ (byte next : ℕ) (more : List ℕ) where
  by_first : (quote : Bool) (rest : List ℕ) → eqb byte dquote ≡ quote
      → (length (byte ∷ elim quote [ true ↦ rest | false ↦ undoubled (next ∷ more) ]) ≡ suc (suc (length more)) → ⊥)
      → ((length (undoubled (next ∷ more)) ≡ suc (length more) → ⊥) → all_digits (undoubled (next ∷ more)) ≡ false)
      → all_digits (byte ∷ elim quote [ true ↦ rest | false ↦ undoubled (next ∷ more) ]) ≡ false
  by_first true rest is shorter later = rw (eqb-true byte dquote is)
  by_first false rest is shorter later = rw (later (λ even. shorter (ap suc even)), and_false)

-- a content that is shorter than its part has a quote, which is no digit
shorter_no_digits : (part : List ℕ) → (length (undoubled part) ≡ length part → ⊥) → all_digits (undoubled part) ≡ false
unfolding undoubled
shorter_no_digits [] shorter = absurd (shorter refl)
shorter_no_digits (byte ∷ []) shorter = absurd (shorter refl)
shorter_no_digits (byte ∷ next ∷ more) shorter =
    by_first byte next more (eqb byte dquote) (undoubled more) refl shorter (shorter_no_digits (next ∷ more))

-- a content in which quotes stand doubled writes none
pub no_value_doubled : (part : List ℕ) (len : ℕ) → (len ≡ length part → ⊥) → length (content_in part len) ≡ len
    → None ≡ value_of (content_in part len)
no_value_doubled part len uneven counted =
    let many : length (undoubled part) ≡ len = rw (ne_eqb len (length part) uneven) at counted in
    rw (ne_eqb len (length part) uneven)
    (no_value (undoubled part) (shorter_no_digits part (λ even. uneven (sym many ∙ even))))
