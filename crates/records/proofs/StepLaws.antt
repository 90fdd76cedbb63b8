-- What comes after one byte of an escaped field's content.
--     StepView    where one stands at the front, it is one byte of a content; where none does, a quote ends the field,
--                 or it is broken
--     step_view   so it is in every text
use Rattle.std.proofs.Common.{◌≡◌, refl, sym, ◌∙◌, Bool, true, false, ◌&&◌, cond, List, [], ◌∷◌, ◌++◌, ℕ, ◌<◌}
use Rattle.std.proofs.Common.{length, eqb, arith, Option, Some, None}
use mathlib.Core.Bool.{true≢false}
use borrow.Author.Tests.{eqb-true}
use Rattle.rfc4180.specs.Grammar.{dquote, is_inner, Inner, none, one, two_quotes}
use Rattle.rfc4180.specs.Records.{FieldRead, no_field, field, quoted_field}
use Rattle.records.specs.Contents.{after_inner}
use Rattle.records.proofs.InnerLaws.{quote_no_inner}

-- what an escaped field is at a quote alone, or at a byte that breaks it
abbrev pub stopped_at : List ℕ → FieldRead
stopped_at [] = no_field
stopped_at (byte ∷ rest) = cond (eqb byte dquote) (field [] rest) no_field

-- where one stands at the front, it is one byte of a content; where none does, a quote ends the field, or it is broken
pub data StepView (text : List ℕ) : Option (List ℕ) → Type 0 where
  stopped : quoted_field text ≡ stopped_at text → StepView text None
  taken : (byte : ℕ) (bytes rest : List ℕ) → Inner (byte ∷ []) bytes → text ≡ bytes ++ rest → length rest < length text
      → StepView text (Some rest)

-- a last byte closes the field where it is a quote
last_closes : (quote : Bool)
    → elim quote [ true ↦ field [] [] | false ↦ no_field ] ≡ cond quote (field [] []) no_field
last_closes true = refl
last_closes false = refl

-- of a last byte: itself, or none
of_last : (byte : ℕ) (may : Bool) → is_inner byte ≡ may → StepView (byte ∷ []) (cond may (Some []) None)
unfolding quoted_field
of_last byte true is = taken byte (byte ∷ []) [] (one byte [] [] is none) refl (omega arith)
of_last byte false is = stopped (last_closes (eqb byte dquote))

module _ (byte next : ℕ) (more : List ℕ) where
  -- two quotes are one
  of_quotes : byte ≡ dquote → next ≡ dquote → StepView (byte ∷ next ∷ more) (Some more)
  of_quotes first second =
      taken dquote (dquote ∷ dquote ∷ []) more (two_quotes [] [] none) (rw (first, second)) (omega arith)

  -- a quote alone closes the field
  closes : (quote again : Bool) (twice other : FieldRead) → quote ≡ true → again ≡ false
      → elim quote [ true ↦ elim again [ true ↦ twice | false ↦ field [] (next ∷ more) ] | false ↦ other ]
      ≡ cond quote (field [] (next ∷ more)) no_field
  closes quote again twice other is alone = rw (is, alone)

  -- another byte that may not stand there breaks it
  breaks : (quote may : Bool) (closed further : FieldRead) → quote ≡ false → may ≡ false
      → elim quote [ true ↦ closed | false ↦ elim may [ true ↦ further | false ↦ no_field ] ]
      ≡ cond quote (field [] (next ∷ more)) no_field
  breaks quote may closed further other never = rw (other, never)

  -- of two bytes: two quotes, a quote alone, one other byte, or none
  of_two : (quote again may : Bool) → eqb byte dquote ≡ quote → eqb next dquote ≡ again → is_inner byte ≡ may
      → StepView (byte ∷ next ∷ more) (cond (quote && again) (Some more) (cond may (Some (next ∷ more)) None))
  unfolding quoted_field
  of_two true true may first second is =
      of_quotes (eqb-true byte dquote first) (eqb-true next dquote second)
  of_two true false true first second is =
      absurd (true≢false (sym first ∙ quote_no_inner byte is))
  of_two true false false first second is =
      stopped (closes (eqb byte dquote) (eqb next dquote) _ _ first second)
  of_two false again true first second is =
      taken byte (byte ∷ []) (next ∷ more) (one byte [] [] is none) refl (omega arith)
  of_two false again false first second is = stopped (breaks (eqb byte dquote) (is_inner byte) _ _ first is)

-- so it is in every text
pub step_view : (text : List ℕ) → StepView text (after_inner text)
unfolding quoted_field
step_view [] = stopped refl
step_view (byte ∷ []) = of_last byte (is_inner byte) refl
step_view (byte ∷ next ∷ more) =
    of_two byte next more (eqb byte dquote) (eqb next dquote) (is_inner byte) refl refl refl
