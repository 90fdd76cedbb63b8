-- An escaped field, read byte by byte of its content.
--     Reading           the bytes so far are a content, of so many bytes
--     reading_begins, reading_goes_on    so they are at first, and after one byte of it more
--     reading_closed, reading_unclosed, reading_broken    what is read where the field stops
--     content_counted   its content has so many bytes
use Rattle.std.proofs.Common.{◌≡◌, refl, sym, ap, ◌∙◌, Bool, true, false, cond, List, [], ◌∷◌, ◌++◌, ℕ, ◌+◌, ◌-◌, ◌≤◌, ◌<◌}
use Rattle.std.proofs.Common.{length, get_or, take, drop, eqb, arith, length-append, append_assoc, append-nil, Option, Some, None}
use Rattle.std.proofs.Math.Seq.{take-append_seam}
use Rattle.std.proofs.lemmas.List.{take_all}
use borrow.Author.Tests.{eqb-true, ne_eqb}
use Rattle.rfc4180.specs.Grammar.{Inner, none}
use Rattle.rfc4180.specs.Records.{no_field, field, quoted_field}
use Rattle.records.specs.Undoubled.{undoubled, content_in}
use Rattle.records.specs.Contents.{after_inner}
use Rattle.records.proofs.InnerLaws.{inner_joined, inner_undoubled, inner_even, inner_few, with_content, inner_read}
use Rattle.records.proofs.StepLaws.{StepView, stopped, stopped_at, taken, step_view}

-- the bytes up to what is left are a content, of so many bytes
pub record Reading (text rest : List ℕ) (len : ℕ) : Type 0 where
  pub bytes : List ℕ
  pub content : List ℕ
  pub whole : text ≡ bytes ++ rest
  pub inner : Inner content bytes
  pub many : length content ≡ len
  pub few : len + length rest ≤ length text

-- so they are at first
pub reading_begins : (text : List ℕ) → Reading text text 0
reading_begins text =
    record { bytes = []; content = []; whole = refl; inner = none; many = refl; few = omega arith }

-- what stops a field: a quote, the text's end, another byte
at_quote : (rest : List ℕ) → 1 ≤ length rest → get_or rest 0 0 ≡ 34
    → stopped_at rest ≡ field [] (take (length rest - 1) (drop 1 rest))
at_quote [] one quote = absurd (omega arith)
at_quote (byte ∷ more) one quote = rw (quote, take_all (length (byte ∷ more) - 1) more (omega arith))

at_end : (rest : List ℕ) → length rest < 1 → stopped_at rest ≡ no_field
at_end [] nothing = refl
at_end (byte ∷ more) nothing = absurd (omega arith)

at_other : (rest : List ℕ) → (get_or rest 0 0 ≡ 34 → ⊥) → stopped_at rest ≡ no_field
at_other [] other = refl
at_other (byte ∷ more) other = rw (ne_eqb byte 34 other)

module _ (text rest : List ℕ) (len : ℕ) (so_far : Reading text rest len) where
  -- and after one byte of it more
  pub reading_goes_on : (more : List ℕ) → Some more ≡ after_inner rest → Reading text more (len + 1)
  reading_goes_on more is = by_view (step_view rest) is
    where
      by_view : {o : Option (List ℕ)} → StepView rest o → Some more ≡ o → Reading text more (len + 1)
      by_view (stopped read) is = absurd cc
      by_view (taken byte bytes left inner whole less) is =
          let same : left ≡ more = cc in
          let all : text ≡ (so_far.bytes ++ bytes) ++ more =
          so_far.whole
          ∙ ap (λ (l : List ℕ). so_far.bytes ++ l) (rw same at whole)
          ∙ sym (append_assoc so_far.bytes bytes more) in
          let joined : Inner (so_far.content ++ (byte ∷ [])) (so_far.bytes ++ bytes) = inner_joined so_far.inner inner in
          let count : length (so_far.content ++ (byte ∷ [])) ≡ len + 1 = rw (length-append, so_far.many) in
          record {
            bytes = so_far.bytes ++ bytes;
            content = so_far.content ++ (byte ∷ []);
            whole = all;
            inner = joined;
            many = count;
            few = omega (arith, inner_few joined, ap length all, length-append (so_far.bytes ++ bytes) more, count);
          }

  -- the bytes so far are the front of the text
  front_taken : take (length text - length rest) text ≡ so_far.bytes
  front_taken =
      let front : length text - length rest ≡ length so_far.bytes =
      omega (arith, ap length so_far.whole, length-append so_far.bytes rest) in
      rw (front, so_far.whole) (take-append_seam so_far.bytes rest)

  -- the content is what the part says
  content_so_far : content_in (take (length text - length rest) text) len ≡ so_far.content
  content_so_far = rw front_taken (by_length (eqb len (length so_far.bytes)) refl)
    where
      as_many : len ≡ length so_far.bytes → length so_far.content ≡ length so_far.bytes
      as_many even = so_far.many ∙ even

      by_length : (even : Bool) → eqb len (length so_far.bytes) ≡ even
          → cond even so_far.bytes (undoubled so_far.bytes) ≡ so_far.content
      by_length true is = sym (inner_even so_far.inner (as_many (eqb-true len (length so_far.bytes) is)))
      by_length false is = inner_undoubled so_far.inner

  -- its content has so many bytes
  pub content_counted : length (content_in (take (length text - length rest) text) len) ≡ len
  content_counted = rw content_so_far so_far.many

  -- what is read is the content, and what is read of the rest
  read_so_far : quoted_field text ≡ with_content so_far.content (quoted_field rest)
  read_so_far = ap quoted_field so_far.whole ∙ inner_read rest so_far.inner

  -- where no byte of a content stands, a quote ends the field, or it is broken
  stops : None ≡ after_inner rest → quoted_field text ≡ with_content so_far.content (stopped_at rest)
  stops is = read_so_far ∙ ap (with_content so_far.content) (by_view (step_view rest) is)
    where
      by_view : {o : Option (List ℕ)} → StepView rest o → None ≡ o → quoted_field rest ≡ stopped_at rest
      by_view (stopped read) is = read
      by_view (taken byte bytes left inner whole less) is = absurd cc

  module _ (none_left : None ≡ after_inner rest) where
    -- a quote closes the field
    pub reading_closed : 1 ≤ length rest → get_or rest 0 0 ≡ 34
        → field (content_in (take (length text - length rest) text) len) (take (length rest - 1) (drop 1 rest))
        ≡ quoted_field text
    reading_closed one quote =
        rw content_so_far
        (sym (stops none_left
        ∙ ap (with_content so_far.content) (at_quote rest one quote)
        ∙ ap (λ (l : List ℕ). field l (take (length rest - 1) (drop 1 rest))) (append-nil so_far.content)))

    -- nothing does
    pub reading_unclosed : length rest < 1 → no_field ≡ quoted_field text
    reading_unclosed nothing = sym (stops none_left ∙ ap (with_content so_far.content) (at_end rest nothing))

    -- another byte breaks it
    pub reading_broken : (get_or rest 0 0 ≡ 34 → ⊥) → no_field ≡ quoted_field text
    reading_broken other = sym (stops none_left ∙ ap (with_content so_far.content) (at_other rest other))

-- what `quoted` needs
pub ruleset quoted_laws = (reading_begins, reading_goes_on, content_counted, reading_closed, reading_unclosed, reading_broken)
