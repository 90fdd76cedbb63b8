-- The insert of a label that stands in the text.
-- `part_ready`, `part_given`: where its part is its content. `gather_fits`, `gathered_ready`, `gathered_given`: where
-- quotes stand doubled, and it is gathered.
use mathlib.Core.Bool.{Bool, cond}
use mathlib.Core.List.{List}
use mathlib.Core.Path.{◌≡◌, sym, ap, ◌∙◌}
use Prim.Native.Nat.{ℕ, ◌≤◌}
use native.Mathlib.Omega.{arith}
use lib.ListN.{length, take}
use borrow.Author.Tests.{eq-eqb, ne_eqb}
use Rattle.types.specs.declared.Limits.{Limits}
use Rattle.types.specs.Answers.{Answer}
use Rattle.tables.specs.Outcomes.{insert_outcome}
use Rattle.tables.specs.Given.{Gives}
use Rattle.endings.specs.Ready.{Ready}
use Rattle.records.specs.declared.contents.Content.{Content}
use Rattle.records.specs.Undoubled.{undoubled}
use Rattle.records.specs.Contents.{content_of}
use Rattle.rosters.specs.Inserted.{LabelReady}

module _ (limits : Limits) (table store : List ℕ) (label : Content) (buffer : List ℕ)
    (ready : LabelReady limits table store label buffer) where
  abbrev Part : List ℕ
  Part = label.part.now

  module _ (whole : label.len ≡ length label.part.now) where
    -- The content is the part.
    is_part : content_of label ≡ Part
    is_part = ap (λ (b : Bool). cond b Part (undoubled Part)) (eq-eqb _ _ whole)

    -- The part can be inserted,
    pub part_ready : Ready limits table store label.part.now
    part_ready = rw is_part at ready.ready

    -- and gives what the content's insert gives.
    pub part_given : (value : ℕ) (answer : Answer) (words bytes : List ℕ)
        → Gives (insert_outcome limits table store label.part.now value) answer words bytes
        → Gives (insert_outcome limits table store (content_of label) value) answer words bytes
    part_given value answer words bytes gives = rw is_part gives

  module _ (doubled : label.len ≡ length label.part.now → ⊥) where
    -- The content is the part without the doubled quotes.
    is_undoubled : content_of label ≡ undoubled Part
    is_undoubled = ap (λ (b : Bool). cond b Part (undoubled Part)) (ne_eqb _ _ doubled)

    has_length : length (undoubled Part) ≡ label.len
    has_length = sym (ap length is_undoubled) ∙ label.counted

    -- The buffer has room for it,
    pub gather_fits : length (undoubled label.part.now) ≤ length buffer
    gather_fits =
        let short = ready.ready.label.short in
        let many = label.counted in
        let room = ready.room in
        omega (arith, has_length)

    module _ (gathered : List ℕ) (holds : take (length (undoubled label.part.now)) gathered ≡ undoubled label.part.now) where
      -- and then holds it at its front.
      is_gathered : take label.len gathered ≡ content_of label
      is_gathered = sym (ap (λ (n : ℕ). take n gathered) has_length) ∙ holds ∙ sym is_undoubled

      -- That can be inserted,
      pub gathered_ready : Ready limits table store (take label.len gathered)
      gathered_ready = rw is_gathered ready.ready

      -- and gives what the content's insert gives.
      pub gathered_given : (value : ℕ) (answer : Answer) (words bytes : List ℕ)
          → Gives (insert_outcome limits table store (take label.len gathered) value) answer words bytes
          → Gives (insert_outcome limits table store (content_of label) value) answer words bytes
      gathered_given value answer words bytes gives = rw is_gathered at gives

-- what `insert_label` needs
pub ruleset label_laws = (part_ready, part_given, gather_fits, gathered_ready, gathered_given)
