use Rattle.std.proofs.Common.{rules}
use Rattle.records.proofs.QuotedLaws.{reading_unclosed, reading_broken}
use Rattle.records.proofs.fields.quoted.Goals as goal
use Rattle.records.proofs.fields.quoted.Goals.{in_default-rest-via-then-rest-lt1, in_default-rest-via-else-rest-lt1+in_default-1}

pub returns-in_default-rest : goal.returns-in_default-rest
returns-in_default-rest c =
    elim c.in_default-rest.branch [
      | in_default-rest-via-then-rest-lt1 w ↦ reading_unclosed _ _ _ c.loop-more.invariant c.in_default.ensures (search rules)
      | in_default-rest-via-else-rest-lt1+in_default-1 w ↦ reading_broken _ _ _ c.loop-more.invariant c.in_default.ensures (search rules)
    ]
