-- `records::fields::quoted` meets its contract. The invariant: the bytes so far are a content, of so many bytes. The
-- measure is what is left of the text.
use Rattle.std.proofs.Common.{length}
use Rattle.records.proofs.QuotedLaws.{Reading}
use Rattle.records.proofs.fields.quoted.Given as goal

abbrev pub invariant-loop-more : goal.invariant-loop-more
invariant-loop-more l = Reading l.text l.rest l.len

abbrev pub decreases-loop-more : goal.decreases-loop-more
decreases-loop-more l = length l.rest
