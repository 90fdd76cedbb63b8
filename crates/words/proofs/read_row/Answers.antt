use borrow.Author.Rules.{rules}
use Rattle.words.proofs.Laws.{row_read}
use Rattle.words.proofs.read_row.Goals as goal

pub returns : goal.returns
returns c = row_read _ _ _ _ c.row_by.ensures (λ at word is. search rules)
