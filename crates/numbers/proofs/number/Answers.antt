use borrow.Author.Rules.{rules}
use mathlib.Core.Path.{◌∙◌}
use Rattle.numbers.proofs.ByRule.{numbers_by_rule}
use Rattle.numbers.proofs.number.Goals as goal

pub returns : goal.returns
returns c = c.entry.ensures ∙ numbers_by_rule.rule c.args.byte (search rules)
