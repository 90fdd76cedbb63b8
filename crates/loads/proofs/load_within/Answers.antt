use borrow.Author.Rules.{rules}
use Rattle.loads.proofs.LoadLaws.{load_refused, load_ready, load_passed}
use Rattle.loads.proofs.load_within.Goals as goal

pub returns-in_err-of_memory : goal.returns-in_err-of_memory
returns-in_err-of_memory c = search (rules, load_refused)

pub load_ready-requires : goal.load_ready-requires
load_ready-requires c = load_ready _ _ _ c.args.file.now _ c.of_memory.ensures (search rules) c.requires

pub returns : goal.returns
returns c = load_passed _ _ _ _ _ c.of_memory.ensures (search rules) _ _ _ c.load_ready.ensures
