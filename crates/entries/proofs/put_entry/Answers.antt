use Rattle.entries.proofs.EntryLaws.{entry_filled}
use Rattle.entries.proofs.put_entry.Goals as goal

pub returns : goal.returns
returns c = search entry_filled
