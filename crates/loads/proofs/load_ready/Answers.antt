use borrow.Author.Rules.{rules}
use mathlib.Core.Path.{◌≡◌}
use Rattle.std.specs.Prelude.{Err}
use Rattle.loads.proofs.LoadLaws.{count_broken, file_refused, file_loaded, cleared_ready}
use Rattle.loads.proofs.load_ready.Goals as goal

pub returns-in_err-size : goal.returns-in_err-size
returns-in_err-size c =
    let refused : c.from_residual.result ≡ Err c.in_err-size.field-0.0 = search rules in
    rw refused
    (count_broken _ _ _ _ _ c.take.ensures.result_value _ _ c.ok_or.ensures.value (search rules))

pub insert_entries-requires : goal.insert_entries-requires
insert_entries-requires c = search (rules, cleared_ready)

pub returns-in_err-scan : goal.returns-in_err-scan
returns-in_err-scan c = search (rules, file_refused)

pub returns : goal.returns
returns c =
    file_loaded _ _ _ _ _ c.take.ensures.result_value c.in_ok-size.size (search rules) _ c.scan.ensures (search rules)
    c.requires _ _ (search rules) (search rules) _ _ c.insert_entries.ensures
