use Rattle.words.proofs.Laws.{stored_in_turn}
use native.Mathlib.Omega.{arith}
use Rattle.words.proofs.total.put_row.Goals as goal

pub returns : goal.returns
returns c = let at_entry_lem = c.args in
    stored_in_turn at_entry_lem.table.now at_entry_lem.slot at_entry_lem.row
    c.row_start-base.ensures (omega arith) c.set_word.ensures
    c.set_word-2.ensures c.set_word-3.ensures c.set_word-4.ensures c.set_word-5.ensures
    c.set_word-6.ensures c.set_word-7.ensures c.set_word-8.ensures
