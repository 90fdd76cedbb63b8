use Rattle.saves.proofs.FileFits.{room_of_count, room_of_entries, file_filled}
use Rattle.saves.proofs.SavingLaws.{saving_done}
use Rattle.saves.proofs.save_ready.Goals as goal

pub put-start-requires : goal.put-start-requires
put-start-requires c = search room_of_count

pub write_from-end-requires : goal.write_from-end-requires
write_from-end-requires c = search room_of_entries

pub returns : goal.returns
returns c = search (saving_done, file_filled)
