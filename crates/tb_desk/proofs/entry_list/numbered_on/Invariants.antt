use Rattle.std.proofs.Common.{◌≡◌, map, take}
use Rattle.tb_history.specs.History.{numbered}
use Rattle.tb_desk.specs.EntryList.{entries_in, number_and_entry}
use Rattle.tb_desk.proofs.entry_list.numbered_on.Given as goal

abbrev pub invariant-loop-entry : goal.invariant-loop-entry
invariant-loop-entry l = map number_and_entry l.list.items ≡ numbered 1 (entries_in l.board (take l.entry-index l.entries))
