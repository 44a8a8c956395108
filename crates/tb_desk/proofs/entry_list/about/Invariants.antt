use Rattle.std.proofs.Common.{◌≡◌, filter, map, take}
use Rattle.tb_history.specs.Pages.{is_about}
use Rattle.tb_desk.specs.EntryList.{number_and_entry}
use Rattle.tb_desk.proofs.entry_list.about.Given as goal

abbrev pub invariant-loop-number : goal.invariant-loop-number
invariant-loop-number l = map number_and_entry l.list.items ≡ filter (is_about l.place) (map number_and_entry (take l.number-index l.entries))
