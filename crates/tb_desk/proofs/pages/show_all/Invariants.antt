use Rattle.std.proofs.Common.{◌≡◌, map, take}
use Rattle.tb_board.specs.Tasks.{ids}
use Rattle.tb_history.specs.Pages.{shown_entry}
use Rattle.tb_desk.specs.EntryList.{content_among, number_and_entry}
use Rattle.tb_desk.specs.ListKeep.{named}
use Rattle.tb_desk.proofs.pages.show_all.Given as goal

abbrev pub invariant-loop-number : goal.invariant-loop-number
invariant-loop-number l = l.shown ≡ map (shown_entry (content_among (map named l.kept.entries)) (ids l.board.tasks)) (map number_and_entry (take l.number-index l.entries))
