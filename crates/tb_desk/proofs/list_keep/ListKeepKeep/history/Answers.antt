use Rattle.std.proofs.Common.{◌∙◌, ap, map}
use Rattle.tb_board.specs.Tasks.{ids}
use Rattle.tb_history.specs.Pages.{page_of}
use Rattle.tb_desk.specs.EntryList.{content_among, entries_in}
use Rattle.tb_desk.specs.ListKeep.{named}
use Rattle.tb_desk.proofs.Lists.{page_listed}
use Rattle.tb_desk.proofs.list_keep.ListKeepKeep.history.Goals as goal

pub returns-clause-answer : goal.returns-clause-answer
returns-clause-answer c honest s held =
    let kept = c.args.self.now.kept.entries in
    let board = c.args.board.now in
    c.in_ok-page_of.ensures
    ∙ ap (λ xs. page_of (content_among (map named kept)) (ids board.tasks) (entries_in board.number xs) c.args.which) c.as_slice.ensures.value
    ∙ page_listed c.args.self.now.world kept c.args.self.now.entries.items s board c.args.which held
