use Rattle.std.proofs.Common.{length, subst}
use Rattle.std.proofs.lemmas.Result.{IfOk-weaker}
use Rattle.tb_graph.specs.Marks.{AreMarks}
use Rattle.tb_board.specs.Blocked.{are_open, is_blocking}
use Rattle.tb_board.specs.Links.{links}
use Rattle.tb_board.proofs.BlockedTasks.{blocking_marks, listed}
use Rattle.tb_board.proofs.Linking.{links-length}
use Rattle.tb_board.proofs.links.blocking_marks.Goals as goal

pub returns : goal.returns
returns c =
    IfOk-weaker c.blocking.result _ _
    (λ marks are b is opened.
    let test = is_blocking (links b) (are_open b.tasks) in
    listed (length b.tasks) test marks.items (subst (λ n. AreMarks n test marks.items) (links-length b) (blocking_marks (links b) (are_open b.tasks) marks.items (rw (is, opened) at are))))
    c.blocking.ensures
