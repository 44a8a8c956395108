use Rattle.std.proofs.Common.{length, subst}
use Rattle.std.proofs.lemmas.Result.{IfOk-weaker}
use Rattle.tb_graph.specs.Blocked.{is_blocked}
use Rattle.tb_graph.specs.Marks.{AreMarks}
use Rattle.tb_board.specs.Blocked.{are_open}
use Rattle.tb_board.specs.Links.{links}
use Rattle.tb_board.proofs.BlockedTasks.{listed}
use Rattle.tb_board.proofs.Linking.{links-length}
use Rattle.tb_board.proofs.links.blocked_marks.Goals as goal

pub returns : goal.returns
returns c =
    IfOk-weaker c.blocked.result _ _
    (λ marks are b is opened.
    let test = is_blocked (links b) (are_open b.tasks) in
    listed (length b.tasks) test marks.items (subst (λ n. AreMarks n test marks.items) (links-length b) (rw (is, opened) at are)))
    c.blocked.ensures
