use Rattle.tb_board.proofs.Drafts.{follows-push}
use Rattle.tb_board.proofs.draft.Draft.push.Goals as goal

pub returns-clause-follows : goal.returns-clause-follows
returns-clause-follows c =
    rw (c.in_ok-push-2.ensures.ok, c.in_ok-push.ensures.ok, c.in_ok-put_task.ensures, c.in_ok-task.ensures)
    (follows-push c.args.self c.len.result c.args.task c.len.ensures)
