use Rattle.tb_board.proofs.Drafts.{follows-set}
use Rattle.tb_board.proofs.draft.Draft.set.Goals as goal

pub returns-clause-follows : goal.returns-clause-follows
returns-clause-follows c =
    rw (c.set.ensures, c.in_ok-push.ensures.ok, c.in_ok-put_task.ensures, c.in_ok-task.ensures)
    (follows-set c.args.self c.args.place c.args.task c.requires)
