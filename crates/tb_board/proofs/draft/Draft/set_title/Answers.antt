use Rattle.tb_board.proofs.Drafts.{follows-set_title}
use Rattle.tb_board.proofs.draft.Draft.set_title.Goals as goal

pub returns-clause-follows : goal.returns-clause-follows
returns-clause-follows c =
    rw (c.in_ok-push.ensures.ok, c.in_ok-duplicate.ensures, c.in_ok-board.ensures) (follows-set_title c.args.self c.args.title.now)
