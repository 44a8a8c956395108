use Rattle.tb_board.proofs.Drafts.{follows-set_ahead}
use Rattle.tb_board.proofs.draft.Draft.set_ahead.Goals as goal

pub returns-clause-follows : goal.returns-clause-follows
returns-clause-follows c = rw c.in_ok-push.ensures.ok (follows-set_ahead c.args.self c.args.ahead)
