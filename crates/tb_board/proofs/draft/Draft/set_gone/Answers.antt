use Rattle.tb_board.proofs.Drafts.{follows-set_gone}
use Rattle.tb_board.proofs.draft.Draft.set_gone.Goals as goal

pub returns-clause-follows : goal.returns-clause-follows
returns-clause-follows c = rw (c.in_ok-push-2.ensures.ok, c.in_ok-push.ensures.ok) (follows-set_gone c.args.self c.args.gone.now)
