use Rattle.tb_board.proofs.Drafts.{follows-take_gone}
use Rattle.tb_board.proofs.draft.Draft.take_gone.Goals as goal

pub returns-clause-follows : goal.returns-clause-follows
returns-clause-follows c =
    rw (c.in_ok-push.ensures.ok, c.in_ok-board.ensures, c.as_slice.ensures) (follows-take_gone c.args.self c.args.template c.args.place)
