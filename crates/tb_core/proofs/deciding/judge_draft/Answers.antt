use Rattle.tb_core.proofs.Early.{takes_awake}
use Rattle.tb_core.proofs.deciding.judge_draft.Goals as goal

pub judge-requires : goal.judge-requires
judge-requires c = rw (c.in_ok-draft-2.ensures.board, c.in_ok-draft.ensures.board) (takes_awake c.args.board.now c.args.at c.args.command.now c.requires)
