use Rattle.tb_core.proofs.Quiet.{draft_accepted}
use Rattle.tb_core.proofs.deciding.judge_board.Goals as goal

pub returns : goal.returns
returns c =
    rw c.into_changes-changes.ensures
    (draft_accepted c.args.board.now c.args.command.now c.args.at c.in_ok-draft.field-0.draft c.in_ok-draft.field-0.answer c.in_ok-draft.ensures.gives c.in_ok-draft.ensures.made)
