use Rattle.tb_core.proofs.RoleDecisions.{role_decided}
use Rattle.tb_core.proofs.giving.role_decision.Goals as goal

pub returns : goal.returns
returns c =
    let swept = c.in_ok-draft-2.ensures in
    role_decided c.args.board.now _ c.args.person c.args.role c.args.at c.in_ok-draft-2.field-0.draft _ _ _ _ c.in_ok-draft.ensures.board
    (swept.follows c.args.board.now c.in_ok-draft.ensures.made) swept.board swept.added swept.more c.into_changes-changes.ensures c.in_ok-push.ensures.ok
