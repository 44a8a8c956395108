use Rattle.std.proofs.Common.{rules}
use Rattle.tb_core.proofs.Quiet.{quiet_accepts, refused_quiet}
use Rattle.tb_core.proofs.deciding.judge_quiet.Goals as goal

pub returns-clause-gives : goal.returns-clause-gives
returns-clause-gives c =
    let gives = rw c.in-Effect.is at c.in_ok-effect.ensures.gives in
    let fits = rw c.in-Effect.is at c.in_ok-effect.ensures.fits in
    rw c.in_ok-changes.ensures
    (quiet_accepts c.args.board.now c.args.command.now c.args.at c.in-Effect.effect.change c.in-Effect.effect.detail
    (c.is_quiet.ensures c.if-not-is_quiet.false) (c.keeps_quiet.ensures c.if-not-keeps_quiet.false (c.is_quiet.ensures c.if-not-is_quiet.false)) fits gives)

pub returns-in_err-effect-clause-refused : goal.returns-in_err-effect-clause-refused
returns-in_err-effect-clause-refused c =
    refused_quiet c.args.board.now c.args.command.now c.args.at c.from_residual.result (c.is_quiet.ensures c.if-not-is_quiet.false) (search rules)
