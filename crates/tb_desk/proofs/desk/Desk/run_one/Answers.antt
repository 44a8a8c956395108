use Rattle.std.proofs.Common.{rules}
use Rattle.tb_desk.proofs.Moves.{memory_alone, stands_still}
use Rattle.tb_desk.proofs.desk.Desk.run_one.Goals as goal

pub returns-then-is_err-clause-stands : goal.returns-then-is_err-clause-stands
returns-then-is_err-clause-stands g c s held only = stands_still s _ _ _ held only

pub returns-in_err-reply-clause-unchanged : goal.returns-in_err-reply-clause-unchanged
returns-in_err-reply-clause-unchanged g c memory =
    memory_alone _ _ _ c.in_err-reply.ensures.failed c.in_err-reply.ensures.closed (search rules)
