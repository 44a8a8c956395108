use Rattle.std.proofs.Common.{rules}
use Rattle.tb_script.proofs.Failures.{as_before, not_read, not_written, other_fault, told_on}
use Rattle.tb_script.proofs.answering.answer_view.Goals as goal

pub returns-clause-failed : goal.returns-clause-failed
returns-clause-failed g c = as_before c.in_ok-reply.reply _ _ c.in_ok-reply.ensures.failed c.in_ok-reply.ensures.closed

pub returns-in_err-write_view-clause-failed : goal.returns-in_err-write_view-clause-failed
returns-in_err-write_view-clause-failed g c = other_fault _ _ _ (search rules) (as_before c.in_ok-reply.reply _ _ c.in_ok-reply.ensures.failed c.in_ok-reply.ensures.closed)

pub returns-in_err-reply-clause-failed : goal.returns-in_err-reply-clause-failed
returns-in_err-reply-clause-failed g c = told_on c.in_err-reply.field-0.0 c.from_residual.result _ _ (search rules) c.in_err-reply.ensures.failed c.in_err-reply.ensures.closed

pub returns-in_err-reply-clause-read : goal.returns-in_err-reply-clause-read
returns-in_err-reply-clause-read g c = not_read c.in_err-reply.field-0.0 c.from_residual.result (search rules)

pub returns-in_err-reply-clause-written : goal.returns-in_err-reply-clause-written
returns-in_err-reply-clause-written g c = not_written c.in_err-reply.field-0.0 c.from_residual.result (search rules)
