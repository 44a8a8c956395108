use Rattle.std.proofs.Common.{◌≡◌, IfOk, subst}
use Rattle.tb_todotxt.specs.Reading.{line_of}
use Rattle.tb_todotxt.specs.Making.{task_of}
use Rattle.tb_todotxt.proofs.file.task_at.Goals as goal

pub returns : goal.returns
returns c =
    subst (λ n. IfOk c.to_task.result (λ task. task ≡ task_of (line_of c.args.line.now) c.args.moment c.args.board n)) c.occurrences.ensures
    (subst (λ l. IfOk c.to_task.result (λ task. task ≡ task_of l c.args.moment c.args.board c.occurrences.result)) c.in_ok-line_read.ensures c.to_task.ensures)
