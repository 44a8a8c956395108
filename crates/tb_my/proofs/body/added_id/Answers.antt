use Rattle.std.proofs.Common.{Some, ap, ◌∙◌}
use Rattle.tb_task.specs.TaskId.{named_id}
use Rattle.tb_my.proofs.body.added_id.Goals as goal

pub returns-in-Some : goal.returns-in-Some
returns-in-Some c = rw c.in-Some.is (ap Some (c.named.ensures ∙ ap (named_id _) c.as_bytes.ensures.value))
