use Rattle.std.proofs.Common.{refl}
use Rattle.tb_task.specs.declared.status.Status.TheVariants.{Pending, Waiting, Recurring, Completed, Deleted}
use Rattle.tb_task.specs.Status.{status_of}
use Rattle.tb_task.proofs.status.statuses_are_read.Goals as goal

pub returns : goal.returns
unfolding status_of
returns c Pending = refl
returns c Waiting = refl
returns c Recurring = refl
returns c Completed = refl
returns c Deleted = refl
