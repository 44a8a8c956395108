use Rattle.std.proofs.Common.{refl}
use Rattle.tb_task.specs.declared.priority.Priority.TheVariants.{High, Medium, Low}
use Rattle.tb_task.specs.Priority.{priority_of}
use Rattle.tb_task.proofs.priority.priorities_are_read.Goals as goal

pub returns : goal.returns
unfolding priority_of
returns c High = refl
returns c Medium = refl
returns c Low = refl
