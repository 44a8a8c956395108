use Rattle.std.proofs.Common.{take}
use Rattle.tb_sweep.specs.Masks.{instance_mark, AreNoted}
use Rattle.tb_sweep.proofs.masks.note_instances.Given as goal

abbrev pub invariant-loop-task : goal.invariant-loop-task
invariant-loop-task l = AreNoted (instance_mark l.id (take l.task-index l.tasks)) l.fn.marks l.marks
