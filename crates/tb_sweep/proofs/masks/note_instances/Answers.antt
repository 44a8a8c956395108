use Rattle.std.proofs.Common.{take}
use Rattle.std.proofs.lemmas.List.{take_more}
use Rattle.tb_sweep.proofs.Noting.{instances_next}
use Rattle.tb_sweep.proofs.masks.note_instances.Goals as goal

pub loop-task-preserved : goal.loop-task-preserved
loop-task-preserved c =
    rw (take_more c.args.tasks.now c.loop-task.task-index c.task-item.result c.loop-task-test.true, ← c.task-item.is)
    (instances_next c.args.id (take c.loop-task.task-index c.args.tasks.now) c.task-item.result c.args.marks.now c.loop-task.marks c.note_instance.new.marks c.loop-task.invariant (rw c.get.ensures at c.note_instance.ensures))
