use Rattle.std.proofs.Common.{map}
use Rattle.tb_json.specs.Writing.{shown_text}
use Rattle.tb_json.proofs.ListSteps.{list_text-tail}
use Rattle.tb_json.proofs.writing.write_tasks.Goals as goal

pub loop-task-init : goal.loop-task-init
loop-task-init c = rw c.in_ok-text.ensures.ok (list_text-tail (map shown_text c.args.tasks.now))
