use Rattle.std.proofs.Common.{take}
use Rattle.tb_good.specs.Templates.{AreTemplates}
use Rattle.tb_good.proofs.parents.templates_of.Given as goal

abbrev pub invariant-loop-task : goal.invariant-loop-task
invariant-loop-task l = AreTemplates (take l.task-index l.tasks) l.templates
