use Rattle.std.proofs.Common.{◌+◌, ◌∙◌, subst, sym, take}
use Rattle.tb_good.specs.Templates.{AreTemplates}
use Rattle.tb_good.proofs.TemplateSets.{templates_more, templates_same}
use Rattle.tb_good.proofs.parents.templates_of.Goals as goal
use Rattle.tb_good.proofs.parents.templates_of.Goals.{then-is_template_task+in_ok-insert, else-is_template_task}

pub loop-task-preserved : goal.loop-task-preserved
loop-task-preserved c =
    let ts = c.args.tasks.now in
    let i = c.loop-task.task-index in
    let t = c.task-item.result in
    let old = c.loop-task.templates in
    let tested = rw c.get.ensures at c.is_template_task.ensures in
    elim c.if-is_template_task.branch [
      | then-is_template_task+in_ok-insert w ↦
          subst (AreTemplates (take (i + 1) ts)) (sym w.templates-is)
          (templates_more ts i t old c.loop-task-test.true c.task-item.is c.loop-task.invariant w.insert.new.self (sym tested ∙ w.if-is_template_task.true)
          (rw w.get-then-is_template_task.ensures at w.in_ok-insert.ensures.updates.0))
      | else-is_template_task w ↦
          subst (AreTemplates (take (i + 1) ts)) (sym w.templates-is)
          (templates_same ts i t old c.loop-task-test.true c.task-item.is c.loop-task.invariant (sym tested ∙ w.if-is_template_task.false))
    ]
