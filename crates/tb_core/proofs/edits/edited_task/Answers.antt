use Rattle.tb_core.proofs.EditSteps.{IsOther, edited-other}
use Rattle.tb_core.proofs.edits.edited_task.Goals as goal

pub returns-in_default : goal.returns-in_default
returns-in_default c =
    let same = c.as_str.ensures.bytes in
    let other : IsOther c.args.edit.now = record {
      description = rw same at c.in_default.not-description;
      due = rw same at c.in_default.not-due;
      priority = rw same at c.in_default.not-priority;
      project = rw same at c.in_default.not-project;
      recur = rw same at c.in_default.not-recur;
      scheduled = rw same at c.in_default.not-scheduled;
      tags = rw same at c.in_default.not-tags;
      until = rw same at c.in_default.not-until;
      wait = rw same at c.in_default.not-wait;
    } in
    rw (edited-other c.args.edit.now c.args.task other) c.extended_task.ensures
