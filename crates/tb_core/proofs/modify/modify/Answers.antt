use Rattle.std.proofs.Common.{Some, ap, sym, ◌∙◌}
use Rattle.tb_board.specs.Tasks.{has_id}
use Rattle.tb_board.proofs.Places.{changed_there}
use Rattle.tb_core.specs.Edits.{modified}
use Rattle.tb_core.proofs.Modifying.{IsModified, judged-modified, taken}
use Rattle.tb_core.proofs.modify.modify.Goals as goal

pub returns-clause-gives : goal.returns-clause-gives
returns-clause-gives c =
    let b = c.args.board.now in
    let t = c.task_at-task.result.now in
    let first = c.in-Some.ensures.first in
    let good = taken c.in_ok-later.later c.in_default-check.field-0 c.in_default-check.ensures.verdict in
    let is : IsModified b c.args.id c.args.edits.now c.args.at t =
    record {
      there = first.stands;
      found = first.found t ∙ ap Some (sym c.task_at-task.ensures);
      standing = sym c.is_open_status.ensures ∙ c.if-not-is_open_status.false;
      placed = sym c.has_misplaced_step.ensures ∙ c.if-has_misplaced_step.false;
      good = rw c.in_ok-later.ensures at good;
      free = sym c.is_template_fixed.ensures ∙ c.if-is_template_fixed.false;
    } in
    rw (c.in_ok-later.ensures, changed_there (has_id c.args.id) (modified c.args.at c.args.edits.now) b.tasks c.in-Some.place t first c.task_at-task.ensures)
    (judged-modified b c.args.id c.args.edits.now c.args.at t is)
