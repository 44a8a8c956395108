use Rattle.std.proofs.Common.{◌≡◌, ℕ, Bool, not, ◌==◌, false, ◌∙◌, sym}
use Rattle.tb_rows.proofs.QuickRows.{same_id, set_rows_are}
use Rattle.tb_rows.proofs.quick.set_rows.Goals as goal

pub returns : goal.returns
returns c people =
    c.in_ok-rows.ensures
    ∙ set_rows_are c.args.board.now c.args.place c.args.task.now c.task_at.result.now c.requires.within c.requires.plain c.task_at.ensures
    (same_id c.task_at.result.now.id c.args.task.now.id c.ne.result c.ne.ensures c.if-ne.false) people
