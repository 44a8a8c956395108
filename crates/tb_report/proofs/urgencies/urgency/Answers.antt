use Rattle.std.proofs.Common.{◌≡◌, ◌∙◌, ◌-◌, Some, ap, arith, sym}
use Rattle.std.proofs.lemmas.Int.{to_z-of_z}
use Rattle.tb_report.specs.Urgencies.{urgency_at}
use Rattle.tb_report.proofs.Woken.{urgency-woken}
use Rattle.tb_report.proofs.urgencies.urgency.Goals as goal

pub returns : goal.returns
returns c =
    let b = c.args.board.now in
    let t = c.task_at.result.now in
    let found = urgency-woken b c.args.at c.args.place (c.args.place - 1) t (omega (arith, c.requires.from_one)) (omega (arith, c.requires.from_one, c.requires.on_board)) c.task_at.ensures in
    let told : urgency_at b c.args.at c.args.place ≡ Some c.urgency_of_woken.result =
    found ∙ ap Some (sym (rw (c.is_blocked_task-is_blocked.ensures, c.is_blocking_task-is_blocking.ensures) at c.urgency_of_woken.ensures)) in
    grind (arith, to_z-of_z, told)
