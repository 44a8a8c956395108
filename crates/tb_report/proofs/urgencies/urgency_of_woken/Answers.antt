use Rattle.std.proofs.Common.{◌≡◌, ◌∙◌, arith, sym}
use Rattle.std.proofs.lemmas.Int.{to_z-of_z}
use Rattle.tb_board.specs.Tasks.{woken}
use Rattle.tb_report.specs.Urgencies.{urgency_of}
use Rattle.tb_report.proofs.Woken.{sum-woken}
use Rattle.tb_report.proofs.urgencies.urgency_of_woken.Goals as goal

pub returns : goal.returns
returns c =
    let sum : c.sum_of.result ≡ urgency_of c.args.is_blocked c.args.is_blocking c.args.at (woken c.args.at c.args.task.now) =
    c.sum_of.ensures ∙ rw (c.own_parts_of.ensures.parts, c.is_still_waiting-is_waiting.ensures) (sym (sum-woken c.args.is_blocked c.args.is_blocking c.args.at c.args.task.now)) in
    grind (arith, to_z-of_z, sum)
