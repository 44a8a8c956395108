use Rattle.tb_sweep.proofs.QuietBoards.{quiet_push}
use Rattle.tb_core.proofs.effect.BoardChange.keeps_quiet.Goals as goal

pub returns-in-Push : goal.returns-in-Push
returns-in-Push c so quiet =
    let still = c.is_still.ensures so in
    rw c.in-Push.is (quiet_push c.args.at c.args.board.now c.in-Push.task still.sleeps still.plain quiet)
