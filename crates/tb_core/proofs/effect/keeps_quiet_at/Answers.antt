use Rattle.std.proofs.Common.{◌≡◌, get_or}
use Rattle.tb_sweep.proofs.QuietBoards.{quiet_set}
use Rattle.tb_core.proofs.effect.keeps_quiet_at.Goals as goal

pub returns-then-is_still : goal.returns-then-is_still
returns-then-is_still c so quiet =
    let still = c.is_still.ensures c.if-is_still.true in
    let old = c.in-Some.old.now in
    let here : old ≡ get_or c.args.board.now.tasks c.args.place old = rw c.in-Some.is at c.get.ensures.item.1 in
    quiet_set c.args.at c.args.board.now c.args.place old c.args.task.now here (rw c.get-then-is_still.ensures at (c.has_same_place.ensures.parent so)) (rw c.get-then-is_still.ensures at (c.has_same_place.ensures.place so)) still.sleeps still.plain quiet
