use Rattle.std.proofs.Common.{◌≡◌, ◌++◌, drop}
use Rattle.tb_my.specs.Sent.{calls_of}
use Rattle.tb_my.proofs.sent.calls_of.Given as goal

abbrev pub invariant-loop-task : goal.invariant-loop-task
invariant-loop-task l =
    l.calls ++ calls_of l.name l.verb l.board (drop l.task-index l.named) ≡ calls_of l.name l.verb l.board l.named
