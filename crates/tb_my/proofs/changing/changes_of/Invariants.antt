use Rattle.std.proofs.Common.{◌≡◌, ◌++◌, drop}
use Rattle.tb_my.specs.Changing.{changes_of}
use Rattle.tb_my.proofs.changing.changes_of.Given as goal

abbrev pub invariant-loop-task : goal.invariant-loop-task
invariant-loop-task l =
    l.all ++ changes_of l.board l.edit l.said l.needed (drop l.task-index l.named)
    ≡ changes_of l.board l.edit l.said l.needed l.named
