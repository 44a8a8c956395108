use Rattle.std.proofs.Common.{◌≡◌, ◌++◌, drop}
use Rattle.tb_my.specs.Adding.{further_ids, ids_joined}
use Rattle.tb_my.proofs.adding.ids_joined.Given as goal

abbrev pub invariant-loop-task : goal.invariant-loop-task
invariant-loop-task l = l.text ++ further_ids (drop l.task-index l.more) ≡ ids_joined l.first l.more
