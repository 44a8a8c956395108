use Rattle.std.proofs.Common.{◌≡◌, ◌+◌, not, drop, count_by, sum_by}
use Rattle.tb_task.specs.declared.incoming.Incoming.{Incoming}
use Rattle.tb_import.specs.Sets.{has}
use Rattle.tb_import.proofs.import.unlinked_of.Given as goal

abbrev pub invariant-loop-incoming : goal.invariant-loop-incoming
invariant-loop-incoming l =
    l.unlinked + sum_by (λ (i : Incoming). count_by (λ id. not (has l.ids id)) i.task.depends) (drop l.incoming-index l.new)
    ≡ sum_by (λ (i : Incoming). count_by (λ id. not (has l.ids id)) i.task.depends) l.new
