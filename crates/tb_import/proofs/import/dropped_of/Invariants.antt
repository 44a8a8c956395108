use Rattle.std.proofs.Common.{◌≡◌, ◌+◌, drop, sum_by}
use Rattle.tb_task.specs.declared.incoming.Incoming.{Incoming}
use Rattle.tb_import.proofs.import.dropped_of.Given as goal

abbrev pub invariant-loop-incoming : goal.invariant-loop-incoming
invariant-loop-incoming l = l.dropped + sum_by (λ (i : Incoming). i.dropped) (drop l.incoming-index l.new) ≡ sum_by (λ (i : Incoming). i.dropped) l.new
