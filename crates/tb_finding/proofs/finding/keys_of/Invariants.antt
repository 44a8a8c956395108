use Rattle.std.proofs.Common.{◌≡◌, ◌++◌, drop}
use Rattle.tb_finding.specs.Order.{keys_from}
use Rattle.tb_finding.proofs.finding.keys_of.Given as goal

-- the keys so far and those of the tasks that are left are all
abbrev pub invariant-loop-place : goal.invariant-loop-place
invariant-loop-place l =
    l.keys.items ++ keys_from l.clock l.query l.projects l.look l.place (drop l.place l.look.tasks)
    ≡ keys_from l.clock l.query l.projects l.look 0 l.look.tasks
