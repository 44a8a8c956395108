use Rattle.std.proofs.Common.{◌-◌}
use Rattle.tb_client.proofs.Tries.{Going}
use Rattle.tb_client.proofs.asking.ask_until_answered.Given as goal

abbrev pub invariant-turns : goal.invariant-turns
invariant-turns g l = Going g.L.Line.follows l.message l.tries l.pause l.fn.line l.line

abbrev pub decreases-turns : goal.decreases-turns
decreases-turns g l = 1000000 - l.tries
