use Rattle.std.proofs.Common.{arith, rules}
use Rattle.tb_command_line.proofs.Colons.{split_at_last}
use Rattle.tb_my.proofs.named.range_named.Goals as goal

pub returns-in-Some : goal.returns-in-Some
returns-in-Some c =
    let split = split_at_last 45 c.args.part.now _ c.rsplit_once.ensures.cases (omega arith) in
    rw (← split) (grind rules)

pub returns-in-None : goal.returns-in-None
returns-in-None c =
    let split = split_at_last 45 c.args.part.now _ c.rsplit_once.ensures.cases (omega arith) in
    rw (← split) (grind rules)
