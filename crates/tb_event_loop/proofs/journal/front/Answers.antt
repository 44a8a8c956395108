use Rattle.std.proofs.Common.{sym, arith}
use Rattle.std.proofs.lemmas.List.{take_all}
use Rattle.std.proofs.lemmas.Grind.{common_steps}
use Rattle.tb_event_loop.proofs.journal.front.Goals as goal

pub returns-in-None : goal.returns-in-None
returns-in-None c = sym (take_all 16384 c.args.held.now (grind (arith, common_steps)))
