use Rattle.std.proofs.Common.{sym, arith}
use Rattle.std.proofs.lemmas.List.{take_all}
use Rattle.std.proofs.lemmas.Grind.{common_steps}
use Rattle.tb_event_loop.proofs.logging.front.Goals as goal

pub returns-in-None : goal.returns-in-None
returns-in-None c = sym (take_all 200 c.args.text.now (grind (arith, common_steps)))
