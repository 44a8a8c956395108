use Rattle.std.proofs.Common.{sym, ◌∙◌}
use Rattle.tb_task.proofs.Masks.{status_marked}
use Rattle.tb_task.proofs.mark.Mark.of.Goals as goal

pub returns : goal.returns
returns c = c.read.ensures ∙ status_marked c.args.status c.in_ok-byte.byte (sym c.char_of.ensures ∙ c.in_ok-byte.was)
