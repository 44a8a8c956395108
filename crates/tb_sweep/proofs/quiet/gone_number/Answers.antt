use Rattle.std.proofs.Common.{◌∙◌}
use Rattle.tb_sweep.proofs.QuietBoards.{gone_counted}
use Rattle.tb_sweep.proofs.quiet.gone_number.Goals as goal

pub returns : goal.returns
returns c = c.number_of.ensures ∙ gone_counted c.args.id c.args.gone.now
