use Rattle.tb_history.proofs.Numbering.{noted_last}
use Rattle.tb_history.proofs.laws.deeds_are_noted_last.Goals as goal

pub returns : goal.returns
returns c = noted_last
