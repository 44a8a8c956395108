use Rattle.tb_history.proofs.Numbering.{entries_stay}
use Rattle.tb_history.proofs.laws.entries_stay.Goals as goal

pub returns : goal.returns
returns c = entries_stay
