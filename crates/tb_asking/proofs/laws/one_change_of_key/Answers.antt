use Rattle.tb_asking.proofs.OwnKeys.{one_change}
use Rattle.tb_asking.proofs.laws.one_change_of_key.Goals as goal

pub returns : goal.returns
returns c = one_change
