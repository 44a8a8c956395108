use Rattle.tb_core.proofs.Extending.{extends}
use Rattle.tb_core.proofs.laws.extends.Goals as goal

pub returns : goal.returns
returns c = extends
