use Rattle.tb_core.proofs.KnownKeys.{keeps_keys}
use Rattle.tb_core.proofs.laws.keeps_keys.Goals as goal

pub returns : goal.returns
returns c = keeps_keys
