use Rattle.tb_recur.proofs.Needs.{need_least}
use Rattle.tb_recur.proofs.wanting.need_is_least.Goals as goal

pub returns : goal.returns
returns c = need_least
