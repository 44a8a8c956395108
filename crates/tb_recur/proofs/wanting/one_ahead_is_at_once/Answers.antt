use Rattle.tb_recur.proofs.AtOnce.{one_ahead}
use Rattle.tb_recur.proofs.wanting.one_ahead_is_at_once.Goals as goal

pub returns : goal.returns
returns c = one_ahead
