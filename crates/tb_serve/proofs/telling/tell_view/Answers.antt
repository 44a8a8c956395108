use Rattle.tb_serve.proofs.Standing.{view_failed}
use Rattle.tb_serve.proofs.telling.tell_view.Goals as goal

pub returns-in-Err-clause-stands : goal.returns-in-Err-clause-stands
returns-in-Err-clause-stands g c s held only = view_failed s _ _ _ _ c.in-Err.fault c.in-Err.ensures.same held only
