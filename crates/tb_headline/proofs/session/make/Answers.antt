use Rattle.tb_calls.specs.Call.{opening}
use Rattle.tb_headline.proofs.Left.{at}
use Rattle.tb_headline.proofs.Refused.{unmade}
use Rattle.tb_headline.proofs.session.make.Goals as goal

pub returns-in-Ok-clause-begun : goal.returns-in-Ok-clause-begun
returns-in-Ok-clause-begun g c opens = rw c.new.ensures (at _ _ _ _ _ _ (c.in-Ok.ensures.created opens) c.in-Ok.ensures.fresh)

pub returns-in-Ok-clause-fresh : goal.returns-in-Ok-clause-fresh
returns-in-Ok-clause-fresh g c = rw c.new.ensures c.in-Ok.ensures.fresh

pub returns-in-Err-clause-unmade : goal.returns-in-Err-clause-unmade
returns-in-Err-clause-unmade g c =
    unmade g.S.Store c.args.conn (opening c.args.name.now c.args.key.now) c.in-Err.unmade.0 c.in-Err.unmade.1
    c.in-Err.ensures.taken c.in-Err.ensures.memory c.in-Err.ensures.store
