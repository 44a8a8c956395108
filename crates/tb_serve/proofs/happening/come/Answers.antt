use Rattle.tb_serve.proofs.Exchanges.{came_happens, gone_happens}
use Rattle.tb_serve.proofs.happening.come.Goals as goal

pub returns-in-Ok-clause-happens : goal.returns-in-Ok-clause-happens
returns-in-Ok-clause-happens g c site s held only =
    came_happens site s c.args.peer.now c.take.new.self c.args.piece.now (g.K.Keep.holds c.args.desk.now) (g.K.Keep.after_stop c.args.desk.now) c.in-Ok.ensures.ok held only

pub returns-in-Err-clause-happens : goal.returns-in-Err-clause-happens
returns-in-Err-clause-happens g c site s held only =
    gone_happens site s c.args.peer.now c.take.new.self c.args.piece.now (g.K.Keep.holds c.args.desk.now) (g.K.Keep.after_stop c.args.desk.now) c.in-Err.ensures.err held only
