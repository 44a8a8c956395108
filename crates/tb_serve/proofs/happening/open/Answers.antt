use Rattle.tb_serve.proofs.Exchanges.{opened_comes}
use Rattle.tb_serve.proofs.happening.open.Goals as goal

pub returns : goal.returns
returns g c site s held only =
    opened_comes site s c.args.peer.now c.new.result (g.K.Keep.holds c.args.desk.now) (g.K.Keep.after_stop c.args.desk.now) c.new.ensures held only
