use Rattle.tb_serve.proofs.Exchanges.{went_happens}
use Rattle.tb_serve.proofs.happening.go.Goals as goal

pub returns : goal.returns
returns g c site s held only =
    went_happens site s c.args.peer.now c.mark_sent.new.self c.args.count (g.K.Keep.holds c.args.desk.now) (g.K.Keep.after_stop c.args.desk.now) c.mark_sent.ensures held only
