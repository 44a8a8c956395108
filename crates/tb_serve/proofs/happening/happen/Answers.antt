use Rattle.tb_serve.proofs.Steps.{happens_at}
use Rattle.tb_serve.specs.Server.{done_of}
use Rattle.tb_serve.proofs.happening.happen.Goals as goal

pub returns-clause-happens : goal.returns-clause-happens
returns-clause-happens g c y s held only =
    happens_at c.args.paths.now.site c.happen_to.result c.args.peers.now c.args.place c.index-peers-place.result c.happen_to.new.peer s (done_of c.args.happening.now)
    (g.K.Keep.holds c.happen_to.new.desk) (g.K.Keep.after_stop c.happen_to.new.desk) c.requires (c.happen_to.ensures.happens y s held only)
