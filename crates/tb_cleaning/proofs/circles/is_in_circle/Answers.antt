use Rattle.std.proofs.lemmas.Result.{IfOk-weaker}
use Rattle.tb_cleaning.proofs.Graphs.{led}
use Rattle.tb_cleaning.proofs.circles.is_in_circle.Goals as goal

pub returns : goal.returns
returns c = IfOk-weaker c.reaches.result _ _ (λ answer exact. led c.args.graph.now c.args.node c.args.node answer exact) c.reaches.ensures
