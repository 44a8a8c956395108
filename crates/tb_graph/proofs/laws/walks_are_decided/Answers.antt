use Rattle.tb_graph.proofs.Leading.{leads_decides}
use Rattle.tb_graph.proofs.laws.walks_are_decided.Goals as goal

pub returns : goal.returns
returns c = leads_decides
