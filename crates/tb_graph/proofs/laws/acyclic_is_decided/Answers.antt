use Rattle.tb_graph.proofs.Leading.{is_acyclic_decides}
use Rattle.tb_graph.proofs.laws.acyclic_is_decided.Goals as goal

pub returns : goal.returns
returns c = is_acyclic_decides
