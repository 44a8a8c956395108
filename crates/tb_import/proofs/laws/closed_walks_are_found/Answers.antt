use Rattle.tb_import.proofs.Again as again
use Rattle.tb_import.proofs.laws.closed_walks_are_found.Goals as goal

pub returns : goal.returns
returns c = again.closed_walks_found
