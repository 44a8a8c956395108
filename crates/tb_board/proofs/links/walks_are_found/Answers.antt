use Rattle.tb_board.proofs.Walking.{leads_by_walks}
use Rattle.tb_board.proofs.links.walks_are_found.Goals as goal

pub returns : goal.returns
returns c = leads_by_walks
