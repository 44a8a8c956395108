use Rattle.tb_board.proofs.Walking.{acyclic_by_walks}
use Rattle.tb_board.proofs.links.acyclic_boards_have_no_walks_back.Goals as goal

pub returns : goal.returns
returns c = acyclic_by_walks
