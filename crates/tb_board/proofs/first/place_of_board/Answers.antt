use Rattle.tb_board.specs.World.{has_number}
use Rattle.tb_board.proofs.Places.{place}
use Rattle.tb_board.proofs.first.place_of_board.Goals as goal

pub returns : goal.returns
returns c = rw c.first_board.ensures (place (has_number c.args.number) c.args.boards.now)
