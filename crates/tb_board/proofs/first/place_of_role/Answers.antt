use Rattle.tb_board.specs.World.{is_role_of}
use Rattle.tb_board.proofs.Places.{place}
use Rattle.tb_board.proofs.first.place_of_role.Goals as goal

pub returns : goal.returns
returns c = rw c.first_role.ensures (place (is_role_of c.args.board c.args.person) c.args.roles.now)
