use Rattle.tb_board.specs.World.{has_name}
use Rattle.tb_board.proofs.Places.{place}
use Rattle.tb_board.proofs.first.place_of_person.Goals as goal

pub returns-clause-first : goal.returns-clause-first
returns-clause-first c = rw c.first_person.ensures (place (has_name c.args.name.now) c.args.people.now)
