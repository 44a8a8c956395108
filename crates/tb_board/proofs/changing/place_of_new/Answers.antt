use Rattle.tb_board.proofs.RoleOrder.{new_found, new_last, within_found}
use Rattle.tb_board.proofs.changing.place_of_new.Goals as goal

pub returns-in-Some-clause-within : goal.returns-in-Some-clause-within
returns-in-Some-clause-within c = within_found c.args.role c.args.roles.now c.in-Some.place c.in-Some.ensures

pub returns-in-Some-clause-place : goal.returns-in-Some-clause-place
returns-in-Some-clause-place c = new_found c.args.role c.args.roles.now c.in-Some.place c.in-Some.ensures

pub returns-in-None-clause-place : goal.returns-in-None-clause-place
returns-in-None-clause-place c = new_last c.args.role c.args.roles.now c.in-None.ensures
