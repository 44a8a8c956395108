use Rattle.tb_good.proofs.Parts.{boards_of, people_of, roles_of, world_of}
use Rattle.tb_good.proofs.Telling.{last_tells, part_fails}
use Rattle.tb_good.proofs.worlds.is_good_world.Goals as goal

pub returns-then-not-has_good_roles : goal.returns-then-not-has_good_roles
returns-then-not-has_good_roles c = part_fails c.has_good_roles.result c.if-not-has_good_roles.true c.has_good_roles.ensures (roles_of c.args.world.now)

pub returns-then-not-branch : goal.returns-then-not-branch
returns-then-not-branch c = part_fails c.in_ok-has_good_people.field-0 c.if-not-branch.true c.in_ok-has_good_people.ensures (people_of c.args.world.now)

pub returns : goal.returns
returns c =
    last_tells c.has_good_boards.result
    (world_of c.args.world.now (c.has_good_roles.ensures.0 c.if-not-has_good_roles.false) (c.in_ok-has_good_people.ensures.0 c.if-not-branch.false))
    (boards_of c.args.world.now) c.has_good_boards.ensures
