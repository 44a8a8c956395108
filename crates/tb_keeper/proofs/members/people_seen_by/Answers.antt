use Rattle.sqlite.specs.Held.{state}
use Rattle.tb_lookup.proofs.Standing.{stored_again}
use Rattle.tb_keeper.proofs.SeenPeople.{nobody_seen, people_seen}
use Rattle.tb_keeper.proofs.members.people_seen_by.Goals as goal

pub returns-in_ok-stored_people_on-in-Some-clause-found : goal.returns-in_ok-stored_people_on-in-Some-clause-found
returns-in_ok-stored_people_on-in-Some-clause-found g c clean s stored =
    let old = state g.S.Store c.args.conn.now in
    let mid = state g.S.Store c.roles_found.new.conn in
    let roles = c.in_ok-roles.ensures.found (c.in_ok-stored_people_on-in-Some.ensures.same.clean clean) s stored in
    people_seen s.world c.args.board c.args.person c.in_ok-roles.roles.caller roles.caller_is _ c.in_ok-stored_people_on-in-Some.field-0 c.in-Some.is
    (c.in_ok-stored_people_on-in-Some.ensures.found clean s (stored_again s old mid stored c.in_ok-roles.ensures.same c.in_ok-roles.ensures.idle))

pub returns-in-None-clause-found : goal.returns-in-None-clause-found
returns-in-None-clause-found g c clean s stored =
    let roles = c.in_ok-roles.ensures.found clean s stored in
    nobody_seen s.world c.args.board c.args.person c.in_ok-roles.roles.caller roles.caller_is c.in-None.is
