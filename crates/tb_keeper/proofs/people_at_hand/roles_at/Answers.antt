use Rattle.std.proofs.Common.{◌∙◌, sym}
use Rattle.sqlite.specs.Held.{state}
use Rattle.tb_keeper.proofs.KnownPeople.{roles_known, roles_still}
use Rattle.std.proofs.lemmas.Result.{err_from_is_err_and}
use Rattle.tb_lookup.proofs.Excused.{err_told}
use Rattle.tb_keeper.proofs.people_at_hand.roles_at.Goals as goal

pub returns-in-Some-clause-found : goal.returns-in-Some-clause-found
returns-in-Some-clause-found g c clean s stored known =
    roles_known s.world c.args.people.now.known c.args.board c.args.caller c.args.other c.in-Some.roles (sym c.in-Some.is ∙ c.known_roles.ensures) known

pub returns-clause-found : goal.returns-clause-found
returns-clause-found g c clean s stored known = c.in_ok-roles.ensures.found clean s stored

pub returns-clause-people : goal.returns-clause-people
returns-clause-people g c =
    roles_still (state g.S.Store c.args.conn.now) (state g.S.Store c.roles_found.new.conn) c.args.people.now c.remember_roles.new.self c.args.board c.args.caller c.args.other c.in_ok-roles.roles
    c.remember_roles.ensures c.in_ok-roles.ensures.found

pub returns-in_err-roles-clause-excused : goal.returns-in_err-roles-clause-excused
returns-in_err-roles-clause-excused g c is =
    let p = err_from_is_err_and c.from_residual.result c.from_residual.ensures.1 in
    c.in_err-roles.ensures.excused (err_told c.from_residual.result p.0 _ p.1 p.2 is)
