use Rattle.sqlite.specs.Held.{state}
use Rattle.tb_lookup.proofs.Standing.{stored_again}
use Rattle.tb_keeper.proofs.KnownPeople.{known_first}
use Rattle.tb_keeper.proofs.Looked.{glance_at}
use Rattle.std.proofs.lemmas.Result.{err_from_is_err_and}
use Rattle.tb_sql_tables.proofs.Failing.{faults_then}
use Rattle.tb_lookup.proofs.Excused.{err_told, later_fails}
use Rattle.tb_keeper.proofs.looking.glance_at.Goals as goal

pub returns-in_err-seen-clause-cached : goal.returns-in_err-seen-clause-cached
returns-in_err-seen-clause-cached g c clean s stored are =
    c.in_err-seen.ensures.cached clean s (stored_again s (state g.S.Store c.args.conn.now) (state g.S.Store c.roles_at.new.conn) stored c.in_ok-roles.ensures.same c.in_ok-roles.ensures.idle) are

pub returns-clause-cached : goal.returns-clause-cached
returns-clause-cached g c clean s stored are =
    c.in_ok-seen.ensures.cached clean s (stored_again s (state g.S.Store c.args.conn.now) (state g.S.Store c.roles_at.new.conn) stored c.in_ok-roles.ensures.same c.in_ok-roles.ensures.idle) are

pub returns-clause-found : goal.returns-clause-found
returns-clause-found g c clean s stored are known =
    let at_mid = stored_again s (state g.S.Store c.args.conn.now) (state g.S.Store c.roles_at.new.conn) stored c.in_ok-roles.ensures.same c.in_ok-roles.ensures.idle in
    glance_at s.world c.args.board c.args.takes c.args.parties c.unwrap_or-caller.result c.in_ok-roles.roles c.role_of_caller-role.result c.in_ok-seen.seen c.seen_person.result c.unwrap_or-caller.ensures
    (c.in_ok-roles.ensures.found (c.in_ok-seen.ensures.same.clean clean) s stored known) c.role_of_caller-role.ensures (c.in_ok-seen.ensures.found clean s at_mid are) c.seen_person.ensures

pub returns-in_err-seen-clause-people : goal.returns-in_err-seen-clause-people
returns-in_err-seen-clause-people g c =
    known_first (state g.S.Store c.args.conn.now) (state g.S.Store c.roles_at.new.conn) (state g.S.Store c.see_board.new.conn) c.args.people.now c.roles_at.new.people c.in_ok-roles.ensures.people c.in_err-seen.ensures.same.clean

pub returns-clause-people : goal.returns-clause-people
returns-clause-people g c =
    known_first (state g.S.Store c.args.conn.now) (state g.S.Store c.roles_at.new.conn) (state g.S.Store c.see_board.new.conn) c.args.people.now c.roles_at.new.people c.in_ok-roles.ensures.people c.in_ok-seen.ensures.same.clean

pub returns-in_err-roles-clause-excused : goal.returns-in_err-roles-clause-excused
returns-in_err-roles-clause-excused g c is =
    let p = err_from_is_err_and c.from_residual.result c.from_residual.ensures.1 in
    c.in_err-roles.ensures.excused (err_told c.from_residual.result p.0 _ p.1 p.2 is)

pub returns-in_err-seen-clause-excused : goal.returns-in_err-seen-clause-excused
returns-in_err-seen-clause-excused g c is =
    let one = c.in_ok-roles.ensures in
    let two = c.in_err-seen.ensures in
    let p = err_from_is_err_and c.from_residual-in_err-seen.result c.from_residual-in_err-seen.ensures.1 in
    later_fails (state g.S.Store c.args.conn.now) (state g.S.Store c.roles_at.new.conn) (state g.S.Store c.see_board.new.conn) one.same one.idle one.faults two.same.clean two.faults (c.in_err-seen.ensures.excused (err_told c.from_residual-in_err-seen.result p.0 _ p.1 p.2 is))

pub returns-in_err-seen-clause-faults : goal.returns-in_err-seen-clause-faults
returns-in_err-seen-clause-faults g c =
    faults_then _ (state g.S.Store c.roles_at.new.conn) _ c.in_ok-roles.ensures.faults c.in_err-seen.ensures.same.clean c.in_err-seen.ensures.faults

pub returns-clause-faults : goal.returns-clause-faults
returns-clause-faults g c =
    faults_then _ (state g.S.Store c.roles_at.new.conn) _ c.in_ok-roles.ensures.faults c.in_ok-seen.ensures.same.clean c.in_ok-seen.ensures.faults
