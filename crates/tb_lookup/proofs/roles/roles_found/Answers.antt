use Rattle.sqlite.specs.Held.{state}
use Rattle.tb_lookup.proofs.StoredRoles.{roles_told}
use Rattle.std.proofs.lemmas.Result.{err_from_is_err_and}
use Rattle.tb_lookup.proofs.Excused.{err_told}
use Rattle.tb_lookup.proofs.roles.roles_found.Goals as goal

pub returns-clause-found : goal.returns-clause-found
returns-clause-found g c =
    roles_told (state g.S.Store c.args.conn.now) (state g.S.Store c.roles_alone.new.conn) c.in_ok-alone.alone c.args.board c.args.caller c.args.other c.roles_in.result c.in_ok-alone.ensures.found c.roles_in.ensures

pub returns-in_err-alone-clause-excused : goal.returns-in_err-alone-clause-excused
returns-in_err-alone-clause-excused g c is =
    let p = err_from_is_err_and c.from_residual.result c.from_residual.ensures.1 in
    c.in_err-alone.ensures.excused (err_told c.from_residual.result p.0 _ p.1 p.2 is)
