use Rattle.sqlite.specs.Held.{state}
use Rattle.tb_lookup.proofs.StoredRoles.{roles_never, roles_stored}
use Rattle.std.proofs.lemmas.Result.{err_from_is_err_and}
use Rattle.tb_lookup.proofs.Excused.{by_content, err_told, never, same_err, unread}
use Rattle.tb_lookup.proofs.roles.roles_alone.Goals as goal

pub returns-in-Ok-clause-found : goal.returns-in-Ok-clause-found
returns-in-Ok-clause-found g c =
    roles_stored (state g.S.Store c.args.conn.now) (state g.S.Store c.role_rows.new.conn) c.args.board c.as_slice.result.now c.in-Ok.roles (rw c.as_slice.ensures c.in_ok-rows.ensures.found) (rw c.new.ensures at c.in-Ok.ensures)

pub returns-in_err-rows-clause-excused : goal.returns-in_err-rows-clause-excused
returns-in_err-rows-clause-excused g c is =
    let here = c.in_err-rows.ensures in
    let p = err_from_is_err_and c.from_residual.result c.from_residual.ensures.1 in
    by_content (state g.S.Store c.args.conn.now) (state g.S.Store c.role_rows.new.conn) here.same (here.excused (err_told c.from_residual.result p.0 _ p.1 p.2 is))

pub returns-clause-excused : goal.returns-clause-excused
returns-clause-excused g c is =
    let old = state g.S.Store c.args.conn.now in
    let new = state g.S.Store c.role_rows.new.conn in
    never old new (roles_never old new c.args.board c.as_slice.result.now (rw c.as_slice.ensures c.in_ok-rows.ensures.found)
    (unread c.in-Err.fault c.fault_of.result _ (rw c.new.ensures at c.in-Err.ensures) c.fault_of.ensures.memory (same_err _ _ is)))
