use Rattle.sqlite.specs.Held.{state}
use Rattle.tb_lookup.proofs.Standing.{stored_again}
use Rattle.tb_keeper.proofs.Looked.{first_found}
use Rattle.tb_keeper.proofs.looking.find_first.Goals as goal

pub returns-in-Some-clause-found : goal.returns-in-Some-clause-found
returns-in-Some-clause-found g c clean s stored =
    let old = state g.S.Store c.args.conn.now in
    let mid = state g.S.Store c.stored_name.new.conn in
    let named = c.in_ok-name.ensures.found (c.in_ok-person.ensures.same.clean clean) s stored in
    let at_mid = stored_again s old mid stored c.in_ok-name.ensures.same c.in_ok-name.ensures.idle in
    first_found s.world c.in_ok-name.name c.in_ok-person.field-0 c.in-Some.person c.in-Some.is named.is (c.in_ok-person.ensures.found clean s at_mid)
