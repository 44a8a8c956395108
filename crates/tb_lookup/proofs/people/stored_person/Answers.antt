use Rattle.std.proofs.Common.{None, filter, subst}
use Rattle.tb_sql.specs.Changes.{is_named}
use Rattle.tb_sql_tables.specs.Found.{IsOneOf}
use Rattle.tb_lookup.specs.People.{IsPersonFound}
use Rattle.tb_lookup.proofs.NamedPeople.{nobody, person_found, secret_never, somebody, HasRow}
use Rattle.std.proofs.lemmas.Result.{err_from_is_err_and}
use Rattle.sqlite.specs.Held.{state}
use Rattle.tb_lookup.proofs.Excused.{by_content, err_told, never, same_err, unread}
use Rattle.tb_lookup.proofs.people.stored_person.Goals as goal

pub returns-in_default-clause-found : goal.returns-in_default-clause-found
returns-in_default-clause-found g c clean s stored =
    let people = stored.content.people in
    let name = c.as_str.result.now in
    let found = subst (IsOneOf (filter (is_named name) people)) c.in_default.is (c.in_ok-row.ensures.found clean stored.content stored.stands) in
    subst (λ n. IsPersonFound s.world n None) c.as_str.ensures (nobody s.world stored.rows.good.apart stored.rows.form.people people stored.rows.same.tables.people name found)

pub returns-in-Ok-clause-found : goal.returns-in-Ok-clause-found
returns-in-Ok-clause-found g c clean s stored =
    let people = stored.content.people in
    let name = c.as_str.result.now in
    let row = c.in-Some.row in
    let found = subst (IsOneOf (filter (is_named name) people)) c.in-Some.is (c.in_ok-row.ensures.found clean stored.content stored.stands) in
    let has = subst (λ n. HasRow s.world n row) c.as_str.ensures (somebody s.world stored.rows.good.apart stored.rows.form.people people stored.rows.same.tables.people name row found) in
    person_found s.world c.args.name.now row c.in-Ok.key has c.in-Ok.ensures

pub returns-in_err-row-clause-excused : goal.returns-in_err-row-clause-excused
returns-in_err-row-clause-excused g c is =
    let here = c.in_err-row.ensures in
    let p = err_from_is_err_and c.from_residual.result c.from_residual.ensures.1 in
    by_content (state g.S.Store c.args.conn.now) (state g.S.Store c.person_row_named.new.conn) here.same (here.excused (err_told c.from_residual.result p.0 _ p.1 p.2 is))

pub returns-clause-excused : goal.returns-clause-excused
returns-clause-excused g c is =
    never (state g.S.Store c.args.conn.now) (state g.S.Store c.person_row_named.new.conn) (λ clean s stored.
    let people = stored.content.people in
    let name = c.as_str.result.now in
    let row = c.in-Some.row in
    let found = subst (IsOneOf (filter (is_named name) people)) c.in-Some.is (c.in_ok-row.ensures.found clean stored.content stored.stands) in
    let has = somebody s.world stored.rows.good.apart stored.rows.form.people people stored.rows.same.tables.people name row found in
    secret_never s.world name row has (unread c.in-Err.fault c.fault_of.result _ c.in-Err.ensures c.fault_of.ensures.memory (same_err _ _ is)))
