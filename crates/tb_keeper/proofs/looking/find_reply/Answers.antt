use Rattle.std.proofs.Common.{◌≡◌, sym}
use Rattle.std.proofs.lemmas.Result.{IfOk-weaker}
use Rattle.std.specs.FinMap.{get}
use Rattle.sqlite.specs.Held.{state}
use Rattle.tb_lookup.specs.Replies.{IsReplyFound}
use Rattle.tb_lookup.specs.Reopening.{OfState}
use Rattle.tb_lookup.proofs.Standing.{stored_again}
use Rattle.tb_keeper.specs.PeopleAtHand.{IsKnownIn}
use Rattle.tb_keeper.proofs.KnownPeople.{known_first}
use Rattle.tb_keeper.proofs.Looked.{nobody_number, nothing_kept, person_number}
use Rattle.std.proofs.lemmas.Result.{err_from_is_err_and}
use Rattle.tb_sql_tables.proofs.Failing.{faults_then}
use Rattle.tb_lookup.proofs.Excused.{err_told, later_fails}
use Rattle.tb_keeper.proofs.Looked.{number_fits}
use Rattle.tb_keeper.proofs.looking.find_reply.Goals as goal

pub returns-in_default-clause-found : goal.returns-in_default-clause-found
returns-in_default-clause-found g c clean s stored known =
    nothing_kept s (state g.S.Store c.args.conn.now) c.args.name.now c.args.id stored (sym (nobody_number s.world c.args.name.now c.in_ok-person.field-0 c.in_default.is (c.in_ok-person.ensures.found clean s stored known)))

pub returns-clause-found : goal.returns-clause-found
returns-clause-found g c =
    let old = state g.S.Store c.args.conn.now in
    let mid = state g.S.Store c.person_at.new.conn in
    let new = state g.S.Store c.stored_reply.new.conn in
    IfOk-weaker c.stored_reply.result (λ kept. OfState mid new (λ s. IsReplyFound s c.in-Some.person.number c.args.id kept)) (λ kept. OfState old new (λ s. IsKnownIn s.world c.args.people.now.known → kept ≡ get s.kept (c.args.name.now, c.args.id)))
    (λ kept found clean s stored known.
    let first = c.in_ok-person.ensures.found (c.stored_reply.ensures.same.clean clean) s stored known in
    found clean s (stored_again s old mid stored c.in_ok-person.ensures.same c.in_ok-person.ensures.idle) c.args.name.now (sym (person_number s.world c.args.name.now c.in_ok-person.field-0 c.in-Some.person c.in-Some.is first)))
    c.stored_reply.ensures.found

pub returns-clause-people : goal.returns-clause-people
returns-clause-people g c =
    known_first (state g.S.Store c.args.conn.now) (state g.S.Store c.person_at.new.conn) (state g.S.Store c.stored_reply.new.conn) c.args.people.now c.person_at.new.people c.in_ok-person.ensures.people c.stored_reply.ensures.same.clean

pub returns-in_err-person-clause-excused : goal.returns-in_err-person-clause-excused
returns-in_err-person-clause-excused g c is clean ready s both =
    let p = err_from_is_err_and c.from_residual.result c.from_residual.ensures.1 in
    c.in_err-person.ensures.excused (err_told c.from_residual.result p.0 _ p.1 p.2 is) clean ready s both.0

pub returns-clause-excused : goal.returns-clause-excused
returns-clause-excused g c is clean ready s both =
    let old = state g.S.Store c.args.conn.now in
    let mid = state g.S.Store c.person_at.new.conn in
    let new = state g.S.Store c.stored_reply.new.conn in
    let one = c.in_ok-person.ensures in
    let two = c.stored_reply.ensures in
    let first = one.found (two.same.clean clean) s both.0 both.1 in
    let small = number_fits s.world c.args.name.now c.in-Some.person.number both.0.rows.good (sym (person_number s.world c.args.name.now c.in_ok-person.field-0 c.in-Some.person c.in-Some.is first)) in
    later_fails old mid new one.same one.idle one.faults two.same.clean two.faults (two.excused is small) clean ready s both.0

pub returns-clause-faults : goal.returns-clause-faults
returns-clause-faults g c =
    faults_then _ (state g.S.Store c.person_at.new.conn) _ c.in_ok-person.ensures.faults c.stored_reply.ensures.same.clean c.stored_reply.ensures.faults
