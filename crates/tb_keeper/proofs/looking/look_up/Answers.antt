use Rattle.std.proofs.Common.{◌∙◌, sym}
use Rattle.std.proofs.lemmas.Result.{IfOk-weaker}
use Rattle.sqlite.specs.Held.{state}
use Rattle.tb_cache.specs.BoardCache.{AreOf}
use Rattle.tb_lookup.specs.Reopening.{OfState}
use Rattle.tb_lookup.proofs.Standing.{stored_again}
use Rattle.tb_keeper.specs.Looking.{IsGlance, IsGlanceAt}
use Rattle.tb_keeper.specs.PeopleAtHand.{IsKnownIn}
use Rattle.tb_keeper.proofs.KnownPeople.{known_both}
use Rattle.tb_keeper.proofs.Looked.{glance_off, glance_on, seen_under}
use Rattle.std.proofs.lemmas.Result.{err_from_is_err_and}
use Rattle.tb_sql_tables.proofs.Failing.{faults_then}
use Rattle.tb_lookup.proofs.Excused.{err_told, later_fails}
use Rattle.tb_keeper.proofs.looking.look_up.Goals as goal

pub returns-in-Some-clause-found : goal.returns-in-Some-clause-found
returns-in-Some-clause-found g c =
    let old = state g.S.Store c.args.conn.now in
    let mid = state g.S.Store c.find_parties.new.conn in
    let new = state g.S.Store c.glance_at.new.conn in
    let on = sym c.board.ensures ∙ c.in-Some.is in
    IfOk-weaker c.glance_at.result (λ glance. OfState mid new (λ s. AreOf s.world c.args.cache.now.entries → IsKnownIn s.world c.find_parties.new.people.known → IsGlanceAt s.world c.in-Some.board c.takes.result c.in_ok-parties.parties glance))
    (λ glance. OfState old new (λ s. AreOf s.world c.args.cache.now.entries → IsKnownIn s.world c.args.people.now.known → IsGlance s.world c.args.name.now c.args.command.now glance))
    (λ glance found clean s stored are known.
    glance_on s.world c.args.name.now c.args.command.now c.in_ok-parties.parties glance c.in-Some.board on (c.in_ok-parties.ensures.found (c.glance_at.ensures.same.clean clean) s stored known)
    (rw c.takes.ensures at (found clean s (stored_again s old mid stored c.in_ok-parties.ensures.same c.in_ok-parties.ensures.idle) are
    (c.in_ok-parties.ensures.people.known_is (c.glance_at.ensures.same.clean clean) s stored known))))
    c.glance_at.ensures.found

pub returns-in-Some-clause-cached : goal.returns-in-Some-clause-cached
returns-in-Some-clause-cached g c clean s stored are =
    c.glance_at.ensures.cached clean s (stored_again s (state g.S.Store c.args.conn.now) (state g.S.Store c.find_parties.new.conn) stored c.in_ok-parties.ensures.same c.in_ok-parties.ensures.idle) are

pub returns-in-None-clause-found : goal.returns-in-None-clause-found
returns-in-None-clause-found g c clean s stored are known =
    glance_off s.world c.args.name.now c.args.command.now c.in_ok-parties.parties c.seen_person.result (sym c.board.ensures ∙ c.in-None.is) (c.in_ok-parties.ensures.found clean s stored known) c.seen_person.ensures

pub returns-in-Some-clause-at_hand : goal.returns-in-Some-clause-at_hand
returns-in-Some-clause-at_hand g c =
    let on = sym c.board.ensures ∙ c.in-Some.is in
    IfOk-weaker c.glance_at.result _ _ (λ glance at n other. seen_under c.glance_at.new.cache.entries _ c.in-Some.board glance.board on at n other) c.glance_at.ensures.at_hand

pub returns-in-Some-clause-people : goal.returns-in-Some-clause-people
returns-in-Some-clause-people g c =
    known_both (state g.S.Store c.args.conn.now) (state g.S.Store c.find_parties.new.conn) (state g.S.Store c.glance_at.new.conn) c.args.people.now c.find_parties.new.people c.glance_at.new.people
    c.in_ok-parties.ensures.people c.glance_at.ensures.people c.in_ok-parties.ensures.same c.in_ok-parties.ensures.idle c.glance_at.ensures.same.clean

pub returns-in_err-parties-clause-excused : goal.returns-in_err-parties-clause-excused
returns-in_err-parties-clause-excused g c is =
    let p = err_from_is_err_and c.from_residual.result c.from_residual.ensures.1 in
    c.in_err-parties.ensures.excused (err_told c.from_residual.result p.0 _ p.1 p.2 is)

pub returns-in-Some-clause-excused : goal.returns-in-Some-clause-excused
returns-in-Some-clause-excused g c is =
    let one = c.in_ok-parties.ensures in
    let two = c.glance_at.ensures in
    later_fails (state g.S.Store c.args.conn.now) (state g.S.Store c.find_parties.new.conn) (state g.S.Store c.glance_at.new.conn) one.same one.idle one.faults two.same.clean two.faults (two.excused is)

pub returns-in-Some-clause-faults : goal.returns-in-Some-clause-faults
returns-in-Some-clause-faults g c =
    faults_then _ (state g.S.Store c.find_parties.new.conn) _ c.in_ok-parties.ensures.faults c.glance_at.ensures.same.clean c.glance_at.ensures.faults
