use Rattle.std.proofs.Common.{◌∙◌, sym}
use Rattle.sqlite.specs.Held.{state}
use Rattle.tb_keeper.proofs.KnownPeople.{found_at_hand, found_still, known_found}
use Rattle.std.proofs.lemmas.Result.{err_from_is_err_and}
use Rattle.tb_lookup.proofs.Excused.{err_told}
use Rattle.tb_keeper.proofs.people_at_hand.person_at.Goals as goal

pub returns-in-Ok-Some-clause-found : goal.returns-in-Ok-Some-clause-found
returns-in-Ok-Some-clause-found g c clean s stored known = known_found s.world c.args.people.now.known c.args.name.now c.in-Ok-Some.person (sym c.in-Ok-Some.field-0-is ∙ c.in-Ok-Some.ensures) known

pub returns-in-Ok-Some-clause-at_hand : goal.returns-in-Ok-Some-clause-at_hand
returns-in-Ok-Some-clause-at_hand g c = sym c.in-Ok-Some.field-0-is ∙ c.in-Ok-Some.ensures

pub returns-in-Ok-clause-found : goal.returns-in-Ok-clause-found
returns-in-Ok-clause-found g c clean s stored known = c.in_ok-found.ensures.found clean s stored

pub returns-in-Ok-clause-at_hand : goal.returns-in-Ok-clause-at_hand
returns-in-Ok-clause-at_hand g c =
    found_at_hand c.args.name.now c.args.people.now c.remember.new.self c.in_ok-found.found (sym c.in-Ok-None.field-0-is ∙ c.in-Ok-None.ensures) c.remember.ensures.none c.in-Ok.ensures.known

pub returns-in-Ok-clause-people : goal.returns-in-Ok-clause-people
returns-in-Ok-clause-people g c =
    found_still c.args.name.now c.args.people.now c.remember.new.self (state g.S.Store c.args.conn.now) (state g.S.Store c.stored_person.new.conn) c.in_ok-found.found c.remember.ensures.count c.remember.ensures.none c.in-Ok.ensures.known
    c.in_ok-found.ensures.found

pub returns-in_err-found-clause-excused : goal.returns-in_err-found-clause-excused
returns-in_err-found-clause-excused g c is =
    let p = err_from_is_err_and c.from_residual.result c.from_residual.ensures.1 in
    c.in_err-found.ensures.excused (err_told c.from_residual.result p.0 _ p.1 p.2 is)
