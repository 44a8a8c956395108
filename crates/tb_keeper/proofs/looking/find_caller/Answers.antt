use Rattle.tb_keeper.proofs.Looked.{nobody_number, person_number}
use Rattle.std.proofs.lemmas.Result.{err_from_is_err_and}
use Rattle.tb_lookup.proofs.Excused.{err_told}
use Rattle.tb_keeper.proofs.looking.find_caller.Goals as goal

pub returns-in-Some-clause-found : goal.returns-in-Some-clause-found
returns-in-Some-clause-found g c clean s stored known = person_number s.world c.args.name.now c.in_ok-person.field-0 c.in-Some.person c.in-Some.is (c.in_ok-person.ensures.found clean s stored known)

pub returns-in-None-clause-found : goal.returns-in-None-clause-found
returns-in-None-clause-found g c clean s stored known = nobody_number s.world c.args.name.now c.in_ok-person.field-0 c.in-None.is (c.in_ok-person.ensures.found clean s stored known)

pub returns-in_err-person-clause-excused : goal.returns-in_err-person-clause-excused
returns-in_err-person-clause-excused g c is =
    let p = err_from_is_err_and c.from_residual.result c.from_residual.ensures.1 in
    c.in_err-person.ensures.excused (err_told c.from_residual.result p.0 _ p.1 p.2 is)
