use Rattle.std.proofs.Common.{◌∙◌, ℕ, List, Some, ap}
use Rattle.tb_board.specs.declared.world.Person.{Person}
use Rattle.tb_keeper.proofs.Looked.{nobody_own, person_own}
use Rattle.std.proofs.lemmas.Result.{err_from_is_err_and}
use Rattle.tb_lookup.proofs.Excused.{err_told}
use Rattle.tb_keeper.proofs.looking.find_person.Goals as goal

pub returns-in_default-clause-found : goal.returns-in_default-clause-found
returns-in_default-clause-found g c clean s stored = nobody_own s.world c.args.name.now c.in_ok-person.field-0 c.in_default.is (c.in_ok-person.ensures.found clean s stored)

pub returns-in-Ok-clause-found : goal.returns-in-Ok-clause-found
returns-in-Ok-clause-found g c clean s stored =
    ap (λ (name : List ℕ). Some (let own : Person = record { name = name; key = c.in-Some.person.key } in own)) c.in-Ok.ensures
    ∙ person_own s.world c.args.name.now c.in_ok-person.field-0 c.in-Some.person c.in-Some.is (c.in_ok-person.ensures.found clean s stored)

pub returns-in_err-person-clause-excused : goal.returns-in_err-person-clause-excused
returns-in_err-person-clause-excused g c is =
    let p = err_from_is_err_and c.from_residual.result c.from_residual.ensures.1 in
    c.in_err-person.ensures.excused (err_told c.from_residual.result p.0 _ p.1 p.2 is)
