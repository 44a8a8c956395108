use Rattle.std.proofs.Common.{◌≡◌, map, take}
use Rattle.tb_board.specs.declared.world.Person.{Person}
use Rattle.tb_good.proofs.people.names_of.Given as goal

abbrev pub invariant-loop-person : goal.invariant-loop-person
invariant-loop-person l = map (λ name. name.now) l.names.items ≡ map (λ (person : Person). person.name) (take l.person-index l.people)
