use Rattle.std.proofs.Common.{◌≡◌, map, take}
use Rattle.serde_json.specs.View.{view}
use Rattle.tb_calls.specs.RoleBodies.{person_role_data}
use Rattle.tb_calls.proofs.role_bodies.person_roles.Given as goal

abbrev pub invariant-loop-person : goal.invariant-loop-person
invariant-loop-person l = map view l.list.items ≡ map person_role_data (take l.person-index l.people)
