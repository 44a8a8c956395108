use Rattle.std.proofs.Common.{◌≡◌, filter, take}
use Rattle.std.specs.List.{filter_map}
use Rattle.tb_calls.specs.Roles.{is_on, person_role}
use Rattle.tb_calls.proofs.roles.people_on.Given as goal

abbrev pub invariant-loop-role : goal.invariant-loop-role
invariant-loop-role l = l.people ≡ filter_map (person_role l.world) (filter (is_on l.board) (take l.role-index l.role-items))
